-- The slots of a round, and the table after it.
use Rattle.std.specs.Prelude.{◌≡◌, Bool, cond, ◌&&◌, ◌||◌, ℕ, ◌+◌, ◌≤◌, ◌<◌, leb, ltb, eqb, length, take}
use Rattle.std.proofs.Math.Logic.{ite}
use Rattle.std.proofs.Math.Logic.Dec.{and as Dec-and}
use mathlib.Core.List.{List, [], ◌∷◌, Mem, Pairwise, map, filter, dec_mem}
use Rattle.std.proofs.Math.Decide.{dec_le, ℕ_discrete}
use Rattle.basics.specs.Lexicographic.{Then}
use Rattle.rules.specs.Streams.{Stream, Packet, packet, due, MayRide, PacketOf}

-- Annex 5.2: p comes before q: it is due earlier; with equal due times, released earlier; with these equal too, of the smaller number.
abbrev pub ComesBefore : Packet → Packet → Type 0
ComesBefore p q = Then p.due q.due (Then p.release q.release (p.number < q.number))

-- Annex 5.1: q is a rider of a round at s: a packet of the table, whichever of its stream from the unserved one on, that may ride at s.
abbrev pub IsRider : ℕ → List Stream → Packet → Type 0
IsRider s ss q = PacketOf ss q × MayRide q s

-- Annex 5.3: the slots of a round at s: riders in their order, at most b, that come before each rider left out; and one is left out only where there are
-- b of them. No other list is; where all unserved packets are due after s, it has those of the streams that `slots` below computes.
pub record IsSlots (b s : ℕ) (ss : List Stream) (qs : List Packet) : Type 0 where
  pub ride : (q : Packet) → Mem q qs → IsRider s ss q
  pub ordered : Pairwise ComesBefore qs
  pub few : length qs ≤ b
  pub first : (p q : Packet) → Mem p qs → IsRider s ss q → (Mem q qs → ⊥) → ComesBefore p q
  pub full : (q : Packet) → IsRider s ss q → (Mem q qs → ⊥) → length qs ≡ b

-- Annex 2.3: whether a packet may ride can be decided.
abbrev pub may_ride : (q : Packet) (s : ℕ) → Dec (MayRide q s)
may_ride q s = Dec-and (dec_le q.release s) (dec_le (s + 1) q.due)

-- Annex 5.5: the streams whose unserved packet may ride in a round at s.
unfoldable pub riders : ℕ → List Stream → List Stream
riders s ss = filter (λ (x : Stream). may_ride (packet x 0) s) ss

-- Annex 5.2: whether the unserved packet of x goes before that of y, by due time, then release, then number.
unfoldable pub goes_before : Stream → Stream → Bool
goes_before x y =
    ltb (due x) (due y)
    || (eqb (due x) (due y) && (ltb x.release y.release || (eqb x.release y.release && leb x.number y.number)))

-- Annex 5.3: x put into its place in a list that is in that order.
unfoldable pub put_in_order : Stream → List Stream → List Stream
put_in_order x [] = x ∷ []
put_in_order x (y ∷ ys) = cond (goes_before x y) (x ∷ y ∷ ys) (y ∷ put_in_order x ys)

-- Annex 5.3: the streams of a list in that order.
unfoldable pub in_order : List Stream → List Stream
in_order [] = []
in_order (x ∷ xs) = put_in_order x (in_order xs)

-- Annex 5.5: the slots, found by each stream's unserved packet alone: of the streams whose unserved packet may ride at s, the first b in that order.
unfoldable pub slots : ℕ → ℕ → List Stream → List Stream
slots b s ss = take b (in_order (riders s ss))

-- Annex 5.6: the stream with its unserved packet sent: the next packet is released one period later.
abbrev pub next : Stream → Stream
next x = record { number = x.number; period = x.period; deadline = x.deadline; release = x.release + x.period }

-- Annex 5.6: a stream is among those served, told by its number.
abbrev pub Served : List Stream → Stream → Type 0
Served chosen x = Mem x.number (map (λ (y : Stream). y.number) chosen)

-- Annex 5.6: that can be decided.
abbrev pub served : (chosen : List Stream) (x : Stream) → Dec (Served chosen x)
served chosen x = dec_mem ℕ_discrete x.number (map (λ (y : Stream). y.number) chosen)

-- Annex 5.6: a stream that is served at its next packet, another as it is.
abbrev pub passed : List Stream → Stream → Stream
passed chosen x = ite (served chosen x) (next x) x

-- Annex 5.6: the table after a round at s: each stream in the slots at its next packet, the others as they are.
unfoldable pub after_round : ℕ → ℕ → List Stream → List Stream
after_round b s ss = map (passed (slots b s ss)) ss
