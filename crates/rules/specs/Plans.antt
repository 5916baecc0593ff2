-- Plans, what they serve, the gap limit, and rivals.
use Rattle.std.specs.Prelude.{◌≡◌, ℕ, suc, ◌+◌, ◌≤◌, ◌<◌, length}
use mathlib.Core.List.{List, Mem, Nodup}
use Rattle.rules.specs.Streams.{Stream, Packet, MayRide, PacketOf}

-- Annex 1.2: a round: its start, and the packets sent in it, in the order of its slots.
pub record Round : Type 0 where
  pub start : ℕ
  pub packets : List Packet

-- Annex 6.1: a plan from a moment: rounds without end, the first at the moment or later, each later than the one before, with at most b packets, all of
-- which may ride in it, and none sent twice, in one round or in two. Slots may stay free and rounds empty, and nothing ends with the clock.
pub record IsPlan (b moment : ℕ) (plan : ℕ → Round) : Type 0 where
  pub from_moment : moment ≤ (plan 0).start
  pub rising : (n : ℕ) → (plan n).start < (plan (suc n)).start
  pub room : (n : ℕ) → length (plan n).packets ≤ b
  pub ride : (n : ℕ) (q : Packet) → Mem q (plan n).packets → MayRide q (plan n).start
  pub once : (n : ℕ) → Nodup (plan n).packets
  pub never_again : (m n : ℕ) (q : Packet) → Mem q (plan m).packets → Mem q (plan n).packets → m ≡ n

-- Annex 6.2: a plan serves a table if every packet of the table, from each stream's unserved one on, is sent in some round.
abbrev pub Serves : (ℕ → Round) → List Stream → Type 0
Serves plan ss = (q : Packet) → PacketOf ss q → ∥ ((n : ℕ) × Mem q (plan n).packets) ∥₁

-- Annex 6.3: a plan keeps the gap limit if its first start is at most the cap and each later one at most the gap after the start before it. A planner's
-- cap is L + 1 + G and its gap here G + 1, since G is counted from the end of a round.
pub record KeepsGap (cap gap : ℕ) (plan : ℕ → Round) : Type 0 where
  pub first : (plan 0).start ≤ cap
  pub later : (n : ℕ) → (plan (suc n)).start ≤ (plan n).start + gap

-- Annex 6.5: a table can be served from a moment: some plan from it serves the table.
abbrev pub Servable : ℕ → ℕ → List Stream → Type 0
Servable b moment ss = ∥ ((plan : ℕ → Round) × IsPlan b moment plan × Serves plan ss) ∥₁

-- Annex 6.4: a rival: a plan from now that serves the table and keeps the gap limit; its rounds may go on past the clock.
pub record IsRival (b now cap gap : ℕ) (ss : List Stream) (plan : ℕ → Round) : Type 0 where
  pub is_plan : IsPlan b now plan
  pub serves : Serves plan ss
  pub keeps_gap : KeepsGap cap gap plan
