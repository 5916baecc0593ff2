-- What the theorems use of a round's slots: a choice that is full of early packets, or has every early packet that may ride.
use Rattle.std.specs.Prelude.{◌≡◌, refl, Bool, true, false, cond, ◌&&◌, ◌||◌, ◌⊎◌, ◌↔◌, ℕ, ◌≤◌, ltb, eqb, length}
use Rattle.std.proofs.Common.{ap, true≢false, le_trans, take-append-drop, length-drop, ltb-true, ltb-false, eqb-true}
use Rattle.std.proofs.Math.Path.{subst}
use Rattle.std.proofs.lemmas.Bool.{false≢true}
use Rattle.std.proofs.Math.Logic.Or
use Rattle.std.proofs.Math.Logic.{inl, inr, ∥∥₁_elim, ∥∥₁_prop}
use Rattle.std.proofs.Math.Logic.Iff.{trans as Iff-trans}
use mathlib.Core.List.{List, [], ◌∷◌, ◌++◌, map, filter, filter-eq_self, Nodup, Nodup-append}
use mathlib.Core.List.{Mem, mem-filter, mem-append, mem-append_left, not-mem-nil, eq-or-mem_of_mem-cons, decidable_b_ex}
use mathlib.Core.List.Pairwise
use mathlib.Core.List.{Pairwise, Pairwise-cons, Pairwise-append}
use mathlib.Core.List.Perm
use mathlib.Core.List.{Perm}
use mathlib.Mathlib.Data.List.Nodup.{map_on, inj_on_of_Nodup-map}
use Rattle.std.proofs.Math.Bridge.{le_prop}
use Rattle.std.proofs.Math.Decide.{dec_le}
use native.Mathlib.Omega.{arith}
use Rattle.std.proofs.Math.ListN.{take, drop, length-take}
use Rattle.rules.specs.Streams.{Stream, packet, due, MayRide, IsTable}
use Rattle.rules.specs.Demand.{DueAfter}
use Rattle.rules.specs.Slots.{may_ride, riders, goes_before, put_in_order, in_order, slots}
use Rattle.rules.proofs.Facts.Lists.{mem_nonempty}
use Rattle.rules.proofs.Facts.Equality.{stream_set}

-- b of the chosen are due by t
abbrev pub Full : ℕ → ℕ → List Stream → Type 0
Full b t chosen = b ≤ length (filter (λ (x : Stream). dec_le (due x) t) chosen)

-- every stream released by s and due by t is chosen
abbrev pub Complete : ℕ → ℕ → List Stream → List Stream → Type 0
Complete s t ss chosen = (x : Stream) → Mem x ss → x.release ≤ s → due x ≤ t → Mem x chosen

-- a choice for a round at s: some streams of the table, at most b, whose packets may ride; and for every t either b of them are due
-- by t, or every released stream due by t is chosen. Ties do not matter to it.
pub record IsChoice (b s : ℕ) (ss chosen : List Stream) : Type 0 where
  pub inside : (x : Stream) → Mem x chosen → Mem x ss
  pub distinct : Nodup chosen
  pub few : length chosen ≤ b
  pub ride : (x : Stream) → Mem x chosen → MayRide (packet x 0) s
  pub full_or_all : (t : ℕ) → Full b t chosen ⊎ Complete s t ss chosen

-- whatever the tie rule says, one that goes before another is due no later, and one that does not is due no earlier
before_true : (x y : Stream) → goes_before x y ≡ true → due x ≤ due y
unfolding goes_before
before_true x y e = go (ltb (due x) (due y)) refl (eqb (due x) (due y)) refl _ e
  where
    go : (l : Bool) → ltb (due x) (due y) ≡ l → (q : Bool) → eqb (due x) (due y) ≡ q → (tie : Bool) → (l || (q && tie)) ≡ true → due x ≤ due y
    go true less q same tie e = omega (arith, ltb-true (due x) (due y) less)
    go false less true same tie e = omega (arith, eqb-true (due x) (due y) same)
    go false less false same tie e = absurd (false≢true e)

before_false : (x y : Stream) → goes_before x y ≡ false → due y ≤ due x
unfolding goes_before
before_false x y e = go (ltb (due x) (due y)) refl _ e
  where
    go : (l : Bool) → ltb (due x) (due y) ≡ l → (rest : Bool) → (l || rest) ≡ false → due y ≤ due x
    go true less rest e = absurd (true≢false e)
    go false less rest e = ltb-false (due x) (due y) less

-- with x put in, a list has x and all the streams it had, and nothing else
pub put_perm : (x : Stream) (ys : List Stream) → Perm (put_in_order x ys) (x ∷ ys)
unfolding put_in_order
put_perm x [] = Perm.refl (x ∷ [])
put_perm x (y ∷ ys) = go (goes_before x y) (put_perm x ys)
  where
    go : (first : Bool) → Perm (put_in_order x ys) (x ∷ ys) → Perm (cond first (x ∷ y ∷ ys) (y ∷ put_in_order x ys)) (x ∷ y ∷ ys)
    go true below = Perm.refl (x ∷ y ∷ ys)
    go false below = Perm.trans (Perm.cons y below) (Perm.swap x y ys)

-- the same streams in another order
pub in_order_perm : (xs : List Stream) → Perm (in_order xs) xs
unfolding in_order
in_order_perm [] = Perm.nil
in_order_perm (x ∷ xs) = Perm.trans (put_perm x (in_order xs)) (Perm.cons x (in_order_perm xs))

abbrev pub ByDue : List Stream → Type 0
ByDue = Pairwise (λ (x y : Stream). due x ≤ due y)

put_sorted : (x : Stream) (ys : List Stream) → ByDue ys → ByDue (put_in_order x ys)
unfolding put_in_order
put_sorted x [] sorted = Pairwise.cons (λ y m. absurd (not-mem-nil m)) sorted
put_sorted x (y ∷ ys) sorted = go (goes_before x y) refl (put_sorted x ys (Pairwise-cons.0 sorted).1)
  where
    later : (z : Stream) → Mem z ys → due y ≤ due z
    later = (Pairwise-cons.0 sorted).0

    go : (first : Bool) → goes_before x y ≡ first → ByDue (put_in_order x ys) → ByDue (cond first (x ∷ y ∷ ys) (y ∷ put_in_order x ys))
    go true e below =
        Pairwise.cons {a = x}
        (λ z m. Or.elim le_prop (eq-or-mem_of_mem-cons m) (λ same. rw same (before_true x y e)) (λ m'. le_trans (before_true x y e) (later z m')))
        sorted
    go false e below =
        Pairwise.cons {a = y}
        (λ z m. Or.elim le_prop (eq-or-mem_of_mem-cons ((Perm.mem_iff (put_perm x ys)).0 m)) (λ same. rw same (before_false x y e)) (λ m'. later z m'))
        below

in_order_sorted : (xs : List Stream) → ByDue (in_order xs)
unfolding in_order
in_order_sorted [] = Pairwise.nil
in_order_sorted (x ∷ xs) = put_sorted x (in_order xs) (in_order_sorted xs)

-- in a list by due time, a stream past place b means that b streams stand before it, none of them due later
past_full : (b : ℕ) (xs : List Stream) → ByDue xs → (t : ℕ) (y : Stream) → Mem y (drop b xs) → due y ≤ t
    → b ≤ length (filter (λ (x : Stream). dec_le (due x) t) (take b xs))
past_full b xs sorted t y late early =
    let whole : ByDue (take b xs ++ drop b xs) = rw (take-append-drop b xs) sorted in
    let split = (Pairwise-append (λ x z. le_prop {n = due x} {m = due z}) {l₁ = take b xs} {l₂ = drop b xs}).0 whole in
    let all_early : filter (λ (x : Stream). dec_le (due x) t) (take b xs) ≡ take b xs =
    (filter-eq_self (λ (x : Stream). dec_le (due x) t)).1 (λ x m. le_trans (split.2 x m y late) early) in
    let some : 1 ≤ length (drop b xs) = mem_nonempty (drop b xs) y late in
    rw (all_early, length-take) (omega (arith, rw length-drop at some))

-- `riders` has just the streams of a list whose unserved packet may ride at s
pub rider_iff : (s : ℕ) (ss : List Stream) (x : Stream) → Mem x (riders s ss) ↔ (Mem x ss × MayRide (packet x 0) s)
unfolding riders
rider_iff s ss x = mem-filter (λ (y : Stream). may_ride (packet y 0) s)

-- streams told apart by number are different streams
nodup_streams : (ss : List Stream) → IsTable ss → Nodup ss
nodup_streams ss table = Pairwise.of_map (λ (x : Stream). x.number) (λ x y differ same. differ (ap (λ (z : Stream). z.number) same)) table.differ

-- the streams of a choice differ in number
pub choice_differ : (b s : ℕ) (ss chosen : List Stream) → IsTable ss → IsChoice b s ss chosen → Nodup (map (λ (x : Stream). x.number) chosen)
choice_differ b s ss chosen table choice =
    map_on {l = chosen} {f = λ (x : Stream). x.number}
    (λ x there y other. inj_on_of_Nodup-map stream_set (λ (z : Stream). z.number) table.differ x (choice.inside x there) y (choice.inside y other))
    choice.distinct

module _ (b s : ℕ) (ss : List Stream) (table : IsTable ss) where
  line : List Stream
  line = in_order (riders s ss)

  in_line : (x : Stream) → Mem x line ↔ (Mem x ss × MayRide (packet x 0) s)
  unfolding line
  in_line x = Iff-trans (Perm.mem_iff (in_order_perm (riders s ss))) (rider_iff s ss x)

  nodup_line : Nodup line
  unfolding line riders
  nodup_line =
      Perm.nodup (Perm.symm (in_order_perm (riders s ss)))
      (Pairwise.filter (λ (y : Stream). may_ride (packet y 0) s) (nodup_streams ss table))

  from_slots : (x : Stream) → Mem x (slots b s ss) → Mem x line
  unfolding slots line
  from_slots x m = subst (λ (l : List Stream). Mem x l) (take-append-drop b (in_order (riders s ss))) (mem-append_left (drop b (in_order (riders s ss))) m)

  -- the slots of the rules are such a choice, where every unserved packet is due after s
  pub slots_are_choice : DueAfter s ss → IsChoice b s ss (slots b s ss)
  unfolding slots line
  slots_are_choice later =
      record {
        inside = λ x m. ((in_line x).0 (from_slots x m)).0;
        distinct = ((Nodup-append {l₁ = take b line} {l₂ = drop b line}).0 (rw (take-append-drop b line) nodup_line)).0;
        few = rw length-take (omega arith);
        ride = λ x m. ((in_line x).0 (from_slots x m)).1;
        full_or_all = λ t. go t (decidable_b_ex (λ (x : Stream). dec_le (due x) t) (drop b line));
      }
    where
      go : (t : ℕ) → Dec ∥ ((x : Stream) × Mem x (drop b line) × (due x ≤ t)) ∥₁
          → Full b t (take b line) ⊎ Complete s t ss (take b line)
      go t (yes some) = inl (∥∥₁_elim some le_prop (λ w. past_full b line (in_order_sorted (riders s ss)) t w.0 w.1 w.2))
      go t (no none) =
          inr
          (λ x m released early.
          let after = later x m in
          let there : Mem x (take b line ++ drop b line) = rw (take-append-drop b line) ((in_line x).1 (m, (omega arith, omega arith))) in
          Or.elim ∥∥₁_prop (mem-append.0 there) (λ chosen. chosen) (λ past. absurd (none ∣ (x, past, early) ∣₁)))
