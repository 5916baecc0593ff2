-- The slots of a round stand in order, and before every other stream whose unserved packet may ride.
use Rattle.std.specs.Prelude.{◌≡◌, refl, Bool, true, false, cond, ◌&&◌, ◌||◌, ℕ, ◌≤◌, ◌<◌, ltb, eqb}
use Rattle.std.proofs.Common.{sym, true≢false, inl, inr, arith, take-append-drop, ltb-true, ltb-false, eqb-true, leb-true, leb-false}
use Rattle.std.proofs.Math.Path.{subst⁻¹}
use Rattle.std.proofs.lemmas.Bool.{false≢true, eqb-false}
use Rattle.std.proofs.Math.Logic.Or
use mathlib.Core.List.Perm
use mathlib.Core.List.{List, [], ◌∷◌, ◌++◌, Mem, not-mem-nil, mem-cons_self, mem-cons_of_mem, mem-append, eq-or-mem_of_mem-cons}
use mathlib.Core.List
use mathlib.Core.List.{Pairwise, Pairwise-cons, Pairwise-append}
use Rattle.std.proofs.Math.Bridge.{le_prop}
use Rattle.std.proofs.Math.ListN.{take, drop}
use Rattle.basics.specs.Lexicographic.{Then}
use Rattle.basics.specs.Facts.Lexicographic.{then_asym, then_trans, then_prop}
use Rattle.rules.specs.Streams.{Stream, Packet, packet, due, IsTable}
use Rattle.rules.specs.Slots.{may_ride, riders, ComesBefore, goes_before, put_in_order, in_order, slots}
use Rattle.rules.proofs.Facts.Slots.{put_perm, in_order_perm}

-- the order of packets is strict, and holds in one way only
pub before_asym : (p q : Packet) → ComesBefore p q → ComesBefore q p → ⊥
before_asym p q = then_asym (then_asym (λ l m. omega (arith, l, m)))

before_trans : (p q r : Packet) → ComesBefore p q → ComesBefore q r → ComesBefore p r
before_trans p q r = then_trans (then_trans (λ l m. omega (arith, l, m)))

-- one packet comes before another in one way only
pub before_prop : (p q : Packet) → IsProp (ComesBefore p q)
before_prop p q = then_prop (then_prop le_prop)

-- a test of a number and of the rest
then_yes : (a b : ℕ) (rest : Bool) {R : Type 0} → (rest ≡ true → R) → (ltb a b || (eqb a b && rest)) ≡ true → Then a b R
then_yes a b rest {R} on e = go (ltb a b) refl (eqb a b) refl e
  where
    go : (l : Bool) → ltb a b ≡ l → (q : Bool) → eqb a b ≡ q → (l || (q && rest)) ≡ true → Then a b R
    go true less q same e = inl (ltb-true a b less)
    go false less true same e = inr (eqb-true a b same, on e)
    go false less false same e = absurd (false≢true e)

then_no : (a b : ℕ) (rest : Bool) {R : Type 0} → (rest ≡ false → R) → (ltb a b || (eqb a b && rest)) ≡ false → Then b a R
then_no a b rest {R} on e = go (ltb a b) refl (eqb a b) refl e
  where
    strict : (a b : ℕ) → a ≤ b → (b ≡ a → ⊥) → a < b
    strict a b le differ = omega arith

    go : (l : Bool) → ltb a b ≡ l → (q : Bool) → eqb a b ≡ q → (l || (q && rest)) ≡ false → Then b a R
    go true less q same e = absurd (true≢false e)
    go false less true same e = inr (sym (eqb-true a b same), on e)
    go false less false same e = inl (strict b a (ltb-false a b less) (eqb-false a b same))

-- the first unserved packet of a stream
abbrev unserved : Stream → Packet
unserved x = record { number = x.number; release = x.release; due = due x }

-- x comes before y: its unserved packet does
abbrev pub Earlier : Stream → Stream → Type 0
Earlier x y = ComesBefore (unserved x) (unserved y)

abbrev Differ : Stream → Stream → Type 0
Differ x y = x.number ≡ y.number → ⊥

-- the test of the order decides it between streams of different numbers
before_yes : (x y : Stream) → Differ x y → goes_before x y ≡ true → Earlier x y
unfolding goes_before
before_yes x y differ =
    then_yes (due x) (due y) _ (then_yes x.release y.release _ (λ tie. omega (arith, leb-true x.number y.number tie)))

before_no : (x y : Stream) → Differ x y → goes_before x y ≡ false → Earlier y x
unfolding goes_before
before_no x y differ = then_no (due x) (due y) _ (then_no x.release y.release _ (λ tie. leb-false x.number y.number tie))

abbrev pub InSlotOrder : List Stream → Type 0
InSlotOrder = Pairwise Earlier

put_keeps_order : (x : Stream) (ys : List Stream) → InSlotOrder ys → ((y : Stream) → Mem y ys → Differ x y) → InSlotOrder (put_in_order x ys)
unfolding put_in_order
put_keeps_order x [] sorted differ = List.Pairwise.cons (λ y m. absurd (not-mem-nil m)) sorted
put_keeps_order x (y ∷ ys) sorted differ = go (goes_before x y) refl (put_keeps_order x ys (Pairwise-cons.0 sorted).1 (λ z m. differ z (mem-cons_of_mem y m)))
  where
    later : (z : Stream) → Mem z ys → Earlier y z
    later = (Pairwise-cons.0 sorted).0

    go : (first : Bool) → goes_before x y ≡ first → InSlotOrder (put_in_order x ys) → InSlotOrder (cond first (x ∷ y ∷ ys) (y ∷ put_in_order x ys))
    go true e below =
        let first = before_yes x y (differ y mem-cons_self) e in
        List.Pairwise.cons {a = x}
        (λ z m. Or.elim (before_prop (unserved x) (unserved z)) (eq-or-mem_of_mem-cons m) (λ same. subst⁻¹ (Earlier x) same first)
        (λ m'. before_trans (unserved x) (unserved y) (unserved z) first (later z m'))) sorted
    go false e below =
        List.Pairwise.cons {a = y}
        (λ z m. Or.elim (before_prop (unserved y) (unserved z)) (eq-or-mem_of_mem-cons ((Perm.mem_iff (put_perm x ys)).0 m))
        (λ same. subst⁻¹ (Earlier y) same (before_no x y (differ y mem-cons_self) e)) (later z)) below

-- streams of different numbers are put in order
in_order_is_sorted : (xs : List Stream) → Pairwise Differ xs → InSlotOrder (in_order xs)
unfolding in_order
in_order_is_sorted [] differ = List.Pairwise.nil
in_order_is_sorted (x ∷ xs) differ =
    let split = Pairwise-cons.0 differ in
    put_keeps_order x (in_order xs) (in_order_is_sorted xs split.1) (λ y m. split.0 y ((Perm.mem_iff (in_order_perm xs)).0 m))

module _ (s : ℕ) (ss : List Stream) (table : IsTable ss) where
  riders_differ : Pairwise Differ (riders s ss)
  unfolding riders
  riders_differ =
      let differ : Pairwise Differ ss = List.Pairwise.of_map (λ (x : Stream). x.number) (λ x y differ. differ) table.differ in
      List.Pairwise.filter (λ (x : Stream). may_ride (packet x 0) s) differ

  -- in a table, the streams whose unserved packet may ride, put in order, stand in the order of the slots
  pub line_in_order : InSlotOrder (in_order (riders s ss))
  line_in_order = in_order_is_sorted (riders s ss) riders_differ

  module _ (b : ℕ) where
    both_parts : InSlotOrder (take b (in_order (riders s ss)) ++ drop b (in_order (riders s ss)))
    both_parts = subst⁻¹ InSlotOrder (take-append-drop b (in_order (riders s ss))) line_in_order

    -- the slots stand in order ..
    pub slots_in_order : InSlotOrder (slots b s ss)
    unfolding slots
    slots_in_order =
        let line = in_order (riders s ss) in
        ((Pairwise-append (λ x y. before_prop (unserved x) (unserved y)) {l₁ = take b line} {l₂ = drop b line}).0 both_parts).0

    -- .. and before every other stream whose unserved packet may ride
    pub slots_come_first : (x y : Stream) → Mem x (slots b s ss) → Mem y (riders s ss) → (Mem y (slots b s ss) → ⊥) → Earlier x y
    unfolding slots
    slots_come_first x y chosen rides left =
        let line = in_order (riders s ss) in
        let in_line : Mem y line = (Perm.mem_iff (in_order_perm (riders s ss))).1 rides in
        let there : Mem y (take b line ++ drop b line) = subst⁻¹ (λ (l : List Stream). Mem y l) (take-append-drop b line) in_line in
        Or.elim (before_prop (unserved x) (unserved y)) (mem-append.0 there) (λ first. absurd (left first))
        (λ later. ((Pairwise-append (λ x y. before_prop (unserved x) (unserved y)) {l₁ = take b line} {l₂ = drop b line}).0 both_parts).2 x chosen y later)
