-- The entries collected from the places: in order, just those filed, and how they change with one place.
use Rattle.std.specs.Prelude.{◌≡◌}
use Rattle.std.proofs.Math.Path.{refl, subst, subst⁻¹}
use Rattle.std.proofs.Common.{sym, ap, ◌∙◌}
use Rattle.std.proofs.Math.Logic.Or
use Rattle.std.proofs.Math.Logic.{if_pos, if_neg, ∥∥₁_elim, ∥∥₁_map, ∥∥₁_prop}
use Rattle.std.proofs.Math.Logic.Dec.{not as Dec-not}
use mathlib.Core.HLevel.{⊥_prop}
use mathlib.Core.List.Pairwise
use mathlib.Core.List.{List, [], Mem, mem-filter, not-mem-nil}
use Prim.Native.Nat.{ℕ, zero, suc, ◌≤◌, ◌<◌}
use Rattle.std.proofs.Math.Nat.{lt_irrefl}
use Rattle.std.proofs.Math.Decide.{dec_le, dec_lt, ℕ_discrete}
use native.Mathlib.Omega.{arith}
use Rattle.std.proofs.Math.ListN.{length}
use Rattle.basics.specs.Limits.{places}
use Rattle.places.specs.Order.{Entry}
use Rattle.places.specs.Entries.{put, without}
use Rattle.places.specs.Collected.{collected, Once}
use Rattle.places.specs.Changes.{IsSet}
use Rattle.places.specs.Facts.Entries.{InOrder, in_put, put_new, put_old, put_length, put_in_order, in_order_unique}

module _ (at : ℕ → Entry) where
  collected_some : (i : ℕ) → 1 ≤ (at i).id → collected at (suc i) ≡ put (at i) (collected at i)
  unfolding collected
  collected_some i holds = if_pos (dec_le 1 (at i).id) holds (put (at i) (collected at i)) (collected at i)

  collected_none : (i : ℕ) → (at i).id ≡ 0 → collected at (suc i) ≡ collected at i
  unfolding collected
  collected_none i free = if_neg (dec_le 1 (at i).id) (λ holds. omega arith) (put (at i) (collected at i)) (collected at i)

  -- an entry is collected from a place that holds it ..
  pub of_collected : (n : ℕ) (e : Entry) → Mem e (collected at n) → ∥ ((i : ℕ) × (i < n) × (1 ≤ (at i).id) × (e ≡ at i)) ∥₁
  unfolding collected
  of_collected zero e m = absurd (not-mem-nil m)
  of_collected (suc n) e m = go (λ m'. ∥∥₁_map (of_collected n e m') (λ w. (w.0, omega (arith, w.1), w.2, w.3))) (dec_le 1 (at n).id)
    where
      go : (Mem e (collected at n) → ∥ ((i : ℕ) × (i < suc n) × (1 ≤ (at i).id) × (e ≡ at i)) ∥₁)
          → Dec (1 ≤ (at n).id) → ∥ ((i : ℕ) × (i < suc n) × (1 ≤ (at i).id) × (e ≡ at i)) ∥₁
      go earlier (yes holds) =
          let m' = subst (λ (l : List Entry). Mem e l) (collected_some n holds) m in
          Or.elim ∥∥₁_prop (in_put (at n) (collected at n) e m') (λ here. ∣ (n, omega arith, holds, here) ∣₁) earlier
      go earlier (no free) = earlier (subst (λ (l : List Entry). Mem e l) (collected_none n (omega arith)) m)

  -- .. and every place that holds one is collected
  pub in_collected : (n i : ℕ) → i < n → 1 ≤ (at i).id → Mem (at i) (collected at n)
  in_collected zero i below holds = elim below [ ]
  in_collected (suc n) i below holds = go (λ less. in_collected n i less holds) (dec_lt i n) (dec_le 1 (at n).id)
    where
      go : (i < n → Mem (at i) (collected at n)) → Dec (i < n) → Dec (1 ≤ (at n).id) → Mem (at i) (collected at (suc n))
      go earlier (yes less) (yes there) = rw (collected_some n there) (put_old (at n) (collected at n) (at i) (earlier less))
      go earlier (yes less) (no free) = rw (collected_none n (omega arith)) (earlier less)
      go earlier (no last) there =
          let e : i ≡ n = omega arith in
          let held = subst (λ (j : ℕ). 1 ≤ (at j).id) e holds in
          subst⁻¹ (λ (j : ℕ). Mem (at j) (collected at (suc n))) e (rw (collected_some n held) (put_new (at n) (collected at n)))

  -- where ids differ from place to place, what is collected from the first n of the 64 is in order
  pub collected_in_order : Once (λ i. (at i).id) → (n : ℕ) → n ≤ places → InOrder (collected at n)
  unfolding collected
  collected_in_order once zero within = Pairwise.nil
  collected_in_order once (suc n) within = go (collected_in_order once n (omega arith)) (dec_le 1 (at n).id)
    where
      go : InOrder (collected at n) → Dec (1 ≤ (at n).id) → InOrder (collected at (suc n))
      go below (yes holds) =
          rw (collected_some n holds)
          (put_in_order (at n) (collected at n) below
          (λ x m same. ∥∥₁_elim (of_collected n x m) ⊥_prop
          (λ w. let e = once w.0 n (omega (arith, w.1)) (omega arith) w.2 (ap (λ (a : Entry). a.id) (sym w.3 ∙ same)) in
          lt_irrefl n (subst (λ (j : ℕ). j < n) e w.1))))
      go below (no free) = rw (collected_none n (omega arith)) below

  -- no more entries are collected from the first n places than n
  pub collected_length : (n : ℕ) → length (collected at n) ≤ n
  unfolding collected
  collected_length zero = omega arith
  collected_length (suc n) = go (collected_length n) (dec_le 1 (at n).id)
    where
      go : length (collected at n) ≤ n → Dec (1 ≤ (at n).id) → length (collected at (suc n)) ≤ suc n
      go below (yes holds) = rw (collected_some n holds, put_length) (omega arith)
      go below (no free) = rw (collected_none n (omega arith)) (omega arith)

  -- with one of the first n places free, fewer than n entries are collected from them
  pub collected_room : (n i : ℕ) → i < n → (at i).id ≡ 0 → length (collected at n) < n
  collected_room zero i below free = elim below [ ]
  collected_room (suc n) i below free = go (λ less. collected_room n i less free) (dec_lt i n) (dec_le 1 (at n).id)
    where
      go : (i < n → length (collected at n) < n) → Dec (i < n) → Dec (1 ≤ (at n).id) → length (collected at (suc n)) < suc n
      go earlier (yes less) (yes holds) = rw (collected_some n holds, put_length) (omega (arith, earlier less))
      go earlier (yes less) (no free_n) = rw (collected_none n (omega arith)) (omega (arith, collected_length n))
      go earlier (no last) holds =
          let e : i ≡ n = omega arith in
          rw (collected_none n (subst (λ (j : ℕ). (at j).id ≡ 0) e free)) (omega (arith, collected_length n))

  -- with none of the first n places free, n entries are collected from them
  pub collected_full : (n : ℕ) → ((i : ℕ) → i < n → 1 ≤ (at i).id) → length (collected at n) ≡ n
  unfolding collected
  collected_full zero all = refl
  collected_full (suc n) all = rw (collected_some n (all n (omega arith)), put_length, collected_full n (λ i l. all i (omega arith)))

-- ids all 0 leave nothing to collect
pub none_collected : (at : ℕ → Entry) (n : ℕ) → ((i : ℕ) → i < n → (at i).id ≡ 0) → collected at n ≡ []
unfolding collected
none_collected at zero free = refl
none_collected at (suc n) free = collected_none at n (free n (omega arith)) ∙ none_collected at n (λ i below. free i (omega arith))

-- one place is given another entry
module _ (at at' : ℕ → Entry) (x : ℕ) (e : Entry) (inside : x < places) (set : IsSet at x e at') where
  same_id : (i : ℕ) → (i ≡ x → ⊥) → (at' i).id ≡ (at i).id
  same_id i other = ap (λ (a : Entry). a.id) (set.elsewhere i other)

  new_id : (at' x).id ≡ e.id
  new_id = ap (λ (a : Entry). a.id) set.at

  module _ (free : (at x).id ≡ 0) (some : 1 ≤ e.id) (once : Once (λ i. (at i).id)) (unused : (i : ℕ) → i < places → (at i).id ≡ e.id → ⊥) where
    -- a new id at a free place keeps the ids apart
    pub put_once : Once (λ i. (at' i).id)
    put_once i j li lj holds same = go (ℕ_discrete i x) (ℕ_discrete j x)
      where
        go : Dec (i ≡ x) → Dec (j ≡ x) → i ≡ j
        go (yes a) (yes b) = a ∙ sym b
        go (yes a) (no b) = absurd (unused j lj (sym (same_id j b) ∙ (sym same ∙ (ap (λ (k : ℕ). (at' k).id) a ∙ new_id))))
        go (no a) (yes b) = absurd (unused i li (sym (same_id i a) ∙ (same ∙ (ap (λ (k : ℕ). (at' k).id) b ∙ new_id))))
        go (no a) (no b) = once i j li lj (rw (same_id i a) at holds) (sym (same_id i a) ∙ (same ∙ same_id j b))

    -- and puts the new entry into its place among the others
    pub put_collected : collected at' places ≡ put e (collected at places)
    put_collected =
        in_order_unique (collected at' places) (put e es) (collected_in_order at' put_once places (omega arith))
        (put_in_order e es (collected_in_order at once places (omega arith)) new) there back
      where
        es : List Entry
        es = collected at places

        new : (a : Entry) → Mem a es → a ≡ e → ⊥
        new a m same = ∥∥₁_elim (of_collected at places a m) ⊥_prop (λ w. unused w.0 w.1 (ap (λ (b : Entry). b.id) (sym w.3 ∙ same)))

        there : (a : Entry) → Mem a (collected at' places) → Mem a (put e es)
        there a m = ∥∥₁_elim (of_collected at' places a m) ∥∥₁_prop (λ w. go w.0 w.1 w.2 w.3 (ℕ_discrete w.0 x))
          where
            go : (i : ℕ) → i < places → 1 ≤ (at' i).id → a ≡ at' i → Dec (i ≡ x) → Mem a (put e es)
            go i l holds is (yes same) = rw (is ∙ (ap at' same ∙ set.at)) (put_new e es)
            go i l holds is (no other) = rw (is ∙ set.elsewhere i other) (put_old e es (at i) (in_collected at places i l (rw (same_id i other) at holds)))

        back : (a : Entry) → Mem a (put e es) → Mem a (collected at' places)
        back a m =
            Or.elim ∥∥₁_prop (in_put e es a m)
            (λ same. rw (same ∙ sym set.at) (in_collected at' places x inside (rw new_id some)))
            (λ old. ∥∥₁_elim (of_collected at places a old) ∥∥₁_prop
            (λ w. let other : w.0 ≡ x → ⊥ = λ same. lt_irrefl 0 (omega (arith, subst (λ (i : ℕ). 1 ≤ (at i).id) same w.2, free)) in
            rw (w.3 ∙ sym (set.elsewhere w.0 other)) (in_collected at' places w.0 w.1 (rw (same_id w.0 other) w.2))))

  -- a place made free takes its entry out
  module _ (freed : e.id ≡ 0) (holds : 1 ≤ (at x).id) (once : Once (λ i. (at i).id)) where
    left : (i : ℕ) → 1 ≤ (at' i).id → i ≡ x → ⊥
    left i there same = lt_irrefl 0 (omega (arith, subst (λ (j : ℕ). 1 ≤ (at' j).id) same there, new_id, freed))

    -- the ids that are left still differ from place to place
    pub taken_once : Once (λ i. (at' i).id)
    taken_once i j li lj there same =
        let a = left i there in
        let b : j ≡ x → ⊥ = left j (rw same at there) in
        once i j li lj (rw (same_id i a) at there) (sym (same_id i a) ∙ (same ∙ same_id j b))

    -- and what is collected is as before, without the id that stood there
    pub taken_collected : collected at' places ≡ without (at x).id (collected at places)
    unfolding without
    taken_collected =
        in_order_unique (collected at' places) (without (at x).id (collected at places)) (collected_in_order at' taken_once places (omega arith))
        (Pairwise.filter (λ (a : Entry). Dec-not (ℕ_discrete a.id (at x).id)) (collected_in_order at once places (omega arith))) there back
      where
        there : (a : Entry) → Mem a (collected at' places) → Mem a (without (at x).id (collected at places))
        there a m =
            ∥∥₁_elim (of_collected at' places a m) ∥∥₁_prop
            (λ w. let other = left w.0 w.2 in
            let old = rw (same_id w.0 other) at w.2 in
            rw (w.3 ∙ set.elsewhere w.0 other)
            ((mem-filter (λ (b : Entry). Dec-not (ℕ_discrete b.id (at x).id))).1
            (in_collected at places w.0 w.1 old, λ same. other (once w.0 x w.1 inside old same))))

        back : (a : Entry) → Mem a (without (at x).id (collected at places)) → Mem a (collected at' places)
        back a m =
            let v = (mem-filter (λ (b : Entry). Dec-not (ℕ_discrete b.id (at x).id))).0 m in
            ∥∥₁_elim (of_collected at places a v.0) ∥∥₁_prop
            (λ w. let other : w.0 ≡ x → ⊥ = λ same. v.1 (ap (λ (b : Entry). b.id) w.3 ∙ ap (λ (k : ℕ). (at k).id) same) in
            rw (w.3 ∙ sym (set.elsewhere w.0 other))
            (in_collected at' places w.0 w.1 (rw (same_id w.0 other) w.2)))
