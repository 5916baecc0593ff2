-- Two lists in one strict order with the same elements are one list.
use Rattle.std.specs.Prelude.{◌≡◌, refl}
use Rattle.std.proofs.Common.{sym, subst, ap₂}
use Rattle.std.proofs.Math.Logic.Or
use mathlib.Core.List.{List, [], ◌∷◌, Mem, Pairwise, Pairwise-cons, mem-cons_self, mem-cons_of_mem, not-mem-nil, eq-or-mem_of_mem-cons, Mem-prop}

module _ {A : Type 0} (set : IsSet A) (R : A → A → Type 0) (asymmetric : (a b : A) → R a b → R b a → ⊥) where
  -- heads of two such lists are equal
  same_head : (x y : A) (xs ys : List A) → Pairwise R (x ∷ xs) → Pairwise R (y ∷ ys) → Mem x (y ∷ ys) → Mem y (x ∷ xs) → x ≡ y
  same_head x y xs ys sx sy x_in y_in =
      Or.elim (set x y) (eq-or-mem_of_mem-cons x_in) (λ e. e)
      (λ later_x. Or.elim (set x y) (eq-or-mem_of_mem-cons y_in) sym
      (λ later_y. absurd (asymmetric x y ((Pairwise-cons.0 sx).0 y later_y) ((Pairwise-cons.0 sy).0 x later_x))))

  -- an element of one tail is in the other
  same_tail : (x : A) (xs ys : List A) → Pairwise R (x ∷ xs) → ((a : A) → Mem a (x ∷ xs) → Mem a (x ∷ ys)) → (a : A) → Mem a xs → Mem a ys
  same_tail x xs ys sx inside a m =
      Or.elim Mem-prop (eq-or-mem_of_mem-cons (inside a (mem-cons_of_mem x m)))
      (λ e. let self = subst (λ (z : A). R x z) e ((Pairwise-cons.0 sx).0 a m) in absurd (asymmetric x x self self)) (λ there. there)

  -- two lists in the same order, which never holds both ways round, with the same elements are equal
  pub sorted_unique : (xs ys : List A) → Pairwise R xs → Pairwise R ys
      → ((a : A) → Mem a xs → Mem a ys) → ((a : A) → Mem a ys → Mem a xs) → xs ≡ ys
  sorted_unique [] [] sx sy there back = refl
  sorted_unique [] (y ∷ ys) sx sy there back = absurd (not-mem-nil (back y mem-cons_self))
  sorted_unique (x ∷ xs) [] sx sy there back = absurd (not-mem-nil (there x mem-cons_self))
  sorted_unique (x ∷ xs) (y ∷ ys) sx sy there back =
      let e : x ≡ y = same_head x y xs ys sx sy (there x mem-cons_self) (back y mem-cons_self) in
      let sy' : Pairwise R (x ∷ ys) = subst (λ (z : A). Pairwise R (z ∷ ys)) (sym e) sy in
      let there' : (a : A) → Mem a (x ∷ xs) → Mem a (x ∷ ys) = subst (λ (z : A). (a : A) → Mem a (x ∷ xs) → Mem a (z ∷ ys)) (sym e) there in
      let back' : (a : A) → Mem a (x ∷ ys) → Mem a (x ∷ xs) = subst (λ (z : A). (a : A) → Mem a (z ∷ ys) → Mem a (x ∷ xs)) (sym e) back in
      ap₂ ◌∷◌ e (sorted_unique xs ys (Pairwise-cons.0 sx).1 (Pairwise-cons.0 sy).1 (same_tail x xs ys sx there') (same_tail x ys xs sy' back'))
