-- Lists without repeats, and counting by them.
use Rattle.std.specs.Prelude.{◌≡◌, ◌≢◌, length}
use Rattle.std.proofs.Math.Path.{refl, sym, ap}
use Rattle.std.proofs.Common.{◌∙◌, subst}
use Rattle.std.proofs.Math.Logic.{ite, ∥∥₁_elim, ∥∥₁_map}
use Rattle.std.proofs.Math.Logic.Dec.{not as Dec-not}
use mathlib.Core.List.{List, [], ◌∷◌, filter, Mem, mem-cons_self, mem-cons_of_mem, not-mem-nil, Nodup, Nodup-cons}
use mathlib.Core.List.{Memᴰ}
use Prim.Native.Nat.{suc, ◌+◌, ◌≤◌}
use Rattle.std.proofs.Math.Bridge.{le_prop}
use native.Mathlib.Omega.{arith}

module _ {A : Type 0} where
  -- a list with one of its elements taken out
  without : (ys : List A) {x : A} → Memᴰ x ys → List A
  without [] x3 = elim x3 [ ]
  without (y ∷ ys) (Memᴰ.head e) = ys
  without (y ∷ ys) (Memᴰ.tail place) = y ∷ without ys place

  length_without : (ys : List A) {x : A} (place : Memᴰ x ys) → length ys ≡ suc (length (without ys place))
  unfolding without
  length_without [] place = elim place [ ]
  length_without (y ∷ ys) (Memᴰ.head e) = refl
  length_without (y ∷ ys) (Memᴰ.tail place) = ap suc (length_without ys place)

  still_there : (ys : List A) {x z : A} (place : Memᴰ x ys) → Memᴰ z ys → z ≢ x → Memᴰ z (without ys place)
  unfolding without
  still_there [] {z = z} place _ other = elim place [ ]
  still_there (y ∷ ys) (Memᴰ.head e) (Memᴰ.head e') other = absurd (other (e' ∙ sym e))
  still_there (y ∷ ys) (Memᴰ.head e) (Memᴰ.tail m) other = m
  still_there (y ∷ ys) (Memᴰ.tail place) (Memᴰ.head e') other = Memᴰ.head e'
  still_there (y ∷ ys) (Memᴰ.tail place) (Memᴰ.tail m) other = Memᴰ.tail (still_there ys place m other)

  -- a list with an element has a length of at least 1
  pub mem_nonempty : (xs : List A) (x : A) → Mem x xs → 1 ≤ length xs
  mem_nonempty [] x m = absurd (not-mem-nil m)
  mem_nonempty (y ∷ ys) x m = omega arith

  -- a list without repeats whose elements all lie in another is no longer than it
  pub no_longer : (xs ys : List A) → Nodup xs → ((x : A) → Mem x xs → Mem x ys) → length xs ≤ length ys
  no_longer [] ys distinct inside = omega arith
  no_longer (x ∷ xs) ys distinct inside =
      let split = Nodup-cons.0 distinct in
      ∥∥₁_elim (inside x mem-cons_self) le_prop
      (λ place.
      let rest : length xs ≤ length (without ys place) =
      no_longer xs (without ys place) split.1
      (λ z m. ∥∥₁_map (inside z (mem-cons_of_mem x m)) (λ there. still_there ys place there (λ e. split.0 (subst (λ (y : A). Mem y xs) e m)))) in
      omega (arith, length_without ys place, rest))

  module _ {P : A → Type 0} (decide : (x : A) → Dec (P x)) where
    -- those with a property and those without it are all
    pub filter_halves : (xs : List A) → length (filter decide xs) + length (filter (λ x. Dec-not (decide x)) xs) ≡ length xs
    unfolding Dec-not
    filter_halves [] = omega arith
    filter_halves (x ∷ xs) = go (decide x) (filter_halves xs)
      where
        with_it : List A
        with_it = filter decide xs

        without_it : List A
        without_it = filter (λ x. Dec-not (decide x)) xs

        go : (d : Dec (P x)) → length with_it + length without_it ≡ length xs
            → length (ite d (x ∷ with_it) with_it) + length (ite (Dec-not d) (x ∷ without_it) without_it) ≡ suc (length xs)
        go (yes p) e = omega (arith, e)
        go (no n) e = omega (arith, e)
