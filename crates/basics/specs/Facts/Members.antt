-- What stands at a place of a list is in it, and nothing else is.
use mathlib.Core.List.{List, [], ◌∷◌, Mem, Memᴰ, mem-cons_self, mem-cons_of_mem}
use Rattle.std.specs.Prelude.{ℕ, zero, suc, ◌<◌, length, get_or}
use Rattle.std.proofs.Common.{sym, subst, arith}
use Rattle.std.proofs.Math.Logic.{∥∥₁_elim}

-- the value at a place before the end of a list is one of its elements
pub get_or_mem : {A : Type 0} (xs : List A) (i : ℕ) (d : A) → i < length xs → Mem (get_or xs i d) xs
get_or_mem [] i d within = absurd (omega (arith, within))
get_or_mem (x ∷ xs) zero d within = mem-cons_self
get_or_mem (x ∷ xs) (suc i) d within = mem-cons_of_mem x (get_or_mem xs i d (omega arith))

-- what holds of the value at every place holds of every element
pub holds_of_members : (P : ℕ → Type 0) → ((x : ℕ) → IsProp (P x)) → (xs : List ℕ) → ((k : ℕ) → k < length xs → P (get_or xs k 0)) → (x : ℕ) → Mem x xs → P x
holds_of_members P prop xs all x m = ∥∥₁_elim m (prop x) (λ place. go xs all place)
  where
    go : (xs : List ℕ) → ((k : ℕ) → k < length xs → P (get_or xs k 0)) → Memᴰ x xs → P x
    go [] all place = elim place [ ]
    go (y ∷ ys) all (Memᴰ.head e) = subst P (sym e) (all 0 (omega arith))
    go (y ∷ ys) all (Memᴰ.tail place) = go ys (λ k low. all (suc k) (omega arith)) place
