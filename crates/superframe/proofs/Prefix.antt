-- The elements of a list before a place, one more at each turn of a loop; periods in range, by place and by element.
use mathlib.Core.Path.{◌≡◌, subst, sym}
use mathlib.Core.HLevel.{×_prop}
use mathlib.Core.Logic.Or
use mathlib.Core.List.{List, [], ◌∷◌, ◌++◌, Mem, mem-append, mem-append_left, mem-append_right, mem-cons_self, not-mem-nil, eq-or-mem_of_mem-cons}
use Prim.Native.Nat.{ℕ, ◌+◌, ◌<◌}
use native.Mathlib.Bridge.{le_prop}
use native.Mathlib.Numerals.{add-one}
use lib.ListN.{length, take, drop, get_or, take-append-drop}
use lib.Seq.{take-suc}
use Rattle.std.specs.List.{All}
use Rattle.std.proofs.lemmas.List.Elements.{All-get_or, All-from_get_or}
use Rattle.basics.specs.Facts.Members.{get_or_mem, holds_of_members}
use Rattle.basics.specs.Limits.{longest_period}
use Rattle.basics.specs.OneTo.{OneTo}
use Rattle.superframe.specs.Periods.{AllInRange}

-- one place further, one element more
pub take_next : (xs : List ℕ) (i : ℕ) → i < length xs → take (i + 1) xs ≡ take i xs ++ (get_or xs i 0 ∷ [])
take_next xs i inside = rw add-one (take-suc xs i 0 inside)

-- what holds of every element and of one more holds of every element with that one at the end
pub all_snoc : (P : ℕ → Type 0) → ((x : ℕ) → IsProp (P x)) → (xs : List ℕ) (x : ℕ)
    → ((p : ℕ) → Mem p xs → P p) → P x → (p : ℕ) → Mem p (xs ++ (x ∷ [])) → P p
all_snoc P prop xs x before here p m =
    Or.elim (prop p) (mem-append.0 m) (before p)
    (λ last. Or.elim (prop p) (eq-or-mem_of_mem-cons last) (λ e. subst (λ (y : ℕ). P y) (sym e) here) (λ none. absurd (not-mem-nil none)))

-- the element at the end is an element
pub mem_last : (xs : List ℕ) (x : ℕ) → Mem x (xs ++ (x ∷ []))
mem_last xs x = mem-append_right xs mem-cons_self

-- an element before a place is an element
pub mem_take : (xs : List ℕ) (i p : ℕ) → Mem p (take i xs) → Mem p xs
mem_take xs i p m = subst (λ (l : List ℕ). Mem p l) (take-append-drop i xs) (mem-append_left (drop i xs) m)

-- periods in range are in range at every place ..
pub each_place : (periods : List ℕ) → AllInRange periods → All (OneTo longest_period) periods
each_place periods good = All-from_get_or (OneTo longest_period) periods 0 (λ k inside. good _ (get_or_mem periods k 0 inside))

-- .. and the other way round
pub each_member : (periods : List ℕ) → All (OneTo longest_period) periods → AllInRange periods
each_member periods good =
    holds_of_members (OneTo longest_period) (λ p. ×_prop le_prop le_prop) periods (λ k inside. All-get_or (OneTo longest_period) periods k 0 inside good)
