-- How many of the first places are marked, where a mark counts 1 and no mark 0.
use Rattle.std.specs.Prelude.{◌≡◌, Bool, true, false, List, get_or, replicate}
use Rattle.std.proofs.Math.Path.{refl, ap}
use Prim.Native.Nat.{ℕ, zero, suc, ◌+◌, ◌≤◌, ◌<◌}
use Rattle.std.proofs.Math.Nat.{lt_irrefl}
use Rattle.std.proofs.Math.Decide.{dec_lt}
use native.Mathlib.Omega.{arith}

-- The marks of the first n places.
unfoldable pub marked : (ℕ → ℕ) → ℕ → ℕ
marked met zero = 0
marked met (suc n) = met n + marked met n

-- A mark as a number.
abbrev pub mark : Bool → ℕ
mark true = 1
mark false = 0

-- The marks of an array.
abbrev pub marks_of : List Bool → ℕ → ℕ
marks_of met i = mark (get_or met i false)

-- an array that is false throughout has no mark
pub no_marks : (n i : ℕ) → marks_of (replicate n false) i ≡ 0
no_marks zero i = refl
no_marks (suc n) zero = refl
no_marks (suc n) (suc i) = no_marks n i

module _ (met : ℕ → ℕ) where
  -- with no place marked, the first n have 0 marks
  pub marked_none : ((i : ℕ) → met i ≡ 0) → (n : ℕ) → marked met n ≡ 0
  unfolding marked
  marked_none none zero = refl
  marked_none none (suc n) = omega (arith, none n, marked_none none n)

  module _ (marks : (i : ℕ) → met i ≤ 1) where
    -- the first n places have at most n marks
    pub marked_few : (n : ℕ) → marked met n ≤ n
    unfolding marked
    marked_few zero = omega arith
    marked_few (suc n) = omega (arith, marks n, marked_few n)

    -- as many marks as places: each has one
    pub all_marked : (n : ℕ) → marked met n ≡ n → (i : ℕ) → i < n → met i ≡ 1
    unfolding marked
    all_marked zero full i below = elim below [ ]
    all_marked (suc n) full i below =
        let here : met n ≡ 1 = omega (arith, marks n, marked_few n) in
        go here (all_marked n (omega arith) i) (dec_lt i n)
      where
        go : met n ≡ 1 → (i < n → met i ≡ 1) → Dec (i < n) → met i ≡ 1
        go here earlier (yes less) = earlier less
        go here earlier (no last) = let e : i ≡ n = omega arith in rw e here

  -- with each of the first n places marked, they have n marks
  pub marked_all : (n : ℕ) → ((i : ℕ) → i < n → met i ≡ 1) → marked met n ≡ n
  unfolding marked
  marked_all zero all = refl
  marked_all (suc n) all = omega (arith, all n (omega arith), marked_all n (λ i below. all i (omega arith)))

-- one mark more
module _ (met met' : ℕ → ℕ) (i : ℕ) (free : met i ≡ 0) (here : met' i ≡ 1) (elsewhere : (k : ℕ) → (k ≡ i → ⊥) → met' k ≡ met k) where
  marked_before : (n : ℕ) → n ≤ i → marked met' n ≡ marked met n
  unfolding marked
  marked_before zero below = refl
  marked_before (suc n) below = omega (arith, elsewhere n (λ same. lt_irrefl n (omega (arith, same))), marked_before n (omega arith))

  -- with a mark set at one of the first n places that had none, they have one mark more
  pub marked_more : (n : ℕ) → i < n → marked met' n ≡ marked met n + 1
  unfolding marked
  marked_more zero below = elim below [ ]
  marked_more (suc n) below = go (marked_more n) (dec_lt i n)
    where
      go : (i < n → marked met' n ≡ marked met n + 1) → Dec (i < n) → met' n + marked met' n ≡ met n + marked met n + 1
      go earlier (yes less) = omega (arith, elsewhere n (λ same. lt_irrefl n (omega (arith, same))), earlier less)
      go earlier (no last) = let e : i ≡ n = omega arith in omega (arith, ap met e, ap met' e, marked_before n (omega arith))
