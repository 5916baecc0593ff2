-- What holds of every number below a bound, or between two, and deciding it.
use Rattle.std.specs.Prelude.{ℕ, zero, suc, ◌≤◌, ◌<◌}
use Rattle.std.proofs.Common.{add-one, arith, below_none, below_more}

-- P holds of every number below n.
abbrev pub Below : ℕ → (ℕ → Type 0) → Type 0
Below n P = (i : ℕ) → i < n → P i

-- P holds of every number from one to before another.
abbrev pub Between : ℕ → ℕ → (ℕ → Type 0) → Type 0
Between from to P = (x : ℕ) → from ≤ x → x < to → P x

-- what can be decided of every number can be decided of all numbers below n
pub decide_below : (P : ℕ → Type 0) → ((t : ℕ) → Dec (P t)) → (n : ℕ) → Dec ((t : ℕ) → t < n → P t)
decide_below P decide zero = yes (below_none P)
decide_below P decide (suc n) = go (decide_below P decide n) (decide n)
  where
    go : Dec ((t : ℕ) → t < n → P t) → Dec (P n) → Dec ((t : ℕ) → t < suc n → P t)
    go (no fails) here = no (λ all. fails (λ t below. all t (omega arith)))
    go (yes earlier) (no fails) = no (λ all. fails (all n (omega arith)))
    go (yes earlier) (yes here) = yes (rw add-one at (below_more P n earlier here))

-- an implication between what can be decided can be decided
pub decide_implies : {A B : Type 0} → Dec A → Dec B → Dec (A → B)
decide_implies (no a) b = yes (λ x. absurd (a x))
decide_implies (yes a) (yes b) = yes (λ _. b)
decide_implies (yes a) (no b) = no (λ f. b (f a))
