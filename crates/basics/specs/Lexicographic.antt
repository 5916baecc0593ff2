-- An order by a first number, and where that is equal by what comes next.
use Rattle.std.specs.Prelude.{◌≡◌, ◌⊎◌, ℕ, ◌<◌}
use Rattle.std.proofs.Common.{inl, inr, ⊎_elim}
use Rattle.std.proofs.Math.Decide.{dec_lt, ℕ_discrete}

-- Annex 5.2, 8.2: in order by a number, the smaller first, and among equals by the rest: a is less than b, or they are equal and the rest is in order.
abbrev pub Then : ℕ → ℕ → Type 0 → Type 0
Then a b Rest = (a < b) ⊎ ((a ≡ b) × Rest)

-- Annex 5.2, 8.2: such an order can be decided if the rest can.
pub decide_then : (a b : ℕ) {R : Type 0} → Dec R → Dec (Then a b R)
decide_then a b {R} rest = go (dec_lt a b) (ℕ_discrete a b) rest
  where
    go : Dec (a < b) → Dec (a ≡ b) → Dec R → Dec (Then a b R)
    go (yes less) same r = yes (inl less)
    go (no not_less) (no other) r = no (λ e. ⊎_elim not_less (λ w. other w.0) e)
    go (no not_less) (yes same) (yes r) = yes (inr (same, r))
    go (no not_less) (yes same) (no none) = no (λ e. ⊎_elim not_less (λ w. none w.1) e)
