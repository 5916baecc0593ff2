-- The least number with a property.
use Rattle.std.specs.Prelude.{ℕ, ◌≤◌}

-- Annex 9.4: m has the property, and no smaller number has it.
pub record IsLeast (P : ℕ → Type 0) (m : ℕ) : Type 0 where
  pub holds : P m
  pub least : (n : ℕ) → P n → m ≤ n
