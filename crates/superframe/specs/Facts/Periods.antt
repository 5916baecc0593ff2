-- Periods have no second least common multiple.
use Rattle.std.specs.Prelude.{◌≡◌, List, ℕ}
use Rattle.std.proofs.Common.{le_antisymm}
use Rattle.superframe.specs.Periods.{IsLcm}

-- Annex 9.4: no two numbers are the least common multiple of the same periods
pub lcm_unique : (periods : List ℕ) (m n : ℕ) → IsLcm periods m → IsLcm periods n → m ≡ n
lcm_unique periods m n a b = le_antisymm (a.least n b.holds) (b.least m a.holds)
