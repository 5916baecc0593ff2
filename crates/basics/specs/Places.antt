-- The place of a number among 64 that rise.
use Rattle.std.specs.Prelude.{List, ℕ, ◌≤◌, ◌<◌, get_or}

-- The first 64 numbers rise, or stay equal, from place to place.
abbrev pub Rises : List ℕ → Type 0
Rises vs = (i j : ℕ) → i < j → j < 64 → get_or vs i 0 ≤ get_or vs j 0

-- r of the numbers are less than x; 63 also where all 64 are.
pub record IsPlaceAmong (vs : List ℕ) (x r : ℕ) : Type 0 where
  pub within : r < 64
  pub less : (j : ℕ) → j < r → get_or vs j 0 < x
  pub rest : (j : ℕ) → r ≤ j → j < 63 → x ≤ get_or vs j 0
