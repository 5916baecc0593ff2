-- Lists of periods: in range, common multiples, the least common multiple.
use mathlib.Core.List.{List, Mem}
use Rattle.std.specs.Prelude.{ℕ, ◌≤◌}
use Rattle.std.specs.Int.{◌∣◌}
use Rattle.basics.specs.Limits.{longest_period}
use Rattle.basics.specs.OneTo.{OneTo}
use Rattle.superframe.specs.Least.{IsLeast}

-- Annex 9.2: every period of the list is 1 to 240, wherever it stands.
abbrev pub AllInRange : List ℕ → Type 0
AllInRange periods = (p : ℕ) → Mem p periods → OneTo longest_period p

-- Annex 9.4: a common multiple of the periods: a number from 1 on that every period of the list divides.
abbrev pub IsCommonMultiple : List ℕ → ℕ → Type 0
IsCommonMultiple periods m = (1 ≤ m) × ((p : ℕ) → Mem p periods → p ∣ m)

-- Annex 9.4: the least of the common multiples. Of no periods it is 1.
abbrev pub IsLcm : List ℕ → ℕ → Type 0
IsLcm periods m = IsLeast (IsCommonMultiple periods) m
