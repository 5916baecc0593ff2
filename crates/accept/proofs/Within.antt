-- What the checker found of a plan lies within its bytes: the round that breaks a rule begins where those before it end.
use mathlib.Core.Path.{ap}
use mathlib.Core.List.{List}
use Prim.Native.Nat.{ℕ, ◌≤◌, zero-le}
use native.Mathlib.Nat.{le_refl}
use native.Mathlib.Omega.{arith}
use lib.ListN.{length, length-append}
use Rattle.state.specs.declared.Planner.{Planner}
use Rattle.checker.specs.Plans.{laid_out}
use Rattle.checker.specs.Verdicts.{IsFinding, refused, all_pass, one_breaks}
use Rattle.checker.specs.declared.Finding.{Finding}

-- The place at which a round breaks a rule, or a sound plan ends.
pub at_within : {p : Planner} {bytes : List ℕ} {r : Finding} → IsFinding p bytes r → r.at ≤ length bytes
at_within (refused _) = zero-le
at_within (all_pass _ _) = le_refl _
at_within (one_breaks _ k n broken _) = omega (arith, ap length broken.are, length-append (laid_out broken.rounds) broken.rest)
