-- What a refusal by a limit says of the number.
use Rattle.std.proofs.Math.Logic.Dec.{not-not as Dec-not_not}
use Rattle.std.specs.Prelude.{ℕ}
use Rattle.basics.specs.OneTo.{OneTo, decide_one_to}

-- a number that `not_in` does not refuse is 1 to the limit
pub in_limit : (most n : ℕ) → ((OneTo most n → ⊥) → ⊥) → OneTo most n
in_limit most n not_out = (Dec-not_not (decide_one_to most n)).0 not_out
