-- `command::numbers::value_of_digits` meets its contract: at the head of each turn the value is that of the digits before this one.
use mathlib.Core.Path.{◌≡◌}
use Prim.Native.Nat.{◌<◌}
use lib.ListN.{take}
use Rattle.command.specs.Commands.{number_limit}
use Rattle.command.specs.Reads.{value_from}
use Rattle.command.proofs.numbers.value_of_digits.Given as goal

abbrev pub invariant-loop-digit : goal.invariant-loop-digit
invariant-loop-digit l = (l.value ≡ value_from 0 (take l.digit-index l.digits)) × (l.value < number_limit)
