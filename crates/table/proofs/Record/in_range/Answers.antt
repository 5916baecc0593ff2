-- `table::Record::in_range` meets its contract: a period that does not divide the frame is out of range.
use Rattle.std.proofs.Common.{arith}
use native.Mathlib.Nat.{mod-eq-zero_of_dvd}
use Rattle.table.proofs.Record.in_range.Goals as goal

pub returns-else-is_multiple_of : goal.returns-else-is_multiple_of
returns-else-is_multiple_of c = grind (arith, mod-eq-zero_of_dvd)
