-- `command::reading::read_fields` meets its contract: the fields before `at` are read, and whatever fields follow there follow in the line.
use Prim.Native.Nat.{◌-◌}
use lib.ListN.{length}
use Rattle.command.proofs.Facts.Lines.{IsReadUpTo}
use Rattle.command.proofs.reading.read_fields.Given as goal

abbrev pub invariant-loop-at : goal.invariant-loop-at
invariant-loop-at l = IsReadUpTo l.line l.values l.count l.at

abbrev pub decreases-loop-at : goal.decreases-loop-at
decreases-loop-at l = length l.line - l.at
