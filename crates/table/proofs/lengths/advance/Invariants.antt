-- `table::lengths::advance` meets its contract: the times before place i have gone on to t.
use Rattle.table.specs.Facts.Lengths.{GoneOn}
use Rattle.table.proofs.lengths.advance.Given as goal

abbrev pub invariant-loop-i : goal.invariant-loop-i
invariant-loop-i l = GoneOn l.periods l.t l.initial.times l.times l.sum l.i
