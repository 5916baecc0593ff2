-- `table::lengths::busy_length_in_range` meets its contract: the sums are those of the length before t, and the demand rule holds up to it.
use Prim.Native.Nat.{◌-◌}
use Rattle.table.specs.Facts.Busy.{TestedTo}
use Rattle.table.proofs.lengths.busy_length_in_range.Given as goal

abbrev pub invariant-loop-t : goal.invariant-loop-t
invariant-loop-t l = TestedTo l.slots l.frame l.table l.periods l.dues l.releases l.sums (l.t - 1)
