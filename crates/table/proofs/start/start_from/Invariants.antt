-- `table::start::start_from` meets its contract: the lengths before t have been looked at, and the walk stands at the length before t.
use Rattle.table.specs.Facts.Search.{SearchedTo}
use Rattle.table.proofs.start.start_from.Given as goal

abbrev pub invariant-loop-t : goal.invariant-loop-t
invariant-loop-t l = SearchedTo l.slots l.now l.cap l.first l.table l.times l.sum l.needed l.start l.t
