-- `table::Table::in_range` meets its contract: the streams before this one follow one another, and one that cannot follow ends the search.
use Rattle.table.specs.Facts.RangeTests.{Followed}
use Rattle.table.proofs.Table.in_range.Given as goal

abbrev pub invariant-loop-stream : goal.invariant-loop-stream
invariant-loop-stream l = Followed l.frame l.now l.stream-items l.stream-index l.before
