-- `table::Table::open_in_range` meets its contract: the records from the place on move one place up.
use Rattle.std.proofs.Common.{arith}
use Rattle.table.specs.Facts.Moves.{opens}
use Rattle.table.proofs.Table.open_in_range.Goals as goal

pub returns : goal.returns
returns c = rw c.copy_within.ensures.after (opens c.args.self.now c.args.place c.requires (omega arith) _)
