-- `table::Table::close_in_range` meets its contract: the later records move one place down.
use Rattle.std.proofs.Common.{arith}
use Rattle.table.specs.Facts.Moves.{closes}
use Rattle.table.proofs.Table.close_in_range.Goals as goal

pub returns : goal.returns
returns c = rw c.copy_within.ensures.after (closes c.args.self.now c.args.place c.requires (omega arith) _)
