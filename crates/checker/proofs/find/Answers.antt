-- `checker::find` meets its contract: without a start the planner is not sound, and with one its records can be shown in columns.
use Rattle.std.proofs.Common.{rules}
use Rattle.checker.specs.Verdicts.{refused}
use Rattle.checker.proofs.Facts.Checking.{can_show}
use Rattle.checker.proofs.find.Goals as goal

pub of_table-requires : goal.of_table-requires
of_table-requires c = can_show c.args.p (search rules)

pub returns-in-None : goal.returns-in-None
returns-in-None c = rw c.from.ensures (refused c.in-None.ensures)
