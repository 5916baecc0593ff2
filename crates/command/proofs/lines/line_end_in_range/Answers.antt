use Rattle.command.proofs.Facts.LineEnds.{first_end_is, no_end_found}
use Rattle.command.proofs.lines.line_end_in_range.Goals as goal

pub returns-in-Some : goal.returns-in-Some
returns-in-Some c = first_end_is c.args.bytes.now c.args.from c.requires c.in-Some.ensures

pub returns-in-None : goal.returns-in-None
returns-in-None c = no_end_found c.args.bytes.now c.args.from c.requires c.in-None.ensures
