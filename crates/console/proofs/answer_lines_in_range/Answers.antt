-- `console::answer_lines_in_range` meets its contract: running lines answers them (`ran_answered`).
use Rattle.console.specs.Facts.Session.{ran_answered}
use Rattle.console.proofs.answer_lines_in_range.Goals as goal

pub returns : goal.returns
returns c = ran_answered c.requires c.run_lines_in_range-reached.ensures
