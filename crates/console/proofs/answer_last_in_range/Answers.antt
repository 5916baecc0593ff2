-- `console::answer_last_in_range` meets its contract: what is left is run as a line (`ran_last`).
use Rattle.console.specs.Facts.Session.{ran_last}
use Rattle.console.proofs.answer_last_in_range.Goals as goal

pub returns : goal.returns
returns c =
    let can = c.requires in
    ran_last can.can_answer can.no_end c.run_last_in_range-reached.ensures
