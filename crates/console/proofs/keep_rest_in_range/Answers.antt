-- `console::keep_rest_in_range` meets its contract: the first 64 bytes at hand stand for all (`moved_kept`).
use Rattle.console.specs.Facts.Session.{moved_kept}
use Rattle.console.proofs.keep_rest_in_range.Goals as goal

pub returns : goal.returns
returns c = moved_kept c.requires c.move_to_front_in_range-have.ensures
