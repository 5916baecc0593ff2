-- `planner::offers::take_in` meets its contract: the queue has room for the stream's entry.
use Rattle.planner.proofs.Facts.Add.{can_file}
use Rattle.planner.proofs.offers.take_in.Goals as goal

pub insert_sound-requires : goal.insert_sound-requires
insert_sound-requires c = can_file c.in_ok-p.ensures.passed.0.can_test
