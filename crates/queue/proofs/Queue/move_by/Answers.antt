-- `Queue::move_by` meets its contract: refused, it leaves the queue; else its entries are those of the change.
use Rattle.std.proofs.Common.{sym}
use Rattle.queue.proofs.Refused.{move_can}
use Rattle.queue.proofs.Queue.move_by.Goals as goal

pub move_sound-requires : goal.move_sound-requires
move_sound-requires c = move_can c.args.self.now c.args.id c.args.amount (sym c.in_ok-may_move.ensures)
