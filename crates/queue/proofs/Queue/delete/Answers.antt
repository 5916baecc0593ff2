-- `Queue::delete` meets its contract: refused, it leaves the queue; else its entries are those of the change.
use Rattle.std.proofs.Common.{sym}
use Rattle.queue.proofs.Refused.{delete_can}
use Rattle.queue.proofs.Queue.delete.Goals as goal

pub delete_sound-requires : goal.delete_sound-requires
delete_sound-requires c = delete_can c.args.self.now c.args.id (sym c.in_ok-may_delete.ensures)
