-- `Queue::insert` meets its contract: refused, it leaves the queue; else its entries are those of the change.
use Rattle.std.proofs.Common.{sym}
use Rattle.queue.proofs.Refused.{insert_can}
use Rattle.queue.proofs.Queue.insert.Goals as goal

pub insert_sound-requires : goal.insert_sound-requires
insert_sound-requires c = insert_can c.args.self.now c.args.entry.id c.args.entry.key c.args.entry.release (sym c.in_ok-may_insert.ensures)
