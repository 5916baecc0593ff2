-- `Queue::position_sound` meets its contract: the node reached has only smaller ranks before it, and ranks rise along a bucket.
use Rattle.std.proofs.Common.{◌-◌}
use Rattle.queue.specs.Layout.Ranks.{rank, rank_at, high}
use Rattle.queue.specs.Layout.Walk.{Reached}
use Rattle.queue.proofs.Queue.position_sound.Given as goal

abbrev pub invariant-loop-n : goal.invariant-loop-n
invariant-loop-n l = Reached l.self l.fn.entry.key (rank l.fn.entry.release l.fn.entry.id) l.n

abbrev pub decreases-loop-n : goal.decreases-loop-n
decreases-loop-n l = 65_536_000_032_768 - high (rank_at l.self) l.n
