-- `Queue::move_all_sound` meets its contract: after k turns the first k moves are done, and every id is still at its place.
use Rattle.queue.specs.Layout.Moves.{Moving}
use Rattle.queue.proofs.Queue.move_all_sound.Given as goal

abbrev pub invariant-loop-k : goal.invariant-loop-k
invariant-loop-k l = Moving l.fn.self l.placed l.amounts l.k l.self
