-- `Queue::sixteen_are_alone` meets its contract: `alone` says whether the heads from x to before y are.
use Rattle.basics.specs.Below.{Between}
use Rattle.basics.specs.Decides.{Decides}
use Rattle.queue.specs.Layout.{next_at, prev_at}
use Rattle.queue.specs.Layout.Soundness.{HeadAlone}
use Rattle.queue.proofs.Queue.sixteen_are_alone.Given as goal

abbrev pub invariant-loop-y : goal.invariant-loop-y
invariant-loop-y l = Decides l.alone (Between l.fn.x l.y (HeadAlone (next_at l.self) (prev_at l.self)))
