-- `queue::empty` meets its contract: each head from 64 to x is its own neighbour, and the places' links are 0 as they were.
use Rattle.queue.specs.Layout.Heads.{HeadsAlone}
use Rattle.queue.proofs.empty.Given as goal

abbrev pub invariant-loop-x : goal.invariant-loop-x
invariant-loop-x l = HeadsAlone l.links l.x
