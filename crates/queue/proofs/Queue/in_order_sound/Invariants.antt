-- `Queue::in_order_sound` meets its contract: with k entries met, the walk stands before the others.
use Rattle.std.proofs.Common.{◌≤◌}
use Rattle.basics.specs.Limits.{places}
use Rattle.queue.specs.Layout.InOrder.{Met}
use Rattle.queue.proofs.Queue.in_order_sound.Given as goal

abbrev pub invariant-loop-k : goal.invariant-loop-k
invariant-loop-k l = record { few : l.count ≤ places; met : Met l.self l.count l.k l.key l.n (record { ids = l.ids; places = l.places }) }
