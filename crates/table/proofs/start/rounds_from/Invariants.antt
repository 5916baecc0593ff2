-- `table::start::rounds_from` meets its contract: the rounds counted are never too many.
use Prim.Native.Nat.{◌-◌, ◌≤◌}
use Rattle.rules.specs.Demand.{ceil}
use Rattle.table.proofs.start.rounds_from.Given as goal

abbrev pub invariant-loop-n : goal.invariant-loop-n
invariant-loop-n l = l.n ≤ ceil l.packets l.slots

abbrev pub decreases-loop-n : goal.decreases-loop-n
decreases-loop-n l = ceil l.packets l.slots - l.n
