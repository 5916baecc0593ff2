-- `accept::script::planner_of` meets its contract: at the head of a turn the planner is what the lines in front leave. There are no more lines than bytes.
use Prim.Native.Nat.{◌-◌, ◌≤◌}
use lib.ListN.{length}
use Rattle.accept.specs.Script.{Leaves}
use Rattle.accept.proofs.script.planner_of.Given as goal

abbrev pub invariant-loop-from : goal.invariant-loop-from
invariant-loop-from l = (l.number ≤ l.from) × Leaves l.script l.from l.number l.planner

abbrev pub decreases-loop-from : goal.decreases-loop-from
decreases-loop-from l = length l.script - l.from
