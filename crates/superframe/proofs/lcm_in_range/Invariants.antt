-- `superframe::lcm_in_range` meets its contract: m is the least common multiple of the periods before this one, and at most 5,040.
use lib.ListN.{take}
use Prim.Native.Nat.{◌≤◌}
use Rattle.basics.specs.Limits.{longest_frame}
use Rattle.superframe.proofs.Fold.{Folded}
use Rattle.superframe.proofs.lcm_in_range.Given as goal

abbrev pub invariant-loop-period : goal.invariant-loop-period
invariant-loop-period l = Folded (take l.period-index l.periods) l.m × (l.m ≤ longest_frame)
