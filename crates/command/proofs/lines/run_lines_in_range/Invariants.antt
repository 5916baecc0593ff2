-- `command::lines::run_lines_in_range` meets its contract: at the head of a turn whole lines have been answered up to `from`.
use Prim.Native.Nat.{◌-◌}
use lib.ListN.{length}
use Rattle.command.proofs.Facts.Runs.{Running}
use Rattle.command.proofs.lines.run_lines_in_range.Given as goal

abbrev pub invariant-loop-reached : goal.invariant-loop-reached
invariant-loop-reached l = Running l.fn.start l.bytes l.initial.out l.out l.reached

abbrev pub decreases-loop-reached : goal.decreases-loop-reached
decreases-loop-reached l = length l.bytes - l.reached.from
