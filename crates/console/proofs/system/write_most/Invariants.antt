-- `console::system::write_most` ends: each write leaves fewer bytes, and never more than there were.
use Rattle.std.proofs.Common.{length, ◌≤◌}
use Rattle.console.proofs.system.write_most.Given as goal

abbrev pub invariant-loop-written : goal.invariant-loop-written
invariant-loop-written g l = length l.rest ≤ length l.bytes

abbrev pub decreases-loop-written : goal.decreases-loop-written
decreases-loop-written g l = length l.rest
