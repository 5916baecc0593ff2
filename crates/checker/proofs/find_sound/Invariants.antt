-- `checker::find_sound` meets its contract: at the head of a turn the rounds before the place reached have passed.
use Prim.Native.Nat.{◌-◌}
use lib.ListN.{length}
use Rattle.checker.proofs.Facts.Checking.{Checking}
use Rattle.checker.proofs.find_sound.Given as goal

abbrev pub invariant-loop-at : goal.invariant-loop-at
invariant-loop-at l = Checking l.p l.plan l.streams l.last l.passed l.at

abbrev pub decreases-loop-at : goal.decreases-loop-at
decreases-loop-at l = length l.plan - l.at
