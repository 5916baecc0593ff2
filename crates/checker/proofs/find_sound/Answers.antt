use native.Mathlib.Omega.{arith}
use Rattle.checker.proofs.Facts.Checking.{none_checked, rounds_fit, front_within, front_some, one_more_checked, breaks_here, plan_passes}
use Rattle.checker.proofs.find_sound.Goals as goal

pub loop-at-init : goal.loop-at-init
loop-at-init c = rw c.requires.held (none_checked c.args.p c.requires.sound)

pub overflow_add-passed : goal.overflow_add-passed
overflow_add-passed c = omega (arith, rounds_fit c.loop-at.invariant)

pub overflow_add-at : goal.overflow_add-at
overflow_add-at c = omega (arith, front_within c.loop-at.invariant (c.in-Ok.ensures _))

pub loop-at-smaller : goal.loop-at-smaller
loop-at-smaller c =
    omega (arith, front_within c.loop-at.invariant (c.in-Ok.ensures _), front_some c.loop-at.invariant (c.in-Ok.ensures _))

pub loop-at-preserved : goal.loop-at-preserved
loop-at-preserved c = one_more_checked c.loop-at.invariant (c.in-Ok.ensures _)

pub returns-in-Err : goal.returns-in-Err
returns-in-Err c = rw c.from.ensures (breaks_here c.loop-at.invariant c.loop-at-test.true (c.in-Err.ensures _))

pub returns : goal.returns
returns c = plan_passes c.loop-at.invariant c.loop-at-test.false
