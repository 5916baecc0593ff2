use mathlib.Core.Path.{subst}
use native.Mathlib.Omega.{arith}
use native.Mathlib.Nat.{lt_of_lt_of_le}
use lib.Seq.{take_all}
use Rattle.superframe.proofs.Fold.{Folded, folded_none, folded_next, folded_least, folded_done}
use Rattle.superframe.proofs.lcm_in_range.Goals as goal

pub loop-period-init : goal.loop-period-init
loop-period-init c = (folded_none, omega arith)

pub returns-then-m-gt-LONGEST_FRAME : goal.returns-then-m-gt-LONGEST_FRAME
returns-then-m-gt-LONGEST_FRAME c n common =
    let lcm = rw c.from.ensures at c.lcm_within_limit-m.ensures in
    let next = folded_next _ _ _ _ c.loop-period-test.true c.loop-period.invariant.0 lcm in
    lt_of_lt_of_le c.if-m-gt-LONGEST_FRAME.true (folded_least _ _ _ next n common)

pub loop-period-preserved : goal.loop-period-preserved
loop-period-preserved c =
    let lcm = rw c.from.ensures at c.lcm_within_limit-m.ensures in
    (folded_next _ _ _ _ c.loop-period-test.true c.loop-period.invariant.0 lcm, c.if-m-gt-LONGEST_FRAME.false)

pub returns : goal.returns
returns c =
    let loop = c.loop-period in
    let whole = take_all loop.period-index c.args.periods.now c.loop-period-test.false in
    (folded_done _ _ (subst (λ xs. Folded xs loop.m) whole loop.invariant.0), loop.invariant.1)
