use Rattle.std.proofs.Common.{take_all}
use native.Mathlib.Omega.{arith}
use Rattle.command.proofs.Facts.Text.{value_more, value_too_large}
use Rattle.command.proofs.numbers.value_of_digits.Goals as goal

pub returns-in_err-checked_mul : goal.returns-in_err-checked_mul
returns-in_err-checked_mul c =
    let loop = c.loop-digit in
    rw c.from_residual.ensures
    (value_too_large c.args.digits.now loop.digit-index loop.value c.loop-digit-test.true loop.invariant.0 (omega (arith, c.in_err-checked_mul.ensures)))

pub returns-in_err-value : goal.returns-in_err-value
returns-in_err-value c =
    let loop = c.loop-digit in
    rw c.from_residual-in_err-value.ensures
    (value_too_large c.args.digits.now loop.digit-index loop.value c.loop-digit-test.true loop.invariant.0
    (omega (arith, c.in_err-value.ensures, c.in_ok-checked_mul.ensures, c.from.ensures)))

pub loop-digit-preserved : goal.loop-digit-preserved
loop-digit-preserved c =
    let loop = c.loop-digit in
    let sum = c.in_ok-value.ensures in
    let more = value_more c.args.digits.now loop.digit-index c.loop-digit-test.true in
    (omega (arith, sum.1, c.in_ok-checked_mul.ensures, c.from.ensures, more, loop.invariant.0), omega (arith, sum.0, sum.1))

pub returns : goal.returns
returns c =
    let loop = c.loop-digit in
    let all = take_all loop.digit-index c.args.digits.now c.loop-digit-test.false in
    (rw all at loop.invariant.0, loop.invariant.1)
