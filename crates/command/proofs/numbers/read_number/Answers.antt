use native.Mathlib.Omega.{arith}
use Rattle.command.proofs.Facts.Numbers.{counted_digits, digits_alone, no_digits, leading_zero, too_large, its_number}
use Rattle.command.proofs.numbers.read_number.Goals as goal

pub returns-then-taken-eq0 : goal.returns-then-taken-eq0
returns-then-taken-eq0 c = no_digits (counted_digits c.count_digits-taken.ensures) c.if-taken-eq0.true

pub returns-then-has_leading_zero : goal.returns-then-has_leading_zero
returns-then-has_leading_zero c =
    leading_zero (counted_digits c.count_digits-taken.ensures) (c.has_leading_zero.ensures.if_true c.if-has_leading_zero.true)

pub value_of_digits-requires : goal.value_of_digits-requires
value_of_digits-requires c = digits_alone (counted_digits c.count_digits-taken.ensures)

pub returns-in_err-value : goal.returns-in_err-value
returns-in_err-value c = rw c.from_residual.ensures (too_large (counted_digits c.count_digits-taken.ensures) c.in_err-value.ensures)

pub returns : goal.returns
returns c =
    let digits = counted_digits c.count_digits-taken.ensures in
    let no_zero = c.has_leading_zero.ensures.if_false c.if-has_leading_zero.false in
    its_number digits no_zero (omega (arith, c.if-taken-eq0.false)) c.in_ok-value.ensures
