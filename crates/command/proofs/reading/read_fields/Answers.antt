use mathlib.Core.Path.{refl}
use native.Mathlib.Omega.{arith}
use Rattle.command.proofs.Facts.Lines.{at_first, field_more, all_read, field_fails}
use Rattle.command.proofs.reading.read_fields.Goals as goal

pub loop-at-init : goal.loop-at-init
loop-at-init c = at_first _ _ c.requires.0 refl

pub returns-in_err-number : goal.returns-in_err-number
returns-in_err-number c =
    rw c.from_residual.ensures (λ ns few. field_fails c.loop-at.invariant c.loop-at-test.true c.in_err-number.ensures ns)

pub loop-at-preserved : goal.loop-at-preserved
loop-at-preserved c =
    let number = c.in_ok-number in
    field_more c.loop-at.invariant c.loop-at-test.true (omega arith) number.ensures.0 number.ensures.1 (omega arith)

pub returns : goal.returns
returns c =
    let read = c.loop-at.invariant in
    (omega (arith, read.counted, read.places), all_read read c.loop-at-test.false)
