use Rattle.std.proofs.lemmas.Result.{err_from_is_err_and}
use Rattle.checker.proofs.Facts.Sending.{none_sent}
use Rattle.checker.proofs.Facts.Slots.{one_refused, one_more, all_through}
use Rattle.checker.proofs.sending.Streams.send_all.Goals as goal

pub loop-number-init : goal.loop-number-init
loop-number-init c = none_sent

pub returns-in_err-send : goal.returns-in_err-send
returns-in_err-send c =
    let error = err_from_is_err_and c.from_residual.result c.from_residual.ensures.1 in
    let refused = c.in_err-send.ensures in
    rw (error.1, error.2) (refused.0, one_refused c.loop-number.invariant c.loop-number-test.true refused.1)

pub loop-number-preserved : goal.loop-number-preserved
loop-number-preserved c = one_more c.loop-number.invariant c.loop-number-test.true c.in_ok-send.ensures

pub returns : goal.returns
returns c = all_through c.loop-number.invariant c.loop-number-test.false
