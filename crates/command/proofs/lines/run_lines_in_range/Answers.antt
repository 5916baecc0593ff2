use Rattle.std.proofs.Common.{arith}
use Rattle.command.proofs.Facts.Runs.{none_run, one_more_run}
use Rattle.command.proofs.lines.run_lines_in_range.Goals as goal

pub loop-reached-init : goal.loop-reached-init
loop-reached-init c = none_run c.requires

pub loop-reached-preserved : goal.loop-reached-preserved
loop-reached-preserved c =
    let running = c.loop-reached.invariant in
    let line_end = c.line_end_in_range-to.ensures in
    let room = c.if-out-reached-lt-ROOM.false in
    one_more_run c.requires running line_end c.if-to-bytes.false (omega (arith, room, running.in_buffer, running.long)) c.step_in_range-step.ensures
