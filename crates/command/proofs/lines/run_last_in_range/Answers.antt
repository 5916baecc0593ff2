use Rattle.std.proofs.Common.{arith}
use Rattle.command.proofs.Facts.Runs.{last_answered}
use Rattle.command.proofs.lines.run_last_in_range.Goals as goal

pub returns : goal.returns
returns c =
    let room = c.if-out-start-lt-ROOM.false in
    last_answered c.requires c.if-start-bytes.false (omega (arith, room, c.requires.in_buffer)) c.step_in_range-step.ensures
