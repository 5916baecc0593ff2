-- `planner::rounds::round_start` meets its contract: behind the test of soundness the lazy start is known, and decides.
use Rattle.state.specs.Needs.{StartsAt}
use Rattle.planner.proofs.Facts.Refused.{is_too_late, is_held}
use Rattle.planner.proofs.rounds.round_start.Goals as goal

pub returns-then-start-gt-LAST_START-clause-answers : goal.returns-then-start-gt-LAST_START-clause-answers
returns-then-start-gt-LAST_START-clause-answers c =
    let starts : StartsAt c.args.p.now c.in_ok-start.start = rw c.in_ok-start.ensures.ok_part at c.sound_start.ensures in
    is_too_late starts.sound _ c.if-buffer-p.false starts.start c.if-start-gt-LAST_START.true

pub returns-clause-answers : goal.returns-clause-answers
returns-clause-answers c =
    let starts : StartsAt c.args.p.now c.in_ok-start.start = rw c.in_ok-start.ensures.ok_part at c.sound_start.ensures in
    is_held starts.sound _ c.if-buffer-p.false starts.start c.if-start-gt-LAST_START.false
