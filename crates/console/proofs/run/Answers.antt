use mathlib.Core.Path.{sym, ◌∙◌}
use native.Mathlib.Omega.{arith}
use Rattle.console.specs.Facts.Turns.{begun_going, gone_on}
use Rattle.console.proofs.run.Goals as goal

pub loop-turns-init : goal.loop-turns-init
loop-turns-init g c = ((c.large_buffer-input.ensures, c.large_buffer-out.ensures), begun_going c.begun-s.ensures)

pub loop-turns-preserved : goal.loop-turns-preserved
loop-turns-preserved g c =
    let ((places, room), going) = c.loop-turns.invariant in
    let turn = c.turn_in_range-turn in
    ((places ∙ sym turn.auto.input, room ∙ sym turn.auto.out), gone_on going turn.ensures (omega (arith, c.loop-turns-test.true)))
