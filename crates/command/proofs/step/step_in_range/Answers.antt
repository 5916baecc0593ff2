use mathlib.Core.Path.{refl}
use native.Mathlib.Omega.{arith}
use lib.ListN.{length}
use Rattle.std.proofs.Common.{◌-◌, length-take, length-drop}
use Rattle.command.specs.Answers.{IsAnswered}
use Rattle.command.proofs.Facts.Answers.{answered_few}
use Rattle.command.proofs.Facts.Puts.{put_as, put_in_rest}
use Rattle.command.proofs.step.step_in_range.Goals as goal
use Rattle.command.proofs.step.step_in_range.Goals.{in-Some, in-None}

pub put_lines_in_range-written-requires : goal.put_lines_in_range-written-requires
put_lines_in_range-written-requires c =
    let by_contract : IsAnswered c.args.planner c.args.number c.parse.result c.match-parse.answered =
    elim c.match-parse.branch [
      | in-Some w ↦ rw (w.in-Some.is, w.answered-is) (w.answer-answered.ensures c.args.number)
      | in-None w ↦ rw (w.in-None.is, w.answered-is) w.malformed-answered.ensures
    ] in
    (answered_few _ _ _ _ by_contract, omega (arith, c.requires, length-take (length c.args.out.now - c.args.at) (lib.ListN.drop c.args.at c.args.out.now), length-drop c.args.at c.args.out.now))

pub returns : goal.returns
returns c =
    let answered = c.match-parse.answered in
    let put = c.put_lines_in_range-written.ensures in
    let by_contract : IsAnswered c.args.planner c.args.number c.parse.result answered =
    elim c.match-parse.branch [
      | in-Some w ↦ rw (w.in-Some.is, w.answered-is) (w.answer-answered.ensures c.args.number)
      | in-None w ↦ rw (w.in-None.is, w.answered-is) w.malformed-answered.ensures
    ] in
    record {
      written = put_in_rest c.args.at (omega (arith, c.requires))
          (put_as (λ bytes lines.
          record {
            command = c.parse.result;
            says = c.parse.ensures;
            answered = answered;
            by_contract = by_contract;
            planner = refl;
            written = lines;
          }) put.put);
      in_room = omega (arith, put.upper_bound);
    }
