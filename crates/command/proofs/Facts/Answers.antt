-- The ids of a round: at most 64 of them, copied behind three numbers.
use Rattle.std.specs.Prelude.{◌≡◌, Option, Some, None, List, ℕ, ◌≤◌}
use Rattle.std.proofs.Common.{sym, ◌∙◌, arith}
use Rattle.std.proofs.Math.Decide.{ℕ_discrete}
use Rattle.basics.specs.Limits.{most_slots}
use Rattle.state.specs.Content.{content}
use Rattle.planner.specs.Round.{IsRound}
use Rattle.planner.proofs.Facts.Listed.{few_listed}
use Rattle.planner.proofs.Facts.Calls.{held_is_sound}
use Rattle.state.specs.declared.Planner.{Planner}
use Rattle.planner.specs.declared.Rounded.{Rounded}
use Rattle.command.specs.Puts.{AreFew}
use Rattle.command.specs.Answers.{IsAnswered}
use Rattle.command.specs.declared.Command.{Command}
use Rattle.command.specs.declared.Command.TheVariants.{Open, Add, Remove, Round}
use Rattle.command.specs.declared.answers.Answered.{Answered}

-- a held round lists at most 64 numbers
pub few_ids : {p : Planner} {before after : List ℕ} {r : Rounded} → IsRound p before after r → r.answer ≡ 0 → r.n ≤ most_slots
few_ids {p} {before} {r = r} is zero =
    let none = sym is.answer ∙ zero in
    let sound = held_is_sound p before none in
    omega (arith, (is.held none).n, few_listed (content p) r.start, sound.content_sound.in_range.setting.slots)

-- an answer's lines are few enough for its room
pub answered_few : (p : Planner) (number : ℕ) (command : Option Command) (r : Answered) → IsAnswered p number command r → AreFew r.lines
answered_few p number (Some (Open b f g t)) r is = is.given.few
answered_few p number (Some (Add id start period deadline)) r is = is.given.few
answered_few p number (Some (Remove id)) r is = is.given.few
answered_few p number (Some Round) r is = go (ℕ_discrete is.done.answer 0)
  where
    go : Dec (is.done.answer ≡ 0) → AreFew r.lines
    go (yes zero) = (is.held zero).few
    go (no some) = (is.refused some).few
answered_few p number None r is = is.few
