-- One line of the command program: what it says, what the planner answers, and what is written.
use Rattle.std.specs.Prelude.{◌≡◌, Option, List, ℕ, ◌+◌, ◌≤◌}
use Rattle.state.specs.declared.Planner.{Planner}
use Rattle.command.specs.Commands.{Says}
use Rattle.command.specs.Answers.{IsAnswered}
use Rattle.command.specs.Puts.{room, IsPut, AreLines, lines_of}
use Rattle.command.specs.declared.Command.{Command}
use Rattle.command.specs.declared.answers.Answered.{Answered}
use Rattle.command.specs.declared.step.Step.{Step}

-- Annex 11.11: one line: what it says, what the planner answers to it, the planner that this leaves, and the bytes of the answer with its ends.
pub record IsAnswer (p : Planner) (number : ℕ) (line bytes : List ℕ) (after : Planner) : Type 0 where
  pub command : Option Command
  pub says : Says line command
  pub answered : Answered
  pub by_contract : IsAnswered p number command answered
  pub planner : after ≡ answered.planner
  pub written : AreLines (lines_of answered.lines) bytes

-- Annex 11.21: the answer to the line is written from `at` on, in at most 1,430 bytes; all other places stay.
pub record IsStep (p : Planner) (number : ℕ) (line before after : List ℕ) (at : ℕ) (r : Step) : Type 0 where
  pub written : IsPut (λ bytes. IsAnswer p number line bytes r.planner) before after at r.end
  pub in_room : r.end ≤ at + room
