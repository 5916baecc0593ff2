-- When a planner is open, by the lines answered so far, and which answers are 5. Annex, chapter 11.
use Rattle.std.specs.Prelude.{◌⊎◌, Some, List, [], ◌∷◌, ℕ}
use Rattle.state.specs.declared.Planner.{Planner}
use Rattle.command.specs.Text.{letter_O, letter_A, letter_D, letter_R}
use Rattle.command.specs.Commands.{Says}
use Rattle.command.specs.Puts.{IsLine}
use Rattle.command.specs.declared.Command.{Command}
use Rattle.command.specs.declared.Command.TheVariants.{Open, Add, Remove, Round}
use Rattle.console.specs.Transcript.{Transcript, none, next}

-- Annex 11.10: the line is no O; letter and numbers make it one, whatever open answers.
abbrev pub IsNoOpen : List ℕ → Type 0
IsNoOpen line = (b f g t : ℕ) → Says line (Some (Open b f g t)) → ⊥

-- Annex 11.10: of the lines answered some O was answered `O,0`, and no O came after it.
unfoldable pub IsOpen : {p q : Planner} {lines answers : List ℕ} {n : ℕ} → Transcript p lines answers q n → Type 0
IsOpen none = ⊥
IsOpen (next before line answer _ _ _) = IsLine letter_O (0 ∷ []) answer ⊎ (IsOpen before × IsNoOpen line)

-- Annex 11.10: the commands that ask for an open planner: A, D and R.
abbrev pub AsksForOpen : Command → Type 0
AsksForOpen (Open b f g t) = ⊥
AsksForOpen (Add id s p d) = Unit {0}
AsksForOpen (Remove id) = Unit {0}
AsksForOpen Round = Unit {0}

-- Annex 11.10: the bytes are the answer 5 to a command: `O,5`, `A,id,5`, `D,id,5` or `R,5`.
abbrev pub IsFive : Command → List ℕ → Type 0
IsFive (Open b f g t) bytes = IsLine letter_O (5 ∷ []) bytes
IsFive (Add id s p d) bytes = IsLine letter_A (id ∷ 5 ∷ []) bytes
IsFive (Remove id) bytes = IsLine letter_D (id ∷ 5 ∷ []) bytes
IsFive Round bytes = IsLine letter_R (5 ∷ []) bytes
