-- What the planner answers to a command: Annex, chapter 11.
use Rattle.std.specs.Prelude.{◌≡◌, Option, Some, None, List, [], ◌∷◌, ℕ, length, take}
use Rattle.basics.specs.Limits.{most_slots}
use Rattle.state.specs.Open.{setting, IsOpened}
use Rattle.planner.specs.declared.Offer.{Offer}
use Rattle.planner.specs.AddRemove.{offer, IsAdd, IsRemove}
use Rattle.planner.specs.Round.{IsRound}
use Rattle.state.specs.declared.Setting.{Setting}
use Rattle.state.specs.declared.Planner.{Planner}
use Rattle.state.specs.declared.Changed.{Changed}
use Rattle.planner.specs.declared.Rounded.{Rounded}
use Rattle.command.specs.Text.{letter_O, letter_A, letter_D, letter_R, letter_E}
use Rattle.command.specs.Puts.{lines_of, AreFew}
use Rattle.command.specs.declared.Command.{Command}
use Rattle.command.specs.declared.Command.TheVariants.{Open, Add, Remove, Round}
use Rattle.command.specs.declared.answers.Answered.{Answered}

-- Annex 11.20: an answer leaves this planner and has these lines, each a letter and numbers, few enough for its room.
pub record Gives (p : Planner) (lines : List (ℕ × List ℕ)) (r : Answered) : Type 0 where
  pub planner : r.planner ≡ p
  pub its_lines : lines_of r.lines ≡ lines
  pub few : AreFew r.lines

-- Annex 11.12, 11.13: O is open, whatever was open before: the planner is the one that open hands back, and the line `O,` and its number.
pub record IsOpenGiven (s : Setting) (t : ℕ) (r : Answered) : Type 0 where
  pub done : Changed
  pub by_contract : IsOpened s t done
  pub given : Gives done.planner ((letter_O, done.answer ∷ []) ∷ []) r

-- Annex 11.14, 11.16: A is add: the planner is the one that add hands back, and the line `A,`, the id as it was read, and the number.
pub record IsAddGiven (p : Planner) (o : Offer) (r : Answered) : Type 0 where
  pub done : Changed
  pub by_contract : IsAdd p o done
  pub given : Gives done.planner ((letter_A, o.id ∷ done.answer ∷ []) ∷ []) r

-- Annex 11.15, 11.16: D is remove: the planner is the one that remove hands back, and the line `D,`, the id as it was read, and the number.
pub record IsRemoveGiven (p : Planner) (id : ℕ) (r : Answered) : Type 0 where
  pub done : Changed
  pub by_contract : IsRemove p id done
  pub given : Gives done.planner ((letter_D, id ∷ done.answer ∷ []) ∷ []) r

-- Annex 11.17, 11.18, 11.19: R is round, with a buffer of 64 places: held, the line is `R,0,`, start, n and the n ids; refused, `R,` and its number.
pub record IsRoundGiven (p : Planner) (r : Answered) : Type 0 where
  pub done : Rounded
  pub before : List ℕ
  pub after : List ℕ
  pub places : length before ≡ most_slots
  pub by_contract : IsRound p before after done
  pub held : done.answer ≡ 0 → Gives done.planner ((letter_R, 0 ∷ done.start ∷ done.n ∷ take done.n after) ∷ []) r
  pub refused : (done.answer ≡ 0 → ⊥) → Gives done.planner ((letter_R, done.answer ∷ []) ∷ []) r

-- Annex 11.13, 11.20: what is answered to each command by this planner; to a malformed line `E,20,` and its number, and the planner stays.
abbrev pub IsAnswered : Planner → ℕ → Option Command → Answered → Type 0
IsAnswered p number (Some (Open b f g t)) r = IsOpenGiven (setting b f g 0) t r
IsAnswered p number (Some (Add id start period deadline)) r = IsAddGiven p (offer id start period deadline) r
IsAnswered p number (Some (Remove id)) r = IsRemoveGiven p id r
IsAnswered p number (Some Round) r = IsRoundGiven p r
IsAnswered p number None r = Gives p ((letter_E, 20 ∷ number ∷ []) ∷ []) r
