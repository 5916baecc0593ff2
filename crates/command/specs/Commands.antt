-- Which lines are commands: O,B,F,G,T / A,id,S,P,D / D,id / R.
use mathlib.Core.List.{List, [], ◌∷◌, Mem}
use Rattle.std.specs.Prelude.{Option, Some, None, ℕ, ◌≤◌, ◌<◌, length}
use Rattle.command.specs.Text.{IsWritten, letter_O, letter_A, letter_D, letter_R}
use Rattle.command.specs.declared.Command.{Command}
use Rattle.command.specs.declared.Command.TheVariants.{Open, Add, Remove, Round}

-- Annex 11.8: the most bytes of a command's line.
abbrev pub longest_line : ℕ
longest_line = 63

-- Annex 11.7: each number of a command is below this one, and so fits 32 bits.
abbrev pub number_limit : ℕ
number_limit = 4_294_967_296

-- Annex 11.7, 11.8: a good line: of this letter and these numbers, each below 4,294,967,296, and at most 63 bytes long.
pub record IsGood (letter : ℕ) (ns line : List ℕ) : Type 0 where
  pub short : length line ≤ longest_line
  pub fits : (n : ℕ) → Mem n ns → n < number_limit
  pub written : IsWritten letter ns line

-- Annex 11.9: no command has this line.
pub record IsMalformed (line : List ℕ) : Type 0 where
  pub no_open : (b f g t : ℕ) → IsGood letter_O (b ∷ f ∷ g ∷ t ∷ []) line → ⊥
  pub no_add : (id s p d : ℕ) → IsGood letter_A (id ∷ s ∷ p ∷ d ∷ []) line → ⊥
  pub no_remove : (id : ℕ) → IsGood letter_D (id ∷ []) line → ⊥
  pub no_round : IsGood letter_R [] line → ⊥

-- Annex 11.6: a line says a command if it is a good line of its letter, O, A, D or R, and of just its numbers; every other is malformed.
abbrev pub Says : List ℕ → Option Command → Type 0
Says line (Some (Open b f g t)) = IsGood letter_O (b ∷ f ∷ g ∷ t ∷ []) line
Says line (Some (Add id s p d)) = IsGood letter_A (id ∷ s ∷ p ∷ d ∷ []) line
Says line (Some (Remove id)) = IsGood letter_D (id ∷ []) line
Says line (Some Round) = IsGood letter_R [] line
Says line None = IsMalformed line
