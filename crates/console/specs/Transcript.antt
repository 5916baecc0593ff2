-- What the command program has read, and the answers to it: lines in order, none lost and none answered twice.
use Rattle.std.specs.Prelude.{◌≡◌, ◌⊎◌, List, [], ◌∷◌, ◌++◌, ℕ, ◌+◌, ◌≤◌, length, take}
use Rattle.state.specs.Open.{zeros, IsFresh}
use Rattle.state.specs.declared.Planner.{Planner}
use Rattle.command.specs.Step.{IsAnswer}
use Rattle.command.specs.Commands.{longest_line}
use Rattle.command.specs.Lines.{NoEnd}

-- Annex 11.1: none of the bytes ends a line.
abbrev pub HasNoEnd : List ℕ → Type 0
HasNoEnd bytes = NoEnd bytes 0 (length bytes)

-- Annex 11.3, 11.11, 11.22: each line ends in byte 10, has the next number, from 1 on, gets the planner that the one before left, and its answer
-- follows theirs.
pub data Transcript (p : Planner) : List ℕ → List ℕ → Planner → ℕ → Type 0 where
  none : Transcript p [] [] p 0
  next : {lines answers : List ℕ} {q : Planner} {n : ℕ} → Transcript p lines answers q n → (line answer : List ℕ) (after : Planner) → HasNoEnd line
      → IsAnswer q (n + 1) line answer after → Transcript p (lines ++ (line ++ (10 ∷ []))) (answers ++ answer) after (n + 1)

-- Annex 11.8: how many bytes of a line are kept at most: 64, one more than the longest command's line has.
abbrev pub most_kept : ℕ
most_kept = longest_line + 1

-- Annex 11.8: of bytes that begin with 64 or more of one line, the first 64 of these are kept: a line of more than 63 bytes is malformed whatever it says.
pub record IsCut (kept rest : List ℕ) : Type 0 where
  pub line : List ℕ
  pub more : List ℕ
  pub long : most_kept ≤ length line
  pub no_end : HasNoEnd line
  pub kept_is : kept ≡ take most_kept line ++ more
  pub rest_is : rest ≡ line ++ more

-- Annex 11.10: all bytes read are whole lines and a rest. The lines have been answered, from the closed planner on; p, after n lines, is what they left.
pub record AreAnswered (read written : List ℕ) (p : Planner) (n : ℕ) (rest : List ℕ) : Type 0 where
  pub first : Planner
  pub closed : IsFresh zeros 0 first
  pub lines : List ℕ
  pub all : read ≡ lines ++ rest
  pub transcript : Transcript first lines written p n

-- Annex 11.22: whole lines of what was read have been answered, and the bytes kept are the rest, or stand for it.
pub record Told (read written : List ℕ) (p : Planner) (n : ℕ) (kept : List ℕ) : Type 0 where
  pub rest : List ℕ
  pub answered : AreAnswered read written p n rest
  pub stands : (kept ≡ rest) ⊎ IsCut kept rest

-- Annex 11.2: all that was read is answered, and what follows the last line end is a line too, unless it is empty.
pub record ToldAll (read written : List ℕ) : Type 0 where
  pub rest : List ℕ
  pub no_end : HasNoEnd rest
  pub p : Planner
  pub n : ℕ
  pub answers : List ℕ
  pub answered : AreAnswered read answers p n rest
  pub nothing_left : rest ≡ [] → written ≡ answers
  pub last_line : (rest ≡ [] → ⊥) → (answer : List ℕ) × ((after : Planner) × (IsAnswer p (n + 1) rest answer after × (written ≡ answers ++ answer)))
