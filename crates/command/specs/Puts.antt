-- What is put into a lent buffer of bytes.
use Rattle.std.specs.Prelude.{◌≡◌, List, [], ◌∷◌, ◌++◌, ℕ, ◌+◌, ◌*◌, ◌≤◌, length, take, drop}
use Rattle.command.specs.Text.{IsWritten}
use Rattle.command.specs.declared.print.Lines.{Lines}

-- Annex 11.21: the most bytes that the answer to a line has, its ends counted.
abbrev pub room : ℕ
room = 1430

-- Annex 11.21, 11.24: bytes with a property stand in the buffer from `at` to r; all other places are as they were.
pub record IsPut (P : List ℕ → Type 0) (before after : List ℕ) (at r : ℕ) : Type 0 where
  pub bytes : List ℕ
  pub property : P bytes
  pub ends : r ≡ at + length bytes
  pub content : after ≡ take at before ++ (bytes ++ drop r before)

-- Annex 11.21: a line of a letter and numbers, and the byte 10 that ends it.
pub record IsLine (letter : ℕ) (ns bytes : List ℕ) : Type 0 where
  pub line : List ℕ
  pub written : IsWritten letter ns line
  pub ended : bytes ≡ line ++ (10 ∷ [])

-- Annex 11.21: lines one after the other, each a letter and numbers with its end.
pub data AreLines : List (ℕ × List ℕ) → List ℕ → Type 0 where
  no_lines : AreLines [] []
  line_then : {letter : ℕ} {ns bytes rest : List ℕ} {lines : List (ℕ × List ℕ)} → IsLine letter ns bytes → AreLines lines rest
      → AreLines ((letter, ns) ∷ lines) (bytes ++ rest)

-- Annex 11.20: the lines of an answer: one, of its letter and the first values.
abbrev pub lines_of : Lines → List (ℕ × List ℕ)
lines_of ls = (ls.letter, take ls.count ls.values) ∷ []

-- Annex 11.20: an answer has room for at most 68 numbers.
abbrev pub most_numbers : ℕ
most_numbers = 68

-- Annex 11.21: the lines of an answer are few enough for its room.
abbrev pub AreFew : Lines → Type 0
AreFew ls = ls.count ≤ most_numbers

-- Annex 11.21: the most bytes that a line of n numbers has: its letter, n commas, n times 20 digits, and its end.
abbrev pub line_room : ℕ → ℕ
line_room n = 2 + 21 * n
