-- Numbers in text, and lines of a letter and numbers: Annex, chapter 11. A line is a list of bytes.
use Rattle.std.specs.Prelude.{◌≡◌, List, [], ◌∷◌, ◌++◌, ℕ, ◌+◌, ◌*◌, ◌≤◌, ◌<◌}
use Prim.Native.Char.{code}

-- Annex 11.4: a number in text: one digit, or a number that is not 0 and one digit more, so that no leading zero stands. 48 is the byte of the digit 0.
pub data IsNumeral : List ℕ → ℕ → Type 0 where
  digit : (d : ℕ) → d < 10 → IsNumeral ((48 + d) ∷ []) d
  further : {bytes : List ℕ} {n : ℕ} → IsNumeral bytes n → 1 ≤ n → (d : ℕ) → d < 10 → IsNumeral (bytes ++ ((48 + d) ∷ [])) (n * 10 + d)

-- Annex 11.5: fields, one for each number in its order: a comma, byte 44, and the number in text; nothing else.
pub data IsFields : List ℕ → List ℕ → Type 0 where
  none : IsFields [] []
  more : {bytes rest : List ℕ} {n : ℕ} {ns : List ℕ} → IsNumeral bytes n → IsFields rest ns → IsFields (44 ∷ (bytes ++ rest)) (n ∷ ns)

-- Annex 11.5: a line of a letter and these numbers: the letter's one byte, then their fields.
pub record IsWritten (letter : ℕ) (ns line : List ℕ) : Type 0 where
  pub fields : List ℕ
  pub begins : line ≡ letter ∷ fields
  pub numbers : IsFields fields ns

-- Annex 11.6: the byte of O, for open.
abbrev pub letter_O : ℕ
letter_O = code "O"

-- Annex 11.6: the byte of A, for add.
abbrev pub letter_A : ℕ
letter_A = code "A"

-- Annex 11.6: the byte of D, for remove.
abbrev pub letter_D : ℕ
letter_D = code "D"

-- Annex 11.6: the byte of R, for round.
abbrev pub letter_R : ℕ
letter_R = code "R"

-- Annex 11.20: the byte of E, for the answer to a malformed line.
abbrev pub letter_E : ℕ
letter_E = code "E"
