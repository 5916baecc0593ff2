-- What the reading functions promise one another.
use Rattle.std.specs.Prelude.{◌≡◌, Option, Some, None, ℕ, ◌+◌, ◌-◌, ◌*◌, ◌≤◌, ◌<◌, length, take, drop, get_or}
use mathlib.Core.List.{List, [], ◌∷◌, Mem}
use Rattle.command.specs.Text.{IsNumeral, IsFields}
use Rattle.command.specs.Commands.{longest_line, number_limit, Says}
use Rattle.command.specs.declared.Command.{Command}
use Rattle.command.specs.declared.reading.Fields.{Fields}
use Rattle.command.specs.declared.numbers.Numeral.{Numeral}

abbrev pub IsDigit : ℕ → Type 0
IsDigit byte = (48 ≤ byte) × (byte ≤ 57)

-- A number ends where the bytes do, or where a byte stands that is no digit.
pub data Ends (bytes : List ℕ) (n : ℕ) : Type 0 where
  at_end : n ≡ length bytes → Ends bytes n
  before_other : n < length bytes → (IsDigit (get_or bytes n 0) → ⊥) → Ends bytes n

-- The first digit is a 0, byte 48, and others follow.
abbrev pub HasLeadingZero : List ℕ → Type 0
HasLeadingZero digits = (2 ≤ length digits) × (get_or digits 0 0 ≡ 48)

-- The value of digits that follow a number m.
abbrev pub value_from : ℕ → List ℕ → ℕ
value_from m [] = m
value_from m (byte ∷ bytes) = value_from (m * 10 + (byte - 48)) bytes

-- What the digits' value is, if it fits 32 bits.
abbrev pub IsValueOf : List ℕ → Option ℕ → Type 0
IsValueOf digits (Some v) = (v ≡ value_from 0 digits) × (v < number_limit)
IsValueOf digits None = number_limit ≤ value_from 0 digits

-- The number v is all digits up to the first other byte, n bytes; or no number that fits 32 bits is.
pub record IsNumberAtStart (bytes : List ℕ) (v n : ℕ) : Type 0 where
  pub within : n ≤ length bytes
  pub numeral : IsNumeral (take n bytes) v
  pub fits : v < number_limit
  pub ends : Ends bytes n

-- What is read is that number; where nothing is, there is none.
abbrev pub IsReadNumber : List ℕ → Option Numeral → Type 0
IsReadNumber bytes (Some r) = IsNumberAtStart bytes r.value r.taken
IsReadNumber bytes None = (v n : ℕ) → IsNumberAtStart bytes v n → ⊥

-- A field is a comma, byte 44, and a number from the next byte on.
abbrev pub IsReadField : List ℕ → ℕ → Option Numeral → Type 0
IsReadField line at (Some r) = (get_or line at 0 ≡ 44) × IsReadNumber (drop (at + 1) line) (Some r)
IsReadField line at None = get_or line at 0 ≡ 44 → IsReadNumber (drop (at + 1) line) None

abbrev pub Fit : List ℕ → Type 0
Fit ns = (n : ℕ) → Mem n ns → n < number_limit

-- The numbers, and no others, are those of the fields after the line's first byte.
pub record AreNumbers (line ns : List ℕ) : Type 0 where
  pub fit : Fit ns
  pub fields : IsFields (drop 1 line) ns
  pub only : (others : List ℕ) → IsFields (drop 1 line) others → others ≡ ns

-- What is read is right; where nothing is, the line has not up to four numbers that fit 32 bits.
abbrev pub IsReadFields : List ℕ → Option Fields → Type 0
IsReadFields line (Some r) = (r.count ≤ length r.values) × AreNumbers line (take r.count r.values)
IsReadFields line None = (ns : List ℕ) → length ns ≤ 4 → Fit ns → IsFields (drop 1 line) ns → ⊥

-- A line of 1 to 63 bytes, with its letter and its numbers.
pub record IsSplit (line : List ℕ) (letter : ℕ) (ns : List ℕ) : Type 0 where
  pub short : length line ≤ longest_line
  pub begins : line ≡ letter ∷ drop 1 line
  pub numbers : AreNumbers line ns

abbrev pub IsCommandOf : ℕ → List ℕ → Option Command → Type 0
IsCommandOf letter ns command = (line : List ℕ) → IsSplit line letter ns → Says line command
