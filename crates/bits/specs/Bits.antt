-- Sets of small numbers as binary digits.
use Rattle.std.specs.Prelude.{◌≡◌, List, ℕ, ◌/◌, ◌%◌, ◌^◌, length, get_or}

-- Digit n of a number.
abbrev pub digit : ℕ → ℕ → ℕ
digit x n = x / 2 ^ n % 2

-- n is in the set that a number of 64 bits is: its digit is 1.
abbrev pub In : ℕ → ℕ → Type 0
In set n = digit set n ≡ 1

-- The set with n in it, and with no other change.
pub record IsWith (set n r : ℕ) : Type 0 where
  pub here : In r n
  pub elsewhere : (k : ℕ) → (k ≡ n → ⊥) → digit r k ≡ digit set k

-- x is in the set that a list of such numbers is: in that of its word, 64 numbers a word.
abbrev pub InWords : List ℕ → ℕ → Type 0
InWords words x = In (get_or words (x / 64) 0) (x % 64)

-- The set of words with x in it, and with no other change.
pub record IsWordsWith (words : List ℕ) (x : ℕ) (after : List ℕ) : Type 0 where
  pub size : length after ≡ length words
  pub here : InWords after x
  pub kept : (k : ℕ) → InWords words k → InWords after k
  pub others : (k : ℕ) → (k ≡ x → ⊥) → InWords after k → InWords words k
