-- Lines cut from a piece of input, one after the other, each ended by LF, which is byte 10.
use Rattle.std.specs.Prelude.{◌≡◌, List, ℕ, ◌≤◌, ◌<◌, length, get_or}

-- Annex 11.1: no byte from `from` on and before i ends a line: none is 10.
abbrev pub NoEnd : List ℕ → ℕ → ℕ → Type 0
NoEnd bytes from i = (k : ℕ) → from ≤ k → k < i → get_or bytes k 0 ≡ 10 → ⊥

-- Annex 11.1: a line from `from` on ends at r, the place of the first byte 10 from there, or the length where there is none.
pub record IsLineEnd (bytes : List ℕ) (from r : ℕ) : Type 0 where
  pub after : from ≤ r
  pub within : r ≤ length bytes
  pub before : NoEnd bytes from r
  pub ends : r < length bytes → get_or bytes r 0 ≡ 10
