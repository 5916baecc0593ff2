-- Which ids have been met, kept in words of bits.
use Rattle.std.specs.Prelude.{◌≡◌, ℕ, ◌%◌, length}
use mathlib.Core.List.{List, Mem}
use Rattle.bits.specs.Bits.{InWords}
use Rattle.packets.specs.Good.{IdsGood}

-- The set has the remainder by 1,024 of each id. Two ids may share one, so that it may have the remainder of an id that was not met.
abbrev pub HasMet : List ℕ → List ℕ → Type 0
HasMet words ids = (x : ℕ) → Mem x ids → InWords words (x % 1024)

-- The ids met so far are good, and the set has their remainders.
pub record IsMet (ids words : List ℕ) : Type 0 where
  pub size : length words ≡ 16
  pub good : IdsGood ids
  pub all : HasMet words ids
