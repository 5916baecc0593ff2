-- Whole lines of a piece of input, answered one after the other.
use Rattle.std.specs.Prelude.{◌≡◌, ◌⊎◌, List, ℕ, ◌+◌, ◌-◌, ◌≤◌, ◌<◌, length, take, drop}
use Rattle.command.specs.Lines.{IsLineEnd}
use Rattle.command.specs.Puts.{room}
use Rattle.command.specs.Step.{IsStep}
use Rattle.command.specs.declared.lines.Reached.{Reached}
use Rattle.command.specs.declared.step.Step.{Step}

-- Annex 11.1: the bytes from one place up to another.
abbrev pub part_of : List ℕ → ℕ → ℕ → List ℕ
part_of bytes from to = take (to - from) (drop from bytes)

-- Annex 11.11, 11.24: each line is the part up to the next byte 10, has the next number, gets the planner that the one before left, and is answered
-- as IsStep says. It is run only with room for 1,430 bytes more.
pub data Reaches (bytes : List ℕ) (s : Reached) (out : List ℕ) : Reached → List ℕ → Type 0 where
  none : Reaches bytes s out s out
  one_more : {t : Reached} {written : List ℕ} → Reaches bytes s out t written
      → (to : ℕ) → IsLineEnd bytes t.from to → to < length bytes → t.end + room ≤ length out → (after : List ℕ) (r : Step)
      → IsStep t.planner (t.number + 1) (part_of bytes t.from to) written after t.end r
      → Reaches bytes s out (record { planner = r.planner; number = t.number + 1; from = to + 1; end = r.end }) after

-- Annex 11.3, 11.24: what running lines relies on: places within the input and the buffer, and line numbers that cannot wrap.
pub record CanRun (s : Reached) (bytes out : List ℕ) : Type 0 where
  pub in_input : s.from ≤ length bytes
  pub in_buffer : s.end ≤ length out
  pub counts : s.number + length bytes < 18_446_744_073_709_551_616

-- Annex 11.24: lines were run until no whole one was left, or fewer than 1,430 places of the buffer, which an answer may take.
pub record HasRun (s : Reached) (bytes before after : List ℕ) (r : Reached) : Type 0 where
  pub reaches : Reaches bytes s before r after
  pub in_input : r.from ≤ length bytes
  pub in_buffer : r.end ≤ length before
  pub counts : r.number + s.from ≤ s.number + r.from
  pub stopped : IsLineEnd bytes r.from (length bytes) ⊎ (length before < r.end + room)

-- Annex 11.24: what is left behind the last line end is run as a line, unless nothing is left, or fewer than 1,430 places of the buffer.
pub record HasRunLast (s : Reached) (bytes before after : List ℕ) (r : Reached) : Type 0 where
  pub nothing_left : s.from ≡ length bytes → (r ≡ s) × (after ≡ before)
  pub no_room : length before < s.end + room → (r ≡ s) × (after ≡ before)
  pub last_line : (s.from ≡ length bytes → ⊥) → s.end + room ≤ length before
      → (step : Step) × (IsStep s.planner (s.number + 1) (drop s.from bytes) before after s.end step
      × (r ≡ record { planner = step.planner; number = s.number + 1; from = length bytes; end = step.end }))
  pub in_buffer : r.end ≤ length before
