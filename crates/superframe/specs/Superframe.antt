-- The superframe of a list of periods, and the number that C gets: Annex, chapter 9.
use Rattle.std.specs.Prelude.{List, ℕ, ◌+◌, ◌*◌, ◌≤◌}
use Rattle.std.proofs.Math.Decide.{dec_le}
use Rattle.basics.specs.Limits.{longest_frame}
use Rattle.superframe.specs.Periods.{AllInRange}
use Rattle.superframe.specs.Decide.{decide_in_range, lcm_exists}

-- Annex 9.1: an answer, 0 or the number of a refusal, and a value.
pub record Answered : Type 0 where
  pub answer : ℕ
  pub value : ℕ

-- Annex 9.2, 9.3: a refusal gives its number with value 0.
abbrev pub refused : ℕ → Answered
refused number = record { answer = number; value = 0 }

-- Annex 9.3, 9.4: 19 if m, which is to be the least common multiple, is above 5,040; else answer 0 and the value m.
unfoldable pub within_limit : (m : ℕ) → Dec (m ≤ longest_frame) → Answered
within_limit m (yes _) = record { answer = 0; value = m }
within_limit m (no _) = refused 19

-- Annex 9.2: 18 if any period of the list is not 1 to 240; 19 is asked only where all are.
unfoldable pub by_range : (periods : List ℕ) → Dec (AllInRange periods) → Answered
by_range periods (yes good) = let m = (lcm_exists periods good).0 in within_limit m (dec_le m longest_frame)
by_range periods (no _) = refused 18

-- Annex 9.1: the answer and the value for a list of periods, whatever its length and its numbers.
unfoldable pub superframe_of : List ℕ → Answered
superframe_of periods = by_range periods (decide_in_range periods)

-- Annex 9.5: both in the one number that C gets, the answer × 65,536, plus the value.
abbrev pub packed : Answered → ℕ
packed a = a.answer * 65536 + a.value
