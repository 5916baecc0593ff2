-- A whole script from memory into a lent buffer.
use Rattle.std.specs.Prelude.{◌≡◌, List, ℕ, ◌≤◌, length, take, drop}
use Rattle.state.specs.Open.{zeros, IsFresh}
use Rattle.command.specs.Runs.{HasRun, HasRunLast}
use Rattle.command.specs.declared.lines.Reached.{Reached}

-- Annex 11.10: where a run begins: the planner is closed, no line has been read, and nothing written.
pub record IsBeginning (s : Reached) : Type 0 where
  pub closed : IsFresh zeros 0 s.planner
  pub number : s.number ≡ 0
  pub from : s.from ≡ 0
  pub end : s.end ≡ 0

-- Annex 11.24: whole lines, then what is left; r bytes were written. Where the run stopped for want of room, what is left is not taken for a line.
pub record IsScript (script before after : List ℕ) (r : ℕ) : Type 0 where
  pub begins : Reached
  pub beginning : IsBeginning begins
  pub reached : Reached
  pub middle : List ℕ
  pub lines : HasRun begins script before middle reached
  pub ended : Reached
  pub last : HasRunLast reached script middle after ended
  pub written : r ≡ ended.end

-- Annex 11.24, 12.1: what was written stands at the front of the lent buffer, within it, and the places behind are as they were.
pub record StaysInside (before after : List ℕ) (written : ℕ) : Type 0 where
  pub within : written ≤ length before
  pub same_length : length after ≡ length before
  pub behind : drop written after ≡ drop written before

-- Annex 12.27: two runs of the same script into buffers of the same length: as many bytes written, the same ones; and from equal buffers all places are equal.
pub record IsSameOutput (before before' after after' : List ℕ) (r r' : ℕ) : Type 0 where
  pub count : r ≡ r'
  pub text : take r after ≡ take r' after'
  pub buffer : before ≡ before' → after ≡ after'
