-- What the inner functions of a turn promise one another: answering, keeping a cut line, reading more.
use Rattle.std.specs.Prelude.{◌≡◌, ◌⊎◌, List, ◌++◌, ℕ, ◌+◌, ◌-◌, ◌≤◌, ◌<◌, min, length, take, drop}
use Rattle.command.specs.Puts.{room}
use Rattle.command.specs.Script.{IsBeginning}
use Rattle.console.specs.Transcript.{most_kept, HasNoEnd, ToldAll}
use Rattle.console.specs.declared.Session.{Session}
use Rattle.console.specs.declared.Turn.{Turn}
use Rattle.console.specs.declared.Outcome.TheVariants.{Ended}
use Rattle.console.specs.Session.{buffer_places, at_hand, HasTold, InBounds, delivered}

-- Nothing has been read and nothing written.
pub record IsBegun (s : Session) : Type 0 where
  pub beginning : IsBeginning s.reached
  pub have : s.have ≡ 0

-- The most lines that a run numbers; 64 bits hold twice as many numbers.
abbrev pub most_lines : ℕ
most_lines = 9_223_372_036_854_775_808

-- What answering relies on: an empty output, and a line number that cannot wrap.
pub record CanAnswer (s : Session) (input out : List ℕ) : Type 0 where
  pub bounds : InBounds s
  pub empty : s.reached.end ≡ 0
  pub number : s.reached.number ≤ most_lines
  pub places : length input ≡ buffer_places
  pub room : length out ≡ buffer_places

-- The first bytes of the output are the answers to the lines that are no longer at hand. No whole line is left, or the output is too full for
-- the next answer.
pub record HasAnswered (s : Session) (input out : List ℕ) (r : Session) : Type 0 where
  pub told : (read written : List ℕ) → HasTold read written s input → HasTold read (written ++ take r.reached.end out) r input
  pub all_or_full : HasNoEnd (at_hand r input) ⊎ (buffer_places < r.reached.end + room)
  pub bounds : InBounds r
  pub end : r.reached.end ≤ buffer_places
  pub number : r.reached.number ≤ s.reached.number + buffer_places

-- Only what no line end follows is a last line.
pub record CanAnswerLast (s : Session) (input out : List ℕ) : Type 0 where
  pub can_answer : CanAnswer s input out
  pub no_end : HasNoEnd (at_hand s input)

-- At the end of the input: what is at hand is the last line, and the first bytes of the output are its answer.
pub record HasAnsweredLast (s : Session) (input out : List ℕ) (r : Session) : Type 0 where
  pub told : (read written : List ℕ) → HasTold read written s input → ToldAll read (written ++ take r.reached.end out)
  pub end : r.reached.end ≤ buffer_places

-- The output is empty again, and nothing else has changed.
abbrev pub handed_over : Session → Session
handed_over s = record { reached = record { planner = s.reached.planner; number = s.reached.number; from = s.reached.from; end = 0 }; have = s.have }

-- The bytes from `from` on stand at the front, as many as there are before `have`, at most 64.
pub record IsMoved (from have : ℕ) (before after : List ℕ) (r : ℕ) : Type 0 where
  pub count : r ≡ min most_kept (have - from)
  pub content : after ≡ take r (drop from before) ++ drop r before

-- What is at hand stands for what was, with room behind it.
pub record IsKept (s : Session) (before after : List ℕ) (r : Session) : Type 0 where
  pub told : (read written : List ℕ) → HasTold read written s before → HasTold read written r after
  pub no_end : HasNoEnd (at_hand r after)
  pub from : r.reached.from ≡ 0
  pub have : r.have ≤ most_kept
  pub end : r.reached.end ≡ s.reached.end
  pub number : r.reached.number ≡ s.reached.number

-- What was delivered stands behind what was at hand. Where the input has ended, no whole line is left.
pub record IsRefilled (s : Session) (wrote : ℕ) (before after : List ℕ) (t : Turn) : Type 0 where
  pub told : (read written : List ℕ) → HasTold read written s before → HasTold (read ++ delivered t after) written t.session after
  pub wrote_is : t.wrote ≡ wrote
  pub bounds : InBounds t.session
  pub empty : t.session.reached.end ≡ 0
  pub number : t.session.reached.number ≡ s.reached.number
  pub at_end : t.outcome ≡ Ended → HasNoEnd (at_hand t.session after)
