-- What the parts of the command program promise one another. `read` stands for all bytes that the reads have delivered so far, `written` for all
-- that has been handed over to be written; what the system does with them lies outside.
use Rattle.std.specs.Prelude.{◌≡◌, List, ◌++◌, ℕ, ◌+◌, ◌-◌, ◌≤◌, length, take, drop}
use Rattle.console.specs.Transcript.{HasNoEnd, Told}
use Rattle.console.specs.declared.Session.{Session}
use Rattle.console.specs.declared.Turn.{Turn}
use Rattle.console.specs.declared.Outcome.TheVariants.{Ended}

-- Annex 12.1: the places of the buffer for the input, and of that for the output.
abbrev pub buffer_places : ℕ
buffer_places = 65536

-- Annex 11.22: the bytes at hand that are not answered yet.
abbrev pub at_hand : Session → List ℕ → List ℕ
at_hand s input = drop s.reached.from (take s.have input)

-- Annex 11.22: a session has answered the whole lines of what was read, up to the bytes at hand.
abbrev pub HasTold : List ℕ → List ℕ → Session → List ℕ → Type 0
HasTold read written s input = Told read written s.reached.planner s.reached.number (at_hand s input)

-- Annex 12.1: places lie within the input at hand.
pub record InBounds (s : Session) : Type 0 where
  pub from : s.reached.from ≤ s.have
  pub have : s.have ≤ buffer_places

-- Annex 11.23: a line may be cut only where no whole line is left.
pub record CanKeep (s : Session) (input : List ℕ) : Type 0 where
  pub bounds : InBounds s
  pub no_end : HasNoEnd (at_hand s input)
  pub places : length input ≡ buffer_places

-- Annex 11.23: more may be read only where every whole line read so far is answered, and every answer handed over.
pub record CanRefill (s : Session) (input : List ℕ) : Type 0 where
  pub can_keep : CanKeep s input
  pub empty : s.reached.end ≡ 0

-- Annex 11.23: what a turn's read delivered: the last bytes at hand.
abbrev pub delivered : Turn → List ℕ → List ℕ
delivered t input = drop (t.session.have - t.got) (take t.session.have input)

-- Annex 11.23: a turn: what it handed over, the first bytes of the output, are the answers to the next lines, and none is kept back; what it was
-- delivered stands behind what was at hand.
pub record IsTurned (s : Session) (before after out : List ℕ) (t : Turn) : Type 0 where
  pub told : (read written : List ℕ) → HasTold read written s before → HasTold (read ++ delivered t after) (written ++ take t.wrote out) t.session after
  pub bounds : InBounds t.session
  pub empty : t.session.reached.end ≡ 0
  pub number : t.session.reached.number ≤ s.reached.number + buffer_places
  pub at_end : t.outcome ≡ Ended → HasNoEnd (at_hand t.session after)
