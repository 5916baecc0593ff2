-- What the functions of the crate promise the planner.
use Rattle.std.specs.Prelude.{◌≡◌, List, ◌++◌, ℕ, ◌≤◌, ◌<◌, length, take, drop, get_or}
use Rattle.basics.specs.Limits.{most_waiting}
use Rattle.messages.specs.Waiting.{IsMessage, waiting_of}
use Rattle.messages.specs.declared.Waiting.{Waiting}
use Rattle.messages.specs.declared.Listed.{Listed}

-- Just these numbers wait, and they fit the 32 places.
pub record HasWaiting (ns : List ℕ) (w : Waiting) : Type 0 where
  pub numbers : waiting_of w ≡ ns
  pub count : w.count ≤ most_waiting

-- At most so many wait, each of them a message.
pub record WaitingInRange (most : ℕ) (w : Waiting) : Type 0 where
  pub count : w.count ≤ most_waiting
  pub few : w.count ≤ most
  pub range : (k : ℕ) → k < w.count → IsMessage (get_or w.numbers k 0)

-- The ids with the messages that fit in the free slots behind them, and the messages that are left.
pub record IsListing (ids : List ℕ) (free : ℕ) (waiting : List ℕ) (r : Listed) : Type 0 where
  pub n : r.n ≡ length (ids ++ take free waiting)
  pub numbers : take r.n r.numbers ≡ ids ++ take free waiting
  pub left : HasWaiting (drop free waiting) r.left
