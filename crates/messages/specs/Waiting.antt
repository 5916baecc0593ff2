-- The messages that wait, as a list: the one that was sent first is the first. Annex, chapter 3.
use Rattle.std.proofs.Math.Logic.Dec.{and as Dec-and}
use Rattle.std.specs.Prelude.{List, ℕ, ◌≤◌, take, replicate}
use Rattle.std.proofs.Math.Decide.{dec_le}
use Rattle.basics.specs.Limits.{least_message, largest_message, most_waiting}
use Rattle.messages.specs.declared.Waiting.{Waiting}

-- Annex 3.14: a message is a number from 32,768 to 65,535.
abbrev pub IsMessage : ℕ → Type 0
IsMessage n = (least_message ≤ n) × (n ≤ largest_message)

-- Annex 3.14: whether a number is one can be decided.
abbrev pub decide_message : (n : ℕ) → Dec (IsMessage n)
decide_message n = Dec-and (dec_le least_message n) (dec_le n largest_message)

-- Annex 3.15: the messages that wait: the numbers at the first places, as many as the stored count says.
abbrev pub waiting_of : Waiting → List ℕ
waiting_of w = take w.count w.numbers

-- Annex 3.12, 7.7: nothing waits, and every place is zero.
abbrev pub no_waiting : Waiting
no_waiting = record { count = 0; numbers = replicate most_waiting 0 }
