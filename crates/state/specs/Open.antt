-- What open answers and leaves: Annex, chapter 7.
use Rattle.std.specs.Prelude.{◌≡◌, List, [], ◌∷◌, ℕ, ◌<◌, min, replicate}
use Rattle.std.proofs.Math.Logic.Dec.{not as Dec-not}
use Rattle.std.proofs.Math.Decide.{dec_lt}
use Rattle.basics.specs.OneTo.{not_in}
use Rattle.basics.specs.Limits.{last_start, places, longest_frame, longest_gap}
use Rattle.basics.specs.Refusals.{Refusal, answer_of}
use Rattle.table.specs.Table.{no_record}
use Rattle.table.specs.declared.Table.{Table}
use Rattle.queue.specs.Interface.{empty_queue}
use Rattle.queue.specs.declared.Queue.{Queue}
use Rattle.messages.specs.Waiting.{no_waiting}
use Rattle.messages.specs.declared.Waiting.{Waiting}
use Rattle.state.specs.Content.{Content, content}
use Rattle.state.specs.Sound.{HasSlots, decide_has_slots}
use Rattle.state.specs.declared.Planner.{Planner}
use Rattle.state.specs.declared.Setting.{Setting}
use Rattle.state.specs.declared.Changed.{Changed}

-- Annex 7.6: 4 if T is above 1,000,000,000.
abbrev pub late : ℕ → Refusal
late t = record { number = 4; Applies = last_start < t; decided = dec_lt last_start t }

-- Annex 7.6: 1 unless B is 1 to 64, and above 1 with messages on (3.6, 3.17); the flag that open makes is 0 or 1 and never refused (`one_exactly`).
abbrev pub bad_slots : Setting → Refusal
bad_slots s = record { number = 1; Applies = HasSlots s → ⊥; decided = Dec-not (decide_has_slots s) }

-- Annex 7.5: the flag that is kept of the number which says whether messages are on: 0 of 0, and 1 of any other.
abbrev pub flag_of : ℕ → ℕ
flag_of messages = min messages 1

-- Annex 7.1, 7.5: what open is passed beside T, any numbers, in the order of B, F, G and whether messages are on, as a setting.
abbrev pub setting : (slots frame gap messages : ℕ) → Setting
setting slots frame gap messages = record { slots = slots; frame = frame; gap = gap; messages = flag_of messages }

-- Annex 3.12: the setting of the closed planner.
abbrev pub zeros : Setting
zeros = setting 0 0 0 0

-- Annex 7.6: the refusals of open: 1 for B, 2 unless F is 1 to 5,040, 3 unless G is 1 to 255, and 4 if T is too late.
abbrev pub open_refusals : Setting → ℕ → List Refusal
open_refusals s t = bad_slots s ∷ not_in 2 longest_frame s.frame ∷ not_in 3 longest_gap s.gap ∷ late t ∷ []

-- Annex 7.7: what a planner holds once opened: this setting, T for L, no waiting message and no record.
abbrev pub opened : Setting → ℕ → Content
opened s t = record { setting = s; last = t; waiting = []; table = [] }

-- Annex 3.12: what the closed planner holds: 0 for B, F, G and L, messages off, none waiting, and no record.
abbrev pub closed : Content
closed = opened zeros 0

-- Annex 3.12, 7.7: a table with no stream, and zeros at every place for one.
abbrev pub no_streams : Table
no_streams = record { count = 0; streams = replicate places no_record }

-- Annex 3.12, 7.7: the planner with this setting and T for L, no stream, this queue and this waiting list.
abbrev pub fresh_with : Setting → ℕ → Queue → Waiting → Planner
fresh_with s t queue waiting = record { setting = s; last = t; waiting = waiting; table = no_streams; queue = queue }

-- Annex 3.12, 7.7: the planner with these numbers, zeros at every place for a record or a message, and the empty queue; with the zeros it is closed.
abbrev pub fresh : Setting → ℕ → Planner
fresh s t = fresh_with s t empty_queue no_waiting

-- Annex 7.7: a planner is the fresh one, so that nothing of it is left free, and holds what was passed.
pub record IsFresh (s : Setting) (t : ℕ) (p : Planner) : Type 0 where
  pub whole : p ≡ fresh s t
  pub holds : content p ≡ opened s t

-- Annex 7.8: open gives the answer of its refusals; the planner is the fresh one with what was passed, or if refused the closed one.
pub record IsOpened (s : Setting) (t : ℕ) (r : Changed) : Type 0 where
  pub answer : r.answer ≡ answer_of (open_refusals s t)
  pub opened : answer_of (open_refusals s t) ≡ 0 → IsFresh s t r.planner
  pub closed : (answer_of (open_refusals s t) ≡ 0 → ⊥) → IsFresh zeros 0 r.planner
