-- What a planner holds: Annex, chapter 3.
use Rattle.std.specs.Prelude.{List, ℕ, ◌+◌, ◌-◌}
use Rattle.rules.specs.Streams.{Stream}
use Rattle.table.specs.Table.{records_of, as_streams}
use Rattle.table.specs.declared.Record.{Record}
use Rattle.messages.specs.Waiting.{waiting_of}
use Rattle.state.specs.declared.Planner.{Planner}
use Rattle.state.specs.declared.Setting.{Setting}

-- Annex 3.1: what a planner holds: what opening set, which is B, F, G and whether messages are on, the start L of the last round, the messages that wait,
-- as sent, and the records.
pub record Content : Type 0 where
  pub setting : Setting
  pub last : ℕ
  pub waiting : List ℕ
  pub table : List Record

-- Annex 3.1, 3.15: what this planner holds; its queue, and the places that no record and no message uses, are no part of it.
abbrev pub content : Planner → Content
content p = record { setting = p.setting; last = p.last; waiting = waiting_of p.waiting; table = records_of p.table }

-- Annex 3.2: what the rules see of the records.
abbrev pub streams_in : Content → List Stream
streams_in h = as_streams h.table

-- Annex 3.16, 5.3: the slots that a round has for streams: B, less the flag, so less 1 with messages on.
abbrev pub slots_of : Content → ℕ
slots_of h = h.setting.slots - h.setting.messages

-- Annex 3.1: F, which every period divides.
abbrev pub frame_of : Content → ℕ
frame_of h = h.setting.frame

-- Annex 3.4: now is L + 1, the end of the last round.
abbrev pub now_of : Content → ℕ
now_of h = h.last + 1

-- Annex 4.5: the cap, the latest next start: now + G, which is L + 1 + G, since the gap runs from the end of the last round.
abbrev pub cap_of : Content → ℕ
cap_of h = now_of h + h.setting.gap

-- Annex 6.3: from a start to the next it is at most G + 1, since G runs from a round's end, one after its start.
abbrev pub start_gap_of : Content → ℕ
start_gap_of h = h.setting.gap + 1

-- Annex 7.20, 7.23: the same setting, last start and waiting messages with another table.
abbrev pub with_table : Content → List Record → Content
with_table h rs = record { setting = h.setting; last = h.last; waiting = h.waiting; table = rs }

-- Annex 7.30: the same setting, waiting messages and table with another last start.
abbrev pub with_last : Content → ℕ → Content
with_last h s = record { setting = h.setting; last = s; waiting = h.waiting; table = h.table }

-- Annex 7.45, 7.47: the same setting, last start and table with other waiting messages.
abbrev pub with_waiting : Content → List ℕ → Content
with_waiting h ns = record { setting = h.setting; last = h.last; waiting = ns; table = h.table }
