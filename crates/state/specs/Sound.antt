-- When a planner is sound: Annex, chapter 3.
use Rattle.std.specs.Prelude.{◌≡◌, ◌↔◌, ℕ, ◌*◌, ◌-◌, ◌≤◌, length}
use Rattle.std.proofs.Math.Logic.Dec.{and as Dec-and}
use mathlib.Core.List.{List, Mem}
use Rattle.std.proofs.Math.Decide.{dec_le}
use Rattle.basics.specs.OneTo.{OneTo}
use Rattle.basics.specs.Limits.{last_start, places, most_slots, longest_frame, longest_gap, most_waiting}
use Rattle.rules.specs.Demand.{DemandRule, StartRule}
use Rattle.table.specs.Table.{due_of}
use Rattle.table.specs.Range.{RecordsInRange, AreNear}
use Rattle.table.specs.declared.Record.{Record}
use Rattle.queue.specs.Interface.{Entry, entries}
use Rattle.queue.specs.Interface
use Rattle.messages.specs.Waiting.{IsMessage}
use Rattle.state.specs.Content.{Content, content, slots_of, frame_of, streams_in, now_of}
use Rattle.state.specs.declared.Planner.{Planner}
use Rattle.state.specs.declared.Setting.{Setting}

-- Annex 3.6, 3.17: messages are on, 1, or off, 0; B is at most 64, and at least 1 slot is for streams (3.16), so that B is above 1 with messages on.
abbrev pub HasSlots : Setting → Type 0
HasSlots s = (s.messages ≤ 1) × ((1 ≤ s.slots - s.messages) × (s.slots ≤ most_slots))

-- Annex 3.6, 3.17: whether that is so can be decided.
abbrev pub decide_has_slots : (s : Setting) → Dec (HasSlots s)
decide_has_slots s = Dec-and (dec_le s.messages 1) (Dec-and (dec_le 1 (s.slots - s.messages)) (dec_le s.slots most_slots))

-- Annex 3.6, 3.17: messages are on, 1, or off, 0; B is 1 to 64, and above 1 with messages on; F is 1 to 5,040, G 1 to 255 ..
pub record SettingInRange (s : Setting) : Type 0 where
  pub flag : s.messages ≤ 1
  pub slots : (1 ≤ s.slots - s.messages) × (s.slots ≤ most_slots)
  pub frame : OneTo longest_frame s.frame
  pub gap : OneTo longest_gap s.gap

-- Annex 3.17: at most 32 messages wait with messages on, and none with them off; each is 32,768 to 65,535.
pub record MailInRange (on : ℕ) (waiting : List ℕ) : Type 0 where
  pub few : length waiting ≤ most_waiting * on
  pub range : (n : ℕ) → Mem n waiting → IsMessage n

-- Annex 3.6, 3.17: .. L is at most 1,000,000,000; there are at most 64 records, and they are in range (3.7), and so are the waiting messages.
pub record InRange (h : Content) : Type 0 where
  pub setting : SettingInRange h.setting
  pub last : h.last ≤ last_start
  pub at_most : length h.table ≤ places
  pub records : RecordsInRange (frame_of h) h.table
  pub mail : MailInRange h.setting.messages h.waiting

-- Annex 3.9, 3.10: what a planner holds is in range and its records near now (3.6 to 3.8), and they keep the demand rule, and the start rule at now.
pub record ContentSound (h : Content) : Type 0 where
  pub in_range : InRange h
  pub near : AreNear (now_of h) h.table
  pub demand_rule : DemandRule (slots_of h) (streams_in h)
  pub start_rule : StartRule (slots_of h) (now_of h) (streams_in h)

-- Annex 3.11: a record's entry in the queue: its id under the due time of its unserved packet, with that packet's release.
abbrev pub entry_of : Record → Entry
entry_of r = record { key = due_of r; release = r.release; id = r.id }

-- Annex 3.11: the entries are just those of the records: each entry is some record's, and each record's is there.
abbrev pub Files : List Entry → List Record → Type 0
Files es rs = (e : Entry) → Mem e es ↔ ∥ ((r : Record) × Mem r rs × (e ≡ entry_of r)) ∥₁

-- Annex 3.5, 3.17: a planner is sound: what it holds is, its queue is, and the queue files its records. The count is that of the records, so it is at
-- most 64 too, and the count of what waits at most 32.
pub record Sound (p : Planner) : Type 0 where
  pub count : p.table.count ≤ places
  pub waiting_count : p.waiting.count ≤ most_waiting
  pub content_sound : ContentSound (content p)
  pub queue_sound : Interface.Sound p.queue
  pub files : Files (entries p.queue) (content p).table
