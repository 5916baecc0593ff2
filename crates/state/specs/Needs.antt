-- What the inner functions of the crate promise one another, and `sound_start` to the calls above.
use Rattle.std.specs.Prelude.{Option, MatchOption, ℕ, ◌+◌, ◌≤◌}
use mathlib.Core.List.{Mem}
use Rattle.basics.specs.OneTo.{OneTo}
use Rattle.basics.specs.Limits.{last_start, places, largest_id, key_span, largest_key, most_waiting}
use Rattle.table.specs.Table.{records_of, due_of}
use Rattle.table.specs.declared.Record.{Record}
use Rattle.table.specs.Changes.{Ascending}
use Rattle.table.specs.declared.Table.{Table}
use Rattle.queue.specs.Interface.{entries}
use Rattle.queue.specs.Interface
use Rattle.queue.specs.declared.Queue.{Queue}
use Rattle.messages.specs.Waiting.{waiting_of}
use Rattle.state.specs.Content.{content}
use Rattle.state.specs.Sound.{SettingInRange, MailInRange, Files, Sound}
use Rattle.state.specs.Start.{IsStart}
use Rattle.state.specs.declared.Planner.{Planner}
use Rattle.state.specs.declared.Setting.{Setting}

-- A planner is sound, and s is its lazy start.
pub record StartsAt (p : Planner) (s : ℕ) : Type 0 where
  pub sound : Sound p
  pub start : IsStart (content p) s

-- The lazy start of a sound planner; none for a planner that is not sound.
abbrev pub IsSoundStart : Planner → Option ℕ → Type 0
IsSoundStart p r = MatchOption r (Sound p → ⊥) (StartsAt p)

-- What is in range where open refuses nothing.
pub record NumbersInRange (s : Setting) (t : ℕ) : Type 0 where
  pub setting : SettingInRange s
  pub last : t ≤ last_start

-- The numbers of a planner are in range, and so is what waits.
pub record HasNumbers (p : Planner) : Type 0 where
  pub numbers : NumbersInRange p.setting p.last
  pub mail : MailInRange p.setting.messages (waiting_of p.waiting)
  pub waiting_count : p.waiting.count ≤ most_waiting

-- What the comparison of queue and table relies on.
pub record CanCompare (table : Table) : Type 0 where
  pub count : table.count ≤ places
  pub ascending : Ascending (records_of table)
  pub ids : (r : Record) → Mem r (records_of table) → OneTo largest_id r.id
  pub dues : (r : Record) → Mem r (records_of table) → due_of r ≤ largest_key
  pub span : (q r : Record) → Mem q (records_of table) → Mem r (records_of table) → due_of q ≤ due_of r + key_span

-- The queue is sound and files exactly the streams of the table.
abbrev pub IsFiled : Table → Queue → Type 0
IsFiled table q = Interface.Sound q × Files (entries q) (records_of table)
