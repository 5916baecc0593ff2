-- When the records of a table are in range, and near now.
use mathlib.Core.List.{List, Mem}
use Rattle.std.specs.Prelude.{ℕ, ◌+◌, ◌≤◌, ◌<◌}
use Rattle.std.specs.Int.{◌∣◌}
use Rattle.basics.specs.OneTo.{OneTo}
use Rattle.basics.specs.Limits.{places, largest_id, furthest_release, longest_period}
use Rattle.table.specs.Table.{records_of, due_of}
use Rattle.table.specs.Changes.{Ascending}
use Rattle.table.specs.declared.Record.{Record}
use Rattle.table.specs.declared.Table.{Table}

-- Annex 3.7: a record is in range: its id is 1 to 32,767, its P is 1 to 240 and divides F, and its D is 1 to P.
pub record RecordInRange (frame : ℕ) (r : Record) : Type 0 where
  pub id : OneTo largest_id r.id
  pub period : OneTo longest_period r.period
  pub divides : r.period ∣ frame
  pub deadline : OneTo r.period r.deadline

-- Annex 3.7: each record is in range, and the ids rise from record to record.
pub record RecordsInRange (frame : ℕ) (rs : List Record) : Type 0 where
  pub each : (r : Record) → Mem r rs → RecordInRange frame r
  pub ascending : Ascending rs

-- Annex 3.8: each record's unserved packet is due after now, and released at now + 239 or earlier.
pub record AreNear (now : ℕ) (rs : List Record) : Type 0 where
  pub due_after : (r : Record) → Mem r rs → now < due_of r
  pub released : (r : Record) → Mem r rs → r.release ≤ now + furthest_release

-- Annex 3.6: both, of a table in code: its count is that of the records, so it is at most 64 too.
pub record TableInRange (frame now : ℕ) (table : Table) : Type 0 where
  pub count : table.count ≤ places
  pub records : RecordsInRange frame (records_of table)
  pub near : AreNear now (records_of table)
