-- What the tests that together decide the range of a table ask of a number, of a record, and of a record after another.
use Rattle.std.specs.Prelude.{ℕ, ◌+◌, ◌≤◌, ◌<◌}
use Rattle.basics.specs.Limits.{furthest_release}
use Rattle.table.specs.Table.{due_of}
use Rattle.table.specs.Range.{RecordInRange}
use Rattle.table.specs.declared.Record.{Record}

-- Of one record: its unserved packet is due after now ..
abbrev pub DueAfterNow : ℕ → Record → Type 0
DueAfterNow now r = now < due_of r

-- .. and released no later than now + 239.
abbrev pub ReleasedSoon : ℕ → Record → Type 0
ReleasedSoon now r = r.release ≤ now + furthest_release

-- One record is near now: both.
abbrev pub IsNear : ℕ → Record → Type 0
IsNear now r = DueAfterNow now r × ReleasedSoon now r

-- The record may stand behind one with the id `before`; the first stands behind 0.
pub record CanFollow (frame now before : ℕ) (r : Record) : Type 0 where
  pub after : before < r.id
  pub in_range : RecordInRange frame r
  pub near : IsNear now r
