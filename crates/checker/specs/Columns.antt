-- Records that stand in columns, a row for each.
use Rattle.std.specs.Prelude.{◌≡◌, ℕ, ◌-◌, ◌≤◌, length, get_or}
use Rattle.std.specs.List.{range_with_len}
use mathlib.Core.List.{List, Mem, map}
use Rattle.basics.specs.Limits.{places, longest_period, largest_id}
use Rattle.rules.specs.Streams.{due}
use Rattle.table.specs.Table.{IsColumn}
use Rattle.table.specs.Changes.{Ascending}
use Rattle.table.specs.Ids.{IsIds}
use Rattle.table.specs.declared.Record.{Record}
use Rattle.table.specs.declared.Table.{Table}
use Rattle.checker.specs.declared.sending.Streams.TheInside.{Inside}

-- What is kept of records between rounds, which need not be those of a sound planner: ids rise, and ids, periods and deadlines are in range.
pub record Regular (rs : List Record) : Type 0 where
  pub ascending : Ascending rs
  pub ids : (r : Record) → Mem r rs → r.id ≤ largest_id
  pub periods : (r : Record) → Mem r rs → r.period ≤ longest_period
  pub deadlines : (r : Record) → Mem r rs → r.deadline ≤ longest_period

-- Records as a table, place by place.
abbrev pub as_table : List Record → Table
as_table rs = record { count = length rs; streams = rs }

-- The columns are those of the records, and these are regular.
pub record Shows (s : Inside) (rs : List Record) : Type 0 where
  pub counted : s.count ≡ length rs
  pub few : length rs ≤ places
  pub size : length s.dues ≡ places
  pub ids : IsIds (as_table rs) s.ids
  pub periods : IsColumn (λ x. x.period) (as_table rs) s.periods
  pub deadlines : IsColumn (λ x. x.deadline) (as_table rs) s.deadlines
  pub times : IsColumn due (as_table rs) s.dues
  pub regular : Regular rs

-- The record in a row: its release is its due time less its deadline.
abbrev pub record_in : Inside → ℕ → Record
record_in s k = record {
  id = get_or s.ids k 0;
  period = get_or s.periods k 0;
  deadline = get_or s.deadlines k 0;
  release = get_or s.dues k 0 - get_or s.deadlines k 0;
}

-- The records in all rows that are used.
unfoldable pub records_in : Inside → List Record
records_in s = map (record_in s) (range_with_len 0 s.count)

-- The columns are those of the records in their rows.
abbrev pub AreColumns : Inside → Type 0
AreColumns s = Shows s (records_in s)
