-- What inner functions of the table promise one another: putting a record in, taking one out, serving one.
use Rattle.std.specs.Prelude.{◌≡◌, ℕ, ◌≤◌, ◌<◌}
use Rattle.std.proofs.Math.Logic.{ite}
use mathlib.Core.List.{List, Mem, map}
use Rattle.std.proofs.Math.Decide.{ℕ_discrete}
use Rattle.basics.specs.Limits.{places, largest_id}
use Rattle.table.specs.Table.{records_of}
use Rattle.table.specs.Changes.{HasId, sent, Ascending}
use Rattle.table.specs.declared.Record.{Record}
use Rattle.table.specs.declared.Table.{Table}

-- The record of an id passes to its next packet, another stays.
abbrev pub stepped : ℕ → Record → Record
stepped id r = ite (ℕ_discrete r.id id) (sent r) r

-- The table with the record of an id at its next packet.
unfoldable pub serve : ℕ → List Record → List Record
serve id rs = map (stepped id) rs

-- What holds of each record of a table.
abbrev pub EachRecord : (Record → Type 0) → Table → Type 0
EachRecord P table = (r : Record) → Mem r (records_of table) → P r

-- A table with just these records; they fit its 64 places.
pub record HasRecords (rs : List Record) (table : Table) : Type 0 where
  pub records : records_of table ≡ rs
  pub count : table.count ≤ places

-- What finding an id by halving relies on: that the count is right, and ids rise, none above the largest.
pub record CanSearch (table : Table) : Type 0 where
  pub count : table.count ≤ places
  pub ascending : Ascending (records_of table)
  pub small : (r : Record) → Mem r (records_of table) → r.id ≤ largest_id

-- What putting a record in relies on besides: that a place is free and no record has its id ..
pub record CanPut (table : Table) (id : ℕ) : Type 0 where
  pub can_search : CanSearch table
  pub room : table.count < places
  pub new : HasId id (records_of table) → ⊥

-- .. and what taking one out does: that a record has the id.
pub record CanTakeOut (table : Table) (id : ℕ) : Type 0 where
  pub can_search : CanSearch table
  pub held : HasId id (records_of table)
