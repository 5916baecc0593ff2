-- A table's changes place by place: where a record belongs, and the lists with a place opened or closed.
use Rattle.std.specs.Prelude.{◌≡◌, List, ◌∷◌, ◌++◌, ℕ, suc, ◌≤◌, ◌<◌, take, drop}
use Rattle.basics.specs.Limits.{places}
use Rattle.table.specs.Table.{records_of, record_at}
use Rattle.table.specs.Changes.{HasId}
use Rattle.table.specs.declared.Record.{Record}
use Rattle.table.specs.declared.Table.{Table}

-- The first place with a greater id, or the count.
pub record IsPlaceBefore (table : Table) (id r : ℕ) : Type 0 where
  pub within : r ≤ table.count
  pub earlier : (k : ℕ) → k < r → (record_at table k).id ≤ id
  pub later : r < table.count → id < (record_at table r).id

-- The place for an id: where the record that has it stands, or where a record with it goes in, if none has it and a place is free.
pub record IsPlaceFor (table : Table) (id r : ℕ) : Type 0 where
  pub held : HasId id (records_of table) → (r < table.count) × ((record_at table r).id ≡ id)
  pub new : (HasId id (records_of table) → ⊥) → table.count < places → IsPlaceBefore table id r

-- The list with a record put at a place ..
abbrev pub opened : ℕ → Record → List Record → List Record
opened place x rs = take place rs ++ x ∷ drop place rs

-- .. and the list with the record of a place taken out.
abbrev pub closed : ℕ → List Record → List Record
closed place rs = take place rs ++ drop (suc place) rs

-- What opening a place relies on ..
pub record CanOpen (table : Table) (place : ℕ) : Type 0 where
  pub room : table.count < places
  pub within : place ≤ table.count

-- .. and what closing one does.
pub record CanClose (table : Table) (place : ℕ) : Type 0 where
  pub count : table.count ≤ places
  pub within : place < table.count
