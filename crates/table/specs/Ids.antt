-- The ids of a table in an array of 64 that rise, to be searched by halving.
use Rattle.std.specs.Prelude.{◌≡◌, List, ℕ, ◌≤◌, ◌<◌, get_or}
use Rattle.basics.specs.Limits.{places}
use Rattle.table.specs.Table.{record_at}
use Rattle.table.specs.declared.Table.{Table}

-- The ids at the records' places, the largest number of 32 bits at the free ones.
pub record IsIds (table : Table) (r : List ℕ) : Type 0 where
  pub ids : (k : ℕ) → k < table.count → get_or r k 0 ≡ (record_at table k).id
  pub free : (k : ℕ) → table.count ≤ k → k < places → get_or r k 0 ≡ 4_294_967_295
