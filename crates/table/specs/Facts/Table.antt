-- The records of a table and their places: what holds at every place holds of every record, and the other way round.
use Rattle.std.specs.Prelude.{◌≡◌, ℕ, zero, suc, ◌+◌, ◌≤◌, ◌<◌, take, get_or, set, length}
use Rattle.std.proofs.Common.{sym, subst, ◌∙◌, lt_irrefl, arith, take-suc, get_or-take, length-take, length-take-le, get_or-set_same, get_or-set_other, below_more}
use Rattle.std.proofs.Math.Logic.{∥∥₁_elim}
use mathlib.Core.List.{List, [], ◌∷◌, ◌++◌, Mem, Memᴰ}
use mathlib.Core.List.Pairwise
use mathlib.Core.List.{rel_of_Pairwise-cons}
use Rattle.std.proofs.Math.Bridge.{le_prop}
use Rattle.basics.specs.Facts.Members.{get_or_mem}
use Rattle.table.specs.Table.{stream_of, as_streams, records_of, streams_of, record_at, stream_at, no_record}
use Rattle.table.specs.Facts.Streams.{one_record_more, seen}
use Rattle.table.specs.Changes.{Ascending}
use Rattle.table.specs.declared.Record.{Record}
use Rattle.table.specs.declared.Table.{Table}

-- the record at a place of a list
abbrev pub row_at : List Record → ℕ → Record
row_at rows k = get_or rows k no_record

-- what holds at every place of a list holds of every record
pub all_at : (P : Record → Type 0) → ((r : Record) → IsProp (P r)) → (rs : List Record) → ((k : ℕ) → k < length rs → P (row_at rs k))
    → (r : Record) → Mem r rs → P r
all_at P prop rs all r m = ∥∥₁_elim m (prop r) (λ place. go rs all place)
  where
    go : (rs : List Record) → ((k : ℕ) → k < length rs → P (row_at rs k)) → Memᴰ r rs → P r
    go [] all place = elim place [ ]
    go (x ∷ xs) all (Memᴰ.head e) = subst P (sym e) (all 0 (omega arith))
    go (x ∷ xs) all (Memᴰ.tail place) = go xs (λ k low. all (suc k) (omega arith)) place

-- where ids ascend, the id at a later place is greater ..
pub ascends_at : (rs : List Record) → Ascending rs → (j k : ℕ) → j < k → k < length rs → (row_at rs j).id < (row_at rs k).id
ascends_at [] up j k order low = absurd (lt_irrefl 0 (omega arith))
ascends_at (x ∷ xs) up j zero order low = absurd (lt_irrefl 0 (omega arith))
ascends_at (x ∷ xs) up zero (suc k) order low = rel_of_Pairwise-cons up (get_or_mem xs k no_record (omega arith))
ascends_at (x ∷ xs) up (suc j) (suc k) order low = ascends_at xs (Pairwise.of_cons up) j k (omega arith) (omega arith)

-- .. and ids that are greater at every later place ascend
pub ascends_from : (rs : List Record) → ((j k : ℕ) → j < k → k < length rs → (row_at rs j).id < (row_at rs k).id) → Ascending rs
ascends_from [] up = Pairwise.nil
ascends_from (x ∷ xs) up =
    Pairwise.cons (all_at (λ r. x.id < r.id) (λ r. le_prop) xs (λ k low. up 0 (suc k) (omega arith) (omega arith)))
    (ascends_from xs (λ j k order low. up (suc j) (suc k) (omega arith) (omega arith)))

-- the record at a place of a table is the one at that place of its records
pub row_there : (table : Table) (k : ℕ) → k < table.count → row_at (records_of table) k ≡ record_at table k
row_there table k low = get_or-take table.count table.streams k no_record low

-- one row more is one stream more, at the end
pub one_row_more : (rows : List Record) (n : ℕ) → n < length rows
    → as_streams (take (suc n) rows) ≡ as_streams (take n rows) ++ (stream_of (row_at rows n) ∷ [])
one_row_more rows n within = rw (take-suc rows n no_record within) (one_record_more (take n rows) (row_at rows n))

-- the record at a place below the count is one of the table's ..
pub record_at_mem : (table : Table) → table.count ≤ length table.streams → (k : ℕ) → k < table.count
    → Mem (record_at table k) (records_of table)
record_at_mem table within k low =
    subst (λ (r : Record). Mem r (records_of table)) (row_there table k low)
    (get_or_mem (records_of table) k no_record (omega (arith, length-take-le table.count table.streams within)))

-- .. and the stream there is one of those that the rules see
pub stream_at_mem : (table : Table) → table.count ≤ length table.streams → (k : ℕ) → k < table.count
    → Mem (stream_at table k) (streams_of table)
stream_at_mem table within k low = seen (record_at_mem table within k low)

-- what holds of the record at every place below the count holds of every record
pub all_records : (P : Record → Type 0) → ((r : Record) → IsProp (P r)) → (table : Table) → ((k : ℕ) → k < table.count → P (record_at table k))
    → (r : Record) → Mem r (records_of table) → P r
all_records P prop table all =
    all_at P prop (records_of table)
    (λ k low. let inside : k < table.count = omega (arith, length-take table.count table.streams) in
    subst P (sym (row_there table k inside)) (all k inside))

-- where ids ascend along the records, the id at a later place is greater
pub ascending_at : (table : Table) → table.count ≤ length table.streams → Ascending (records_of table)
    → (j k : ℕ) → j < k → k < table.count → (record_at table j).id < (record_at table k).id
ascending_at table within up j k order low =
    let inside : j < table.count = omega arith in
    rw (← row_there table j inside, ← row_there table k low)
    (ascends_at (records_of table) up j k order (omega (arith, length-take-le table.count table.streams within)))

-- what is written place by place: after place i the first i + 1 are right
pub one_place_more : (right : ℕ → ℕ) (values : List ℕ) (i v : ℕ) → i < length values → ((k : ℕ) → k < i → get_or values k 0 ≡ right k) → v ≡ right i
    → (k : ℕ) → k < i + 1 → get_or (set values i v) k 0 ≡ right k
one_place_more right values i v within earlier here =
    below_more (λ k. get_or (set values i v) k 0 ≡ right k) i
    (λ k low. get_or-set_other values i k v 0 (λ same. lt_irrefl k (omega arith)) ∙ earlier k low)
    (get_or-set_same values i v 0 within ∙ here)
