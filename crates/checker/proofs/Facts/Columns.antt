-- Columns show one list of records; they are made of a table, and where a due time is moved on, they show the records with its packet sent.
use Rattle.std.specs.Prelude.{◌≡◌, refl, ℕ, ◌+◌, ◌-◌, ◌≤◌, ◌<◌, length, get_or, set}
use Rattle.std.proofs.Common.{sym, ap, subst, ◌∙◌, arith, length-set, get_or-set_same, get_or-set_other, take_all, get_or-take, length-take-le}
use Rattle.std.proofs.Math.Path.{subst⁻¹}
use Rattle.std.proofs.Math.Decide.{ℕ_discrete}
use Rattle.std.proofs.lemmas.List.{ext_get_or}
use Rattle.std.proofs.lemmas.List.FromFn.{get_or-map-range_with_len, length-map-range_with_len}
use mathlib.Core.List.{List, Mem}
use Rattle.basics.specs.Limits.{places}
use Rattle.rules.specs.Streams.{due}
use Rattle.table.specs.Table.{records_of, record_at, due_of, no_record, IsColumn}
use Rattle.table.specs.Changes.{Ascending, sent}
use Rattle.table.specs.Needs.{CanSearch, serve}
use Rattle.table.specs.Ids.{IsIds}
use Rattle.table.specs.Facts.Table.{row_at, record_at_mem}
use Rattle.table.specs.Facts.Changes.{serve_at_place}
use Rattle.table.specs.declared.Record.{Record}
use Rattle.table.specs.declared.Table.{Table}
use Rattle.checker.specs.Columns.{Regular, as_table, Shows, record_in, records_in, AreColumns}
use Rattle.checker.specs.Needs.{CanShow}
use Rattle.checker.proofs.Facts.Sending.{served_regular}
use Rattle.checker.specs.declared.sending.Streams.TheInside.{Inside}

-- the records of such a table are these
pub all_in : (rs : List Record) → records_of (as_table rs) ≡ rs
all_in rs = take_all (length rs) rs (omega arith)

pub row_mem : (rs : List Record) (k : ℕ) → k < length rs → Mem (row_at rs k) rs
row_mem rs k low = subst (Mem (row_at rs k)) (all_in rs) (record_at_mem (as_table rs) (omega arith) k low)

-- the columns show one list of records, that in their rows
pub shows_one : {s : Inside} {rs : List Record} → Shows s rs → records_in s ≡ rs
unfolding records_in
shows_one {s} {rs} shows = ext_get_or no_record (records_in s) rs (as_many ∙ shows.counted) same
  where
    as_many : length (records_in s) ≡ s.count
    as_many = length-map-range_with_len (record_in s) 0 s.count

    here : (k : ℕ) → k < length rs → record_in s k ≡ row_at rs k
    here k low =
        let release : get_or s.dues k 0 - get_or s.deadlines k 0 ≡ (row_at rs k).release = omega (arith, shows.times k low, shows.deadlines k low) in
        λ i. record { id = shows.ids.ids k low i; period = shows.periods k low i; deadline = shows.deadlines k low i; release = release i }

    same : (k : ℕ) → k < length (records_in s) → row_at (records_in s) k ≡ row_at rs k
    same k low =
        get_or-map-range_with_len (record_in s) 0 s.count k k no_record (omega (arith, as_many)) (omega arith)
        ∙ here k (omega (arith, as_many, shows.counted))

-- .. so columns that give records show them
pub shown : {s : Inside} {rs : List Record} → records_in s ≡ rs → AreColumns s → Shows s rs
shown {s} same are = subst (Shows s) same are

-- .. and they are columns, whichever records they are said to show
pub are_columns : {s : Inside} {rs : List Record} → Shows s rs → AreColumns s
are_columns {s} shows = subst⁻¹ (Shows s) (shows_one shows) shows

-- a record passed on to its next packet keeps all but its due time, whichever place is looked at
module _ (rs : List Record) (row : ℕ) (low : row < length rs) where
  abbrev moved : List Record
  moved = set rs row (sent (row_at rs row))

  kept : (value : Record → ℕ) → value (sent (row_at rs row)) ≡ value (row_at rs row) → (k : ℕ) → value (row_at moved k) ≡ value (row_at rs k)
  kept value same k = go (ℕ_discrete k row)
    where
      go : Dec (k ≡ row) → value (row_at moved k) ≡ value (row_at rs k)
      go (yes here) =
          subst⁻¹ (λ (j : ℕ). value (row_at moved j) ≡ value (row_at rs j)) here
          (ap value (get_or-set_same rs row (sent (row_at rs row)) no_record low) ∙ same)
      go (no other) = ap value (get_or-set_other rs row k (sent (row_at rs row)) no_record other)

  still : (k : ℕ) → k < length moved → k < length rs
  still k below = omega (arith, length-set rs row (sent (row_at rs row)))

  moved_shown : {s : Inside} → Shows s rs → Regular moved
      → Shows (record s { dues = set s.dues row (get_or s.dues row 0 + get_or s.periods row 0) }) moved
  moved_shown {s} shows regular = record {
    counted = omega (arith, length-set rs row (sent (row_at rs row)), shows.counted);
    few = omega (arith, length-set rs row (sent (row_at rs row)), shows.few);
    size = length-set s.dues row (get_or s.dues row 0 + get_or s.periods row 0) ∙ shows.size;
    ids = record {
      ids = λ k below. shows.ids.ids k (still k below) ∙ sym (kept (λ r. r.id) refl k);
      free = λ k from below. shows.ids.free k (omega (arith, length-set rs row (sent (row_at rs row)))) below;
    };
    periods = λ k below. shows.periods k (still k below) ∙ sym (kept (λ r. r.period) refl k);
    deadlines = λ k below. shows.deadlines k (still k below) ∙ sym (kept (λ r. r.deadline) refl k);
    times = λ k below. go k (still k below) (ℕ_discrete k row);
    regular = regular;
  }
    where
      x : ℕ
      x = get_or s.dues row 0 + get_or s.periods row 0

      go : (k : ℕ) → k < length rs → Dec (k ≡ row) → get_or (set s.dues row x) k 0 ≡ due_of (row_at moved k)
      go k below (yes here) =
          subst⁻¹ (λ (j : ℕ). get_or (set s.dues row x) j 0 ≡ due_of (row_at moved j)) here
          (get_or-set_same s.dues row x 0 (omega (arith, low, shows.few, shows.size))
          ∙ omega (arith, shows.times row low, shows.periods row low)
          ∙ sym (ap due_of (get_or-set_same rs row (sent (row_at rs row)) no_record low)))
      go k below (no other) =
          get_or-set_other s.dues row k x 0 other ∙ shows.times k below ∙ sym (ap due_of (get_or-set_other rs row k (sent (row_at rs row)) no_record other))

pub can_search : {rs : List Record} → length rs ≤ places → Regular rs → CanSearch (as_table rs)
can_search {rs} few regular = record {
  count = few;
  ascending = subst⁻¹ Ascending (all_in rs) regular.ascending;
  small = subst⁻¹ (λ (l : List Record). (r : Record) → Mem r l → r.id ≤ 32_767) (all_in rs) regular.ids;
}

-- where a stream's due time is moved on by its period, the columns show the records with its packet sent
pub sent_shown : {s : Inside} {rs : List Record} → Shows s rs → (id row : ℕ) → row < length rs → (row_at rs row).id ≡ id
    → Shows (record s { dues = set s.dues row (get_or s.dues row 0 + get_or s.periods row 0) }) (serve id rs)
sent_shown {s} {rs} shows id row low here =
    subst (Shows (record s { dues = set s.dues row (get_or s.dues row 0 + get_or s.periods row 0) })) served
    (moved_shown rs row low shows (subst⁻¹ Regular served (served_regular id rs shows.regular)))
  where
    served : set rs row (sent (row_at rs row)) ≡ serve id rs
    served =
        sym (take_all (length rs) (set rs row (sent (row_at rs row))) (omega (arith, length-set rs row (sent (row_at rs row)))))
        ∙ serve_at_place (as_table rs) (omega arith) (subst⁻¹ Ascending (all_in rs) shows.regular.ascending) id row low here
        ∙ ap (serve id) (all_in rs)

-- the columns of a table show its records
module _ (table : Table) (within : table.count ≤ length table.streams) where
  as_many : length (records_of table) ≡ table.count
  as_many = length-take-le table.count table.streams within

  place : (k : ℕ) → k < length (records_of table) → k < table.count
  place k below = omega (arith, as_many)

  row : (k : ℕ) → k < length (records_of table) → record_at table k ≡ row_at (records_of table) k
  row k below = sym (get_or-take table.count table.streams k no_record (place k below))

  pub table_shown : {s : Inside} → CanShow table → s.count ≡ table.count → length s.dues ≡ places → IsIds table s.ids
      → IsColumn (λ x. x.period) table s.periods → IsColumn (λ x. x.deadline) table s.deadlines → IsColumn due table s.dues → Shows s (records_of table)
  table_shown can count size ids periods deadlines dues = record {
    counted = count ∙ sym as_many;
    few = omega (arith, as_many, can.count);
    size = size;
    ids = record {
      ids = λ k below. ids.ids k (place k below) ∙ ap (λ (r : Record). r.id) (row k below);
      free = λ k from below. ids.free k (omega (arith, as_many)) below;
    };
    periods = λ k below. periods k (place k below) ∙ ap (λ (r : Record). r.period) (row k below);
    deadlines = λ k below. deadlines k (place k below) ∙ ap (λ (r : Record). r.deadline) (row k below);
    times = λ k below. dues k (place k below) ∙ ap due_of (row k below);
    regular = can.regular;
  }
