-- The ids of a table rise over all 64 places, and halving finds each at its record's place; among its records it finds a new one's place too.
use Rattle.std.specs.Prelude.{◌≡◌, true, false, List, ℕ, ◌≤◌, ◌<◌, ltb, get_or, length}
use Rattle.std.specs.List.Sorted.{IsPartitionedBy, IsPartitionPoint}
use Rattle.std.proofs.Common.{ap, sym, ◌∙◌, lt_irrefl, arith, ltb-true, ltb-false}
use Rattle.std.proofs.lemmas.List.Sorted.{IsNonDecreasingBy-from_default, IsPartitionedBy-ltb}
use Rattle.std.proofs.Math.Path.{subst⁻¹}
use Rattle.std.proofs.Math.Decide.{dec_lt, ℕ_discrete}
use Rattle.basics.specs.Places.{Rises, IsPlaceAmong}
use Rattle.basics.specs.Facts.Places.{place_found}
use Rattle.table.specs.Table.{records_of, record_at, no_record}
use Rattle.table.specs.Facts.Table.{row_at, row_there, ascends_at, record_at_mem, ascending_at}
use Rattle.table.specs.Changes.{HasId}
use Rattle.table.specs.Facts.Changes.{absent_by_place, records_count, held_at_place}
use Rattle.table.specs.Ids.{IsIds}
use Rattle.table.specs.Needs.{CanSearch}
use Rattle.table.specs.Places.{IsPlaceFor}
use Rattle.table.specs.declared.Record.{Record}
use Rattle.table.specs.declared.Table.{Table}

module _ (table : Table) (can : CanSearch table) (within : table.count ≤ length table.streams) {ids : List ℕ} (is_ids : IsIds table ids) where
  -- ids rise strictly over the records' places
  pub ids_ascend : (i j : ℕ) → i < j → j < table.count → get_or ids i 0 < get_or ids j 0
  ids_ascend i j order below = omega (arith, is_ids.ids i (omega arith), is_ids.ids j below, ascending_at table within can.ascending i j order below)

  -- all 64 rise
  pub ids_rise : Rises ids
  ids_rise i j order inside = go (dec_lt i table.count) (dec_lt j table.count)
    where
      go : Dec (i < table.count) → Dec (j < table.count) → get_or ids i 0 ≤ get_or ids j 0
      go first (yes second) = omega (arith, ids_ascend i j order second)
      go (yes first) (no free) =
          omega (arith, is_ids.free j (omega arith) inside, is_ids.ids i first, can.small (record_at table i) (record_at_mem table within i first))
      go (no free) (no later) = omega (arith, is_ids.free i (omega arith) (omega arith), is_ids.free j (omega arith) inside)

  -- an id is found at its record's place
  id_found : (k r : ℕ) → k < table.count → IsPlaceAmong ids (record_at table k).id r → r ≡ k
  id_found k r below place = place_found table.count k can.count ids_ascend below (is_ids.ids k below) place

  -- so the place of an id that is held is one of the table's
  pub id_row : (id r : ℕ) → HasId id (records_of table) → IsPlaceAmong ids id r → (r < table.count) × ((record_at table r).id ≡ id)
  id_row id r held place = go (dec_lt r table.count) (ℕ_discrete (record_at table r).id id)
    where
      other : ((k : ℕ) → k < table.count → r ≡ k → (record_at table k).id ≡ id → ⊥) → (r < table.count) × ((record_at table r).id ≡ id)
      other differ =
          absurd (absent_by_place table id (λ k below has. differ k below (id_found k r below (subst⁻¹ (λ (n : ℕ). IsPlaceAmong ids n r) has place)) has) held)

      go : Dec (r < table.count) → Dec ((record_at table r).id ≡ id) → (r < table.count) × ((record_at table r).id ≡ id)
      go (yes below) (yes has) = (below, has)
      go (yes below) (no not_it) = other (λ k _ same has. not_it (ap (λ (j : ℕ). (record_at table j).id) same ∙ has))
      go (no outside) has_it = other (λ k below same has. outside (omega arith))

module _ (table : Table) (can : CanSearch table) (within : table.count ≤ length table.streams) (id r : ℕ) (place : r ≤ length (records_of table))
    (parts : IsPartitionedBy (λ (s : Record). ltb s.id id) (records_of table)
    → IsPartitionPoint (λ (s : Record). ltb s.id id ≡ true) (λ (s : Record). ltb s.id id ≡ false) (records_of table) r) where
  count_is : length (records_of table) ≡ table.count
  count_is = records_count table within

  -- ids rise from record to record
  rise : (i j : ℕ) → i ≤ j → j < length (records_of table) → (row_at (records_of table) i).id ≤ (row_at (records_of table) j).id
  rise i j order inside = go (dec_lt i j)
    where
      go : Dec (i < j) → (row_at (records_of table) i).id ≤ (row_at (records_of table) j).id
      go (yes less) = omega (arith, ascends_at (records_of table) can.ascending i j less inside)
      go (no apart) = let e : i ≡ j = omega arith in omega (arith, ap (λ (k : ℕ). (row_at (records_of table) k).id) e)

  parted : IsPartitionPoint (λ (s : Record). ltb s.id id ≡ true) (λ (s : Record). ltb s.id id ≡ false) (records_of table) r
  parted = parts (IsPartitionedBy-ltb (λ (s : Record). s.id) (records_of table) id (IsNonDecreasingBy-from_default (λ (s : Record). s.id) (records_of table) no_record rise))

  same_id : (k : ℕ) → k < table.count → (row_at (records_of table) k).id ≡ (record_at table k).id
  same_id k low = ap (λ (s : Record). s.id) (row_there table k low)

  less : (k : ℕ) → k < r → (record_at table k).id < id
  less k low = omega (arith, ltb-true _ id (parted.0 k no_record (omega arith) low), same_id k (omega (arith, count_is, place)))

  rest : (k : ℕ) → r ≤ k → k < table.count → id ≤ (record_at table k).id
  rest k from low = omega (arith, ltb-false _ id (parted.1 k no_record from (omega (arith, count_is))), same_id k low)

  -- an id that is held stands where the lesser ids end
  stands : HasId id (records_of table) → (r < table.count) × ((record_at table r).id ≡ id)
  stands held = go (dec_lt r table.count) (ℕ_discrete (record_at table r).id id)
    where
      other : ((k : ℕ) → k < table.count → r ≤ k → (record_at table k).id ≡ id → ⊥) → (r < table.count) × ((record_at table r).id ≡ id)
      other differ =
          absurd (absent_by_place table id (λ k low has. differ k low (at_or_after k has (dec_lt k r)) has) held)
        where
          at_or_after : (k : ℕ) → (record_at table k).id ≡ id → Dec (k < r) → r ≤ k
          at_or_after k has (yes before) = absurd (lt_irrefl id (omega (arith, less k before)))
          at_or_after k has (no not_before) = omega arith

      go : Dec (r < table.count) → Dec ((record_at table r).id ≡ id) → (r < table.count) × ((record_at table r).id ≡ id)
      go (yes low) (yes has) = (low, has)
      go (yes low) (no not_it) =
          other (λ k below from has. apart k below from has (dec_lt r k))
        where
          apart : (k : ℕ) → k < table.count → r ≤ k → (record_at table k).id ≡ id → Dec (r < k) → ⊥
          apart k below from has (yes later) =
              lt_irrefl id (omega (arith, rest r (omega arith) low, ascending_at table within can.ascending r k later below))
          apart k below from has (no here) = let e : k ≡ r = omega arith in not_it (ap (λ (j : ℕ). (record_at table j).id) (sym e) ∙ has)
      go (no outside) has_it = other (λ k below from has. outside (omega arith))

  -- the place where the lesser ids end is the place for an id
  pub place_for : IsPlaceFor table id r
  place_for =
      record {
        held = stands;
        new =
            λ new room.
            record {
              within = omega (arith, count_is, place);
              earlier = λ k low. omega (arith, less k low);
              later = λ low. above (rest r (omega arith) low) (λ same. new (held_at_place table within id r low same));
            };
      }
    where
      above : {a : ℕ} → id ≤ a → (a ≡ id → ⊥) → id < a
      above le other = omega arith
