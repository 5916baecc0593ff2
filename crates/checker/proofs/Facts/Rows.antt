-- The record in a row of the columns: how it is found, whether its packet may ride, and what sending it leaves.
use Rattle.std.specs.Prelude.{◌≡◌, ℕ, ◌+◌, ◌≤◌, ◌<◌, length, get_or, set}
use Rattle.std.proofs.Common.{sym, subst, ◌∙◌, lt_irrefl, arith}
use Rattle.std.proofs.Math.Path.{subst⁻¹}
use mathlib.Core.List.{List}
use Rattle.std.proofs.Math.Decide.{dec_lt}
use Rattle.std.proofs.Math.Bridge.{le_prop}
use Rattle.basics.specs.Places.{Rises, IsPlaceAmong}
use Rattle.basics.specs.Limits.{last_start}
use Rattle.table.specs.Table.{due_of}
use Rattle.table.specs.Changes.{HasId}
use Rattle.table.specs.Facts.Ids.{ids_rise, id_row}
use Rattle.table.specs.Facts.Table.{row_at, all_records}
use Rattle.table.specs.Facts.Changes.{held_at_place}
use Rattle.table.specs.Facts.Records.{one_record}
use Rattle.table.specs.declared.Record.{Record}
use Rattle.round_tests.specs.Tests.{RidesBy, NoneBy}
use Rattle.checker.specs.Columns.{as_table, Shows, records_in}
use Rattle.table.specs.Needs.{serve}
use Rattle.checker.specs.Needs.{RidesNow, MaySendOne, NoneDue}
use Rattle.checker.proofs.Facts.Columns.{all_in, row_mem, can_search, shows_one, sent_shown}
use Rattle.checker.specs.declared.sending.Streams.TheInside.{Inside}

module _ {s : Inside} {rs : List Record} (shows : Shows s rs) where
  -- the ids rise over all 64 places, so that they can be searched by halving
  pub columns_rise : Rises s.ids
  columns_rise = ids_rise (as_table rs) (can_search shows.few shows.regular) (omega arith) shows.ids

  -- where the number at the place found is not the id, no record has it
  pub not_there : {id row : ℕ} → IsPlaceAmong s.ids id row → (get_or s.ids row 0 ≡ id → ⊥) → HasId id rs → ⊥
  not_there {id} {row} place other held =
      let found =
      id_row (as_table rs) (can_search shows.few shows.regular) (omega arith) shows.ids id row (subst⁻¹ (HasId id) (all_in rs) held) place in
      other (shows.ids.ids row found.0 ∙ found.1)

  -- where it is, and is an id of 16 bits, it is that of the record in this row
  pub row_found : {id row : ℕ} → id ≤ 65_535 → row < 64 → get_or s.ids row 0 ≡ id → (row < length rs) × ((row_at rs row).id ≡ id)
  row_found {id} {row} small within here = go (dec_lt row (length rs))
    where
      go : Dec (row < length rs) → (row < length rs) × ((row_at rs row).id ≡ id)
      go (yes below) = (below, sym (shows.ids.ids row below) ∙ here)
      go (no past) = absurd (lt_irrefl 0 (omega (arith, shows.ids.free row (omega arith) within)))

  module _ {id row : ℕ} (low : row < length rs) (here : (row_at rs row).id ≡ id) where
    -- the test on the columns is that of the record ..
    pub row_refused : {start : ℕ} → (RidesBy (get_or s.dues row 0) (get_or s.deadlines row 0) start → ⊥) → MaySendOne rs id start → ⊥
    row_refused not may =
        let rides = may.ride (row_at rs row) (row_mem rs row low) here in
        not (omega (arith, rides, shows.times row low, shows.deadlines row low), omega (arith, rides, shows.times row low))

    module _ {start : ℕ} (rides : RidesBy (get_or s.dues row 0) (get_or s.deadlines row 0) start) where
      row_rides : RidesNow start (row_at rs row)
      row_rides = (omega (arith, rides, shows.times row low, shows.deadlines row low), omega (arith, rides, shows.times row low))

      -- .. its next due time fits 32 bits ..
      pub next_due_fits : start ≤ last_start → get_or s.dues row 0 + get_or s.periods row 0 < 4_294_967_296
      next_due_fits by_last =
          let mem = row_mem rs row low in
          omega (
            arith,
            rides,
            by_last,
            shows.periods row low,
            shows.regular.periods _ mem,
            shows.deadlines row low,
            shows.regular.deadlines _ mem,
          )

      -- .. and with it the columns show the records with the id sent
      pub row_sent : MaySendOne rs id start
          × (records_in (record s { dues = set s.dues row (get_or s.dues row 0 + get_or s.periods row 0) }) ≡ serve id rs)
      row_sent = (
        record {
          held = subst (HasId id) (all_in rs) (held_at_place (as_table rs) (omega arith) id row low here);
          ride = λ r m same.
              subst⁻¹ (RidesNow start) (one_record rs shows.regular.ascending r (row_at rs row) m (row_mem rs row low) (same ∙ sym here)) row_rides;
        },
        shows_one (sent_shown shows id row low here),
      )

  -- none of the due times is by a moment exactly if none of the records' packets is
  pub none_due : {end : ℕ} → NoneBy s.count s.dues end → NoneDue end rs
  none_due {end} none =
      subst (NoneDue end) (all_in rs)
      (all_records (λ r. end < due_of r) (λ r. le_prop) (as_table rs) (λ k below. omega (arith, none k (omega (arith, shows.counted)), shows.times k below)))

  -- .. the other way round
  pub none_by : {end : ℕ} → NoneDue end rs → NoneBy s.count s.dues end
  none_by none k below =
      let low : k < length rs = omega (arith, shows.counted) in
      omega (arith, none (row_at rs k) (row_mem rs k low), shows.times k low)
