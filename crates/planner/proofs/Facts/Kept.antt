-- Every call but open leaves a sound planner sound, said of what it holds.
use Rattle.std.specs.Prelude.{◌≡◌, refl, ℕ, ◌+◌, ◌≤◌, ◌<◌, length}
use Rattle.std.proofs.Common.{subst, le_trans, arith}
use Rattle.std.proofs.Math.Path.{subst⁻¹}
use Rattle.std.proofs.Math.Logic.{ite}
use mathlib.Core.HLevel.{×_prop}
use mathlib.Core.List.Pairwise
use mathlib.Core.List.{List, Mem, dec_mem}
use Rattle.std.proofs.Math.Bridge.{le_prop}
use Rattle.std.proofs.Math.Decide.{ℕ_discrete}
use Rattle.std.proofs.lemmas.List.{length-map}
use Rattle.basics.specs.Limits.{last_start, places, furthest_release}
use Rattle.rules.specs.Streams.{Stream}
use Rattle.rules.specs.Demand.{DemandRule, StartRule}
use Rattle.rules.specs.Slots.{slots, next, passed, after_round}
use Rattle.rules.proofs.Facts.LazyStart.{fits_lazy}
use Rattle.rules.proofs.Facts.RoundKept.{round_kept, round_near}
use Rattle.rules.specs.Ready.{IsReady}
use Rattle.rules.proofs.Facts.Sums.{all_map}
use Rattle.table.specs.Table.{stream_of, due_of, with_release}
use Rattle.table.specs.Range.{RecordInRange, RecordsInRange, AreNear}
use Rattle.table.specs.Changes.{sent}
use Rattle.table.specs.Facts.Streams.{all_streams, seen, seen_changed}
use Rattle.table.specs.Facts.RangeTests.{record_in_range_prop}
use Rattle.table.specs.declared.Record.{Record}
use Rattle.state.specs.Content.{Content, slots_of, streams_in, now_of, cap_of, with_table, with_last}
use Rattle.state.specs.Sound.{InRange, ContentSound}
use Rattle.state.proofs.Facts.Sound.{fits_now, content_ready}
use Rattle.state.proofs.Facts.Open.{range_numbers, in_range_by_numbers}
use Rattle.planner.specs.declared.Offer.{Offer}
use Rattle.planner.specs.AddRemove.{offered, added, removed, IsWellFormed}
use Rattle.planner.specs.Round.{ids_at, sent_in, rounded}
use Rattle.state.specs.Start.{IsStart}
use Rattle.state.proofs.Facts.Table.{put_all, put_by_id_length, put_by_id_ascending}
use Rattle.state.proofs.Facts.Table.{in_without_id, without_id_ascending, without_id_length, demand_without, future_without}

-- a record that a round serves or leaves
pub sent_in_elim : (ids : List ℕ) (P : Record → Type 0) (r : Record) → (Mem r.id ids → P (sent r)) → P r → P (sent_in ids r)
sent_in_elim ids P r if_sent if_not = go (dec_mem ℕ_discrete r.id ids)
  where
    go : (d : Dec (Mem r.id ids)) → P (ite d (sent r) r)
    go (yes served) = if_sent served
    go (no other) = if_not

-- served or not, a record keeps its id
pub sent_in_id : (ids : List ℕ) (r : Record) → (sent_in ids r).id ≡ r.id
sent_in_id ids r = sent_in_elim ids (λ (a : Record). a.id ≡ r.id) r (λ _. refl) refl

-- a record after a round at s, and the stream that the rules see of it
abbrev pub sent_at : Content → ℕ → Record → Record
sent_at h s = sent_in (ids_at h s)

-- after the round the rules see a record's stream at its next packet where the stream is in the slots, and else as it was
pub seen_sent_at : (h : Content) (s : ℕ) (r : Record) → stream_of (sent_at h s r) ≡ passed (slots (slots_of h) s (streams_in h)) (stream_of r)
seen_sent_at h s r = go (dec_mem ℕ_discrete r.id (ids_at h s))
  where
    go : (d : Dec (Mem r.id (ids_at h s))) → stream_of (ite d (sent r) r) ≡ ite d (next (stream_of r)) (stream_of r)
    go (yes served) = refl
    go (no other) = refl

-- serving a record changes nothing of it but its release
pub sent_at_release : (h : Content) (s : ℕ) (r : Record) → sent_at h s r ≡ with_release r (sent_at h s r).release
sent_at_release h s r = go (dec_mem ℕ_discrete r.id (ids_at h s))
  where
    go : (d : Dec (Mem r.id (ids_at h s))) → ite d (sent r) r ≡ with_release r (ite d (sent r) r).release
    go (yes served) = refl
    go (no other) = refl

-- what is in range stays so with another table ..
with_table_in_range : {h : Content} {rs : List Record} → InRange h → length rs ≤ places → RecordsInRange h.setting.frame rs → InRange (with_table h rs)
with_table_in_range range few records = in_range_by_numbers (range_numbers range) few records range.mail

-- .. and with another last start
with_last_in_range : {h : Content} → InRange h → (s : ℕ) → s ≤ last_start → InRange (with_last h s)
with_last_in_range range s by_Last =
    record { setting = range.setting; last = by_Last; at_most = range.at_most; records = range.records; mail = range.mail }

module _ (h : Content) (sound : ContentSound h) where
  -- Annex 4.8: the start is not before now
  pub start_from_now : (s : ℕ) → IsStart h s → now_of h ≤ s
  start_from_now s lazy =
      fits_lazy (slots_of h) (cap_of h) (streams_in h) sound.in_range.setting.slots.0 s lazy (now_of h) (omega (arith, sound.in_range.setting.gap))
      (fits_now h sound)

  module _ (o : Offer) (formed : IsWellFormed h o) where
    -- with a well-formed stream the table is in range and near now ..
    pub added_in_range : InRange (added h o) × AreNear (now_of h) (added h o).table
    added_in_range = (
      with_table_in_range sound.in_range (omega (arith, formed.place_free, put_by_id_length x h.table))
          (record {
            each = put_all (RecordInRange h.setting.frame) (record_in_range_prop h.setting.frame) x h.table
                (record { id = formed.id; period = formed.period_range; divides = formed.divides; deadline = formed.deadline_range })
                sound.in_range.records.each;
            ascending = put_by_id_ascending x h.table sound.in_range.records.ascending formed.new;
          }),
      record {
        due_after =
            put_all (λ (r : Record). now_of h < due_of r) (λ s. le_prop) x h.table (omega (arith, formed.start_range, formed.deadline_range))
            sound.near.due_after;
        released =
            put_all (λ (r : Record). r.release ≤ now_of h + furthest_release) (λ s. le_prop) x h.table formed.start_range.1 sound.near.released;
      },
    )
      where
        x : Record
        x = offered o

    -- .. and sound where the two rules hold
    pub added_sound : DemandRule (slots_of h) (streams_in (added h o)) → StartRule (slots_of h) (now_of h) (streams_in (added h o)) → ContentSound (added h o)
    added_sound demand_rule start_rule = record { in_range = added_in_range.0; near = added_in_range.1; demand_rule = demand_rule; start_rule = start_rule }

  -- without a stream it is sound
  pub removed_sound : (id : ℕ) → ContentSound (removed h id)
  removed_sound id =
      record {
        in_range =
            with_table_in_range sound.in_range (le_trans (without_id_length id h.table) sound.in_range.at_most)
            (record {
              each = λ s m. sound.in_range.records.each s (was s m);
              ascending = without_id_ascending id h.table sound.in_range.records.ascending;
            });
        near = record { due_after = λ s m. sound.near.due_after s (was s m); released = λ s m. sound.near.released s (was s m) };
        demand_rule = λ t some. le_trans (demand_without id h.table t) (sound.demand_rule t some);
        start_rule = λ t after. le_trans (future_without id h.table t) (sound.start_rule t after);
      }
    where
      was : (s : Record) → Mem s (removed h id).table → Mem s h.table
      was s m = ((in_without_id id h.table s).0 m).0

  -- Annex 5.6: what the rules see of the records after a round is their table after it
  pub rounded_streams : (s : ℕ) → streams_in (rounded h s) ≡ after_round (slots_of h) s (streams_in h)
  unfolding after_round
  rounded_streams s =
      seen_changed (sent_at h s) (passed (slots (slots_of h) s (streams_in h))) h.table (seen_sent_at h s)

  -- after a round at its start it is sound
  pub rounded_sound : (s : ℕ) → IsStart h s → s ≤ last_start → ContentSound (rounded h s)
  rounded_sound s lazy by_Last =
      record {
        in_range =
            with_table_in_range (with_last_in_range sound.in_range s by_Last) (rw (length-map h.table (sent_in (ids_at h s))) sound.in_range.at_most)
            (record {
              each = all_map (RecordInRange h.setting.frame) (record_in_range_prop h.setting.frame) (sent_in (ids_at h s)) h.table
                  (λ r m. let range = sound.in_range.records.each r m in
                  sent_in_elim (ids_at h s) (RecordInRange h.setting.frame) r
                  (λ _. record { id = range.id; period = range.period; divides = range.divides; deadline = range.deadline }) range);
              ascending =
                  Pairwise.map (λ a b. le_prop) (sent_in (ids_at h s)) (λ a b less. rw (sent_in_id (ids_at h s) a, sent_in_id (ids_at h s) b) less)
                  sound.in_range.records.ascending;
            });
        near = record {
          due_after = λ r m. kept.due_after (stream_of r) (held r m);
          released = λ r m.
              round_near (slots_of h) (now_of h) (streams_in h) (content_ready h sound) sound.in_range.setting.slots.0 (cap_of h) s s lazy (omega arith)
              furthest_release (start_from_now s lazy) near_now (stream_of r) (held r m);
        };
        demand_rule = subst⁻¹ (DemandRule (slots_of h)) (rounded_streams s) kept.demand_rule;
        start_rule = subst⁻¹ (StartRule (slots_of h) (s + 1)) (rounded_streams s) kept.start_rule;
      }
    where
      kept : IsReady (slots_of h) (s + 1) (after_round (slots_of h) s (streams_in h))
      kept = round_kept (slots_of h) (now_of h) (streams_in h) (content_ready h sound) sound.in_range.setting.slots.0 (cap_of h) s s lazy (omega arith)

      held : (r : Record) → Mem r (rounded h s).table → Mem (stream_of r) (after_round (slots_of h) s (streams_in h))
      held r m = subst (Mem (stream_of r)) (rounded_streams s) (seen m)

      near_now : (x : Stream) → Mem x (streams_in h) → (x.period ≤ furthest_release + 1) × (x.release ≤ now_of h + furthest_release)
      near_now =
          all_streams (λ (x : Stream). (x.period ≤ furthest_release + 1) × (x.release ≤ now_of h + furthest_release)) (λ x. ×_prop le_prop le_prop) h.table
          (λ r m. ((sound.in_range.records.each r m).period.1, sound.near.released r m))
