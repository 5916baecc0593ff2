-- A round's records served one after the other: the table in between, and that the queue can follow.
use Rattle.std.specs.Prelude.{◌≡◌, refl, ℕ, ◌+◌, ◌≤◌, ◌<◌, length, get_or, take, drop}
use Rattle.std.proofs.Common.{sym, ap, ◌∙◌, add-one, arith, take-append-drop, take-suc}
use Rattle.std.proofs.Math.Path.{subst, subst⁻¹}
use Rattle.std.proofs.Math.Logic.Or
use Rattle.std.proofs.Math.Logic.{if_pos, if_neg, by_cases}
use mathlib.Core.HLevel.{×_prop, ¬_prop, ⊥_prop}
use mathlib.Core.List.{List, [], ◌∷◌, ◌++◌, Mem, Nodup, Nodup-cons, dec_mem, map, map-map, map-id, map_congr_left}
use mathlib.Core.List.Perm
use mathlib.Core.List.Pairwise
use mathlib.Core.List.{Pairwise, Pairwise-append}
use mathlib.Core.List.{mem-cast, mem-cons_self, mem-cons_of_mem, mem-append_left, not-mem-nil, eq-or-mem_of_mem-cons}
use Rattle.std.proofs.Math.Bridge.{le_prop}
use Rattle.std.proofs.Math.Decide.{ℕ_discrete}
use Rattle.basics.specs.Limits.{last_start, longest_period, key_span}
use Rattle.rules.specs.Streams.{Stream, packet, IsTable}
use Rattle.rules.specs.Demand.{DueAfter}
use Rattle.rules.specs.Slots.{may_ride, riders, in_order, slots}
use Rattle.rules.proofs.Facts.Sums.{all_map, fits_due_after}
use Rattle.rules.proofs.Facts.LazyStart.{lazy_fits}
use Rattle.rules.proofs.Facts.Slots.{IsChoice, in_order_perm}
use Rattle.rules.proofs.Facts.RoundKept.{served_iff, round_choice}
use Rattle.table.specs.Table.{stream_of, due_of}
use Rattle.table.specs.Changes.{Ascending, sent}
use Rattle.table.specs.Facts.Streams.{seen}
use Rattle.table.specs.Needs.{stepped, serve}
use Rattle.table.specs.declared.Record.{Record}
use Rattle.queue.specs.Interface.{Entry, moved, InBounds}
use Rattle.state.specs.Content.{Content, slots_of, streams_in, now_of, cap_of}
use Rattle.state.specs.Sound.{ContentSound, Files}
use Rattle.state.proofs.Facts.Sound.{all_formed, content_ready}
use Rattle.planner.specs.Round.{ids_at, sent_in, rounded}
use Rattle.state.specs.Start.{IsStart}
use Rattle.planner.proofs.Facts.Kept.{sent_in_elim, sent_in_id, start_from_now}
use Rattle.planner.proofs.Facts.Files.{files_within, files_released, within_bounds, stepped_elim, files_moved}

-- The table with the records of these ids served, one after the other.
unfoldable pub serve_all : List ℕ → List Record → List Record
serve_all [] rs = rs
serve_all (id ∷ ids) rs = serve_all ids (serve id rs)

-- the last id is served last
serve_all_snoc : (ids : List ℕ) (id : ℕ) (rs : List Record) → serve_all (ids ++ (id ∷ [])) rs ≡ serve id (serve_all ids rs)
unfolding serve_all
serve_all_snoc [] id rs = refl
serve_all_snoc (i ∷ ids) id rs = serve_all_snoc ids id (serve i rs)

-- one id more
pub serve_next : (ids : List ℕ) (rs : List Record) (k : ℕ) → k < length ids
    → serve (get_or ids k 0) (serve_all (take k ids) rs) ≡ serve_all (take (k + 1) ids) rs
serve_next ids rs k within =
    rw add-one (sym (serve_all_snoc (take k ids) (get_or ids k 0) rs) ∙ ap (λ (l : List ℕ). serve_all l rs) (sym (take-suc ids k 0 within)))

-- serving one record and then others is serving them all
one_more : (id : ℕ) (ids : List ℕ) → (Mem id ids → ⊥) → (r : Record) → sent_in ids (stepped id r) ≡ sent_in (id ∷ ids) r
one_more id ids new r =
    stepped_elim id (λ (z : Record). sent_in ids z ≡ sent_in (id ∷ ids) r) r
    (λ same. if_neg (among ids r.id) (λ m. new (mem-cast (sym same) m)) (sent (sent r)) (sent r)
    ∙ sym (if_pos (among (id ∷ ids) r.id) (mem-cast same mem-cons_self) (sent r) r))
    (λ other. by_cases (among ids r.id)
    (λ m. if_pos (among ids r.id) m (sent r) r ∙ sym (if_pos (among (id ∷ ids) r.id) (mem-cons_of_mem id m) (sent r) r))
    (λ none. if_neg (among ids r.id) none (sent r) r
    ∙ sym (if_neg (among (id ∷ ids) r.id) (λ m. Or.elim ⊥_prop (eq-or-mem_of_mem-cons m) other none) (sent r) r)))
  where
    among : (l : List ℕ) (n : ℕ) → Dec (Mem n l)
    among l n = dec_mem ℕ_discrete n l

-- records of different ids, served one after the other, are those sent at once
serve_all_sent : (ids : List ℕ) (rs : List Record) → Nodup ids → serve_all ids rs ≡ map (sent_in ids) rs
unfolding serve serve_all
serve_all_sent [] rs distinct =
    sym (map_congr_left {f = sent_in []} {g = λ (r : Record). r} {l = rs} (λ r m. if_neg (dec_mem ℕ_discrete r.id []) not-mem-nil (sent r) r) ∙ map-id rs)
serve_all_sent (id ∷ ids) rs distinct =
    let split = Nodup-cons.0 distinct in
    serve_all_sent ids (serve id rs) split.1
    ∙ (map-map (sent_in ids) (stepped id) rs
    ∙ map_congr_left {f = λ (r : Record). sent_in ids (stepped id r)} {g = sent_in (id ∷ ids)} {l = rs} (λ r m. one_more id ids split.0 r))

-- lists of the first k
pairwise_take : {A : Type 0} {R : A → A → Type 0} → ((a b : A) → IsProp (R a b)) → (k : ℕ) (l : List A) → Pairwise R l → Pairwise R (take k l)
pairwise_take {R = R} prop k l all = ((Pairwise-append prop {l₁ = take k l} {l₂ = drop k l}).0 (subst⁻¹ (Pairwise R) (take-append-drop k l) all)).0

mem_take : {A : Type 0} {x : A} (k : ℕ) (l : List A) → Mem x (take k l) → Mem x l
mem_take {A} {x} k l m = subst (λ (l : List A). Mem x l) (take-append-drop k l) (mem-append_left (drop k l) m)

-- the slots of a round have different numbers
slots_differ : (b s : ℕ) (ss : List Stream) → IsTable ss → Nodup (map (λ (x : Stream). x.number) (slots b s ss))
unfolding slots riders
slots_differ b s ss table =
    Pairwise.map (λ a b. ¬_prop) (λ (x : Stream). x.number) (λ x y differ. differ)
    (pairwise_take {R = Differ} (λ x y. ¬_prop) b (in_order (riders s ss))
    (Perm.pairwise {R = Differ} (λ x y. ¬_prop) (λ x y differ same. differ (sym same)) (Perm.symm (in_order_perm (riders s ss)))
    (Pairwise.filter (λ (x : Stream). may_ride (packet x 0) s) {l = ss} (Pairwise.of_map (λ (x : Stream). x.number) (λ x y differ. differ) table.differ))))
  where
    Differ : Stream → Stream → Type 0
    Differ x y = x.number ≡ y.number → ⊥

module _ (h : Content) (sound : ContentSound h) (s : ℕ) (lazy : IsStart h s) where
  -- the table with the first k slots served
  abbrev served_to : ℕ → List Record
  served_to k = serve_all (take k (ids_at h s)) h.table

  table : IsTable (streams_in h)
  table = (content_ready h sound).table

  choice : IsChoice (slots_of h) s (streams_in h) (slots (slots_of h) s (streams_in h))
  choice = round_choice (slots_of h) (now_of h) (streams_in h) (content_ready h sound) sound.in_range.setting.slots.0 (cap_of h) s s lazy (omega arith)

  -- every unserved packet is due after the lazy start
  pub due_after_start : DueAfter s (streams_in h)
  due_after_start =
      fits_due_after (slots_of h) s (streams_in h) (all_formed h sound)
      (lazy_fits (slots_of h) (cap_of h) (streams_in h) sound.in_range.setting.slots.0 s lazy)

  -- served one after the other, the records are those sent at once ..
  first_served : (k : ℕ) → served_to k ≡ map (sent_in (take k (ids_at h s))) h.table
  first_served k =
      serve_all_sent (take k (ids_at h s)) h.table (pairwise_take (λ a b. ¬_prop) k (ids_at h s) (slots_differ (slots_of h) s (streams_in h) table))

  -- .. so that all slots served leave the table after the round
  pub serve_all_slots : serve_all (ids_at h s) h.table ≡ (rounded h s).table
  serve_all_slots = serve_all_sent (ids_at h s) h.table (slots_differ (slots_of h) s (streams_in h) table)

  -- with the first k slots served ids still ascend
  pub served_ascending : (k : ℕ) → Ascending (served_to k)
  served_ascending k =
      let first = take k (ids_at h s) in
      subst⁻¹ Ascending (first_served k)
      (Pairwise.map (λ a b. le_prop) (sent_in first) (λ a b less. rw (sent_in_id first a, sent_in_id first b) less) sound.in_range.records.ascending)

  -- A record is due at s + 1 to s + 480, and its period is at most 240.
  abbrev InBoundsAt : Record → Type 0
  InBoundsAt r = ((s + 1 ≤ due_of r) × (due_of r ≤ s + 1 + key_span)) × (r.period ≤ longest_period)

  -- with the first k slots served each record is due at s + 1 to s + 480, and its period is at most 240
  pub served_bounds : (k : ℕ) (y : Record) → Mem y (served_to k) → InBoundsAt y
  served_bounds k y m =
      all_map InBoundsAt (λ z. ×_prop (×_prop le_prop le_prop) le_prop) (sent_in (take k (ids_at h s))) h.table each y
      (subst (λ (l : List Record). Mem y l) (first_served k) m)
    where
      each : (r : Record) → Mem r h.table → InBoundsAt (sent_in (take k (ids_at h s)) r)
      each r mr =
          let range = sound.in_range.records.each r mr in
          let held = seen mr in
          let after = due_after_start (stream_of r) held in
          let near = sound.near.released r mr in
          let begun = start_from_now h sound s lazy in
          sent_in_elim (take k (ids_at h s)) InBoundsAt r
          (λ listed.
          let served = served_iff (streams_in h) (slots (slots_of h) s (streams_in h)) table choice.inside (stream_of r) held in
          let slot = served.0 (mem_take k (ids_at h s) listed) in
          let rides = choice.ride (stream_of r) slot in
          ((omega arith, omega (arith, range.period, range.deadline, rides)), range.period.1))
          ((omega arith, omega (arith, range.period, range.deadline)), range.period.1)

  module _ (by_Last : s ≤ last_start) (es : List Entry) (k : ℕ) (within : k < length (ids_at h s)) (files : Files es (served_to k)) (x : Record)
      (held : Mem x (served_to k)) (turn : x.id ≡ get_or (ids_at h s) k 0)
    where
      abbrev moved_once : List Entry
      moved_once = moved x.id x.period es

      -- with the entry of slot k moved they file the table with one more slot served ..
      pub files_served : Files moved_once (served_to (k + 1))
      unfolding serve
      files_served =
          subst (Files moved_once) (ap (λ (id : ℕ). serve id (served_to k)) turn ∙ serve_next (ids_at h s) h.table k within)
          (files_moved es (served_to k) (served_ascending k) files x held)

      -- .. and are within the bounds
      pub bounds_served : InBounds moved_once
      bounds_served =
          within_bounds moved_once (s + 1) (omega arith)
          (files_within moved_once (served_to (k + 1)) files_served (s + 1) (s + 1 + key_span)
          (λ y m. let b = served_bounds (k + 1) y m in (b.0.0, omega (arith, b.0.1))))
          (files_released moved_once (served_to (k + 1)) files_served)
