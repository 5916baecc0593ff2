-- The walk of the queue, entry by entry: what has been taken so far, and that in the end it is the round's slots.
use Rattle.std.specs.Prelude.{◌≡◌, refl, ℕ, ◌+◌, ◌≤◌, ◌<◌, length, take, get_or, set}
use Rattle.std.proofs.Common.{sym, ap, subst, ◌∙◌, lt_irrefl, add-one, arith, length-set, length-append, take-suc-set, get_or-set_same, get_or-set_other}
use Rattle.std.proofs.Math.Path.{subst⁻¹}
use Rattle.std.proofs.Math.Logic.{∥∥₁_elim}
use mathlib.Core.HLevel.{hedberg}
use mathlib.Core.List.{List, [], ◌∷◌, ◌++◌, Mem}
use Rattle.std.proofs.Math.Decide.{dec_lt, ℕ_discrete}
use Rattle.std.proofs.Math.ListN.{length-replicate}
use Rattle.basics.specs.Facts.Members.{get_or_mem}
use Rattle.basics.specs.Places.{Rises, IsPlaceAmong}
use Rattle.basics.specs.Limits.{most_slots}
use Rattle.table.specs.Table.{records_of, record_at}
use Rattle.table.specs.Facts.Table.{record_at_mem}
use Rattle.table.specs.Changes.{HasId, Ascending}
use Rattle.table.specs.Facts.Changes.{records_count}
use Rattle.table.specs.Facts.Records.{one_record}
use Rattle.table.specs.declared.Record.{Record}
use Rattle.table.specs.Ids.{IsIds}
use Rattle.table.specs.Facts.Ids.{ids_rise, id_row}
use Rattle.table.specs.declared.Table.{Table}
use Rattle.queue.specs.Interface.{Entry, triple, entries, IsInOrder}
use Rattle.queue.specs.InterfaceLaws.{entries_in_order}
use Rattle.queue.specs.Interface
use Rattle.queue.specs.declared.Queue.{Queue}
use Rattle.queue.specs.declared.Placed.{Placed}
use Rattle.state.specs.Content.{content, slots_of}
use Rattle.state.specs.Sound.{Sound}
use Rattle.state.proofs.Facts.Sound.{content_table, can_search}
use Rattle.planner.specs.Round.{ids_at}
use Rattle.planner.proofs.Facts.SlotWalk.{released_ids, slots_ids, one_more_taken, one_more_skipped, enough, all_seen}
use Rattle.planner.proofs.Facts.Files.{files_length, files_filed}
use Rattle.planner.proofs.Facts.ServedTable.{due_after_start}
use Rattle.state.specs.Needs.{StartsAt}
use Rattle.planner.specs.Needs.{IsChosen, IsFoundAt, AreFound, none_chosen, with_chosen}
use Rattle.state.specs.declared.Planner.{Planner}
use Rattle.planner.specs.declared.slots.Chosen.{Chosen}

below : (a b : ℕ) → a ≤ b → (a ≡ b → ⊥) → a < b
below a b le other = omega arith

-- after i entries: the released ones among them have been taken, each beside its row and its place
pub record Visited (queue : Queue) (table : Table) (b s i : ℕ) (chosen : Chosen) : Type 0 where
  pub within : i ≤ table.count
  pub ids : take chosen.n chosen.placed.ids ≡ released_ids s (take i (entries queue))
  pub n : chosen.n ≡ length (released_ids s (take i (entries queue)))
  pub room : chosen.n ≤ b
  pub found : AreFound table queue chosen
  pub long_ids : length chosen.placed.ids ≡ 64
  pub long_rows : length chosen.rows ≡ 64
  pub long_places : length chosen.placed.places ≡ 64

module _ {p : Planner} {s : ℕ} (can : StartsAt p s) (long : length p.table.streams ≡ 64) where
  abbrev es : List Entry
  es = entries p.queue

  abbrev rs : List Record
  rs = records_of p.table

  abbrev sound : Sound p
  sound = can.sound

  abbrev ascending : Ascending rs
  ascending = sound.content_sound.in_range.records.ascending

  holds : p.table.count ≤ length p.table.streams
  holds = omega (arith, long, sound.count)

  all_entries : length es ≡ p.table.count
  all_entries = files_length p.queue sound.queue_sound rs ascending sound.files ∙ records_count p.table holds

  -- what the walk in order and the search by id rely on
  pub can_walk : Interface.Sound p.queue × (p.table.count ≤ length (entries p.queue))
  can_walk = (sound.queue_sound, omega (arith, all_entries))

  -- the ids of the table rise over all 64 places, so that each can be looked up by halving
  pub can_look_up : {ids : List ℕ} → IsIds p.table ids → Rises ids
  can_look_up = ids_rise p.table (can_search sound) holds

  -- before the first entry is met nothing is chosen
  pub none_visited : Visited p.queue p.table (slots_of (content p)) s 0 none_chosen
  unfolding released_ids
  none_visited =
      record {
        within = omega arith;
        ids = refl;
        n = refl;
        room = omega arith;
        found = λ k below. absurd (lt_irrefl 0 (omega arith));
        long_ids = length-replicate {A = ℕ} 64 0;
        long_rows = length-replicate {A = ℕ} 64 0;
        long_places = length-replicate {A = ℕ} 64 0;
      }

  module _ {i : ℕ} {chosen : Chosen} (visited : Visited p.queue p.table (slots_of (content p)) s i chosen) where
    -- full, or with all entries met, it is the slots
    chosen_slots : take (slots_of (content p)) (released_ids s es) ≡ released_ids s (take i es)
        → IsChosen (content p) s chosen × AreFound p.table p.queue chosen
    chosen_slots cut =
        let slots_are : ids_at (content p) s ≡ released_ids s (take i es) =
        slots_ids (slots_of (content p)) s rs es (content_table (content p) sound.content_sound)
        (due_after_start (content p) sound.content_sound s can.start)
        (entries_in_order p.queue sound.queue_sound) sound.files ∙ cut in
        (record { n = visited.n ∙ ap length (sym slots_are); ids = visited.ids ∙ sym slots_are; few = visited.room }, visited.found)

    -- once B are chosen, they are the ids of the round's slots, each beside its row and its place ..
    pub full_chosen : chosen.n ≡ slots_of (content p) → IsChosen (content p) s chosen × AreFound p.table p.queue chosen
    full_chosen full = chosen_slots (enough s es i (slots_of (content p)) (sym visited.n ∙ full))

    -- .. and so they are once every entry has been met
    pub all_chosen : p.table.count ≤ i → IsChosen (content p) s chosen × AreFound p.table p.queue chosen
    all_chosen seen =
        let few = subst (λ (n : ℕ). n ≤ slots_of (content p)) visited.n visited.room in
        chosen_slots (all_seen s es i (slots_of (content p)) (omega (arith, all_entries)) few)

    -- while B are not chosen yet, fewer than 64 are
    pub still_room : (chosen.n ≡ slots_of (content p) → ⊥) → chosen.n < most_slots
    still_room not_full = omega (arith, below chosen.n (slots_of (content p)) visited.room not_full, sound.content_sound.in_range.setting.slots.1)

    module _ (more : i < p.table.count) {order : Placed} (in_order : IsInOrder p.queue p.table.count order) where
      abbrev id : ℕ
      id = get_or order.ids i 0

      abbrev place : ℕ
      place = get_or order.places i 0

      abbrev entry : Entry
      entry = get_or es i (triple 0 0 0)

      more_entries : i < length es
      more_entries = omega (arith, all_entries)

      entry_there : Mem entry es
      entry_there = get_or_mem es i (triple 0 0 0) more_entries

      same_id : id ≡ entry.id
      same_id = in_order.ids i more

      module _ {ids : List ℕ} (is_ids : IsIds p.table ids) {row : ℕ} (is_row : IsPlaceAmong ids id row) where
        at_row : (row < p.table.count) × ((record_at p.table row).id ≡ id)
        at_row =
            id_row p.table (can_search sound) holds is_ids id row
            (subst⁻¹ (λ (n : ℕ). HasId n rs) same_id ((files_filed es rs sound.files entry.id).0 ∣ (entry, entry_there, refl) ∣₁)) is_row

        -- the entry's release is that of the record in the row
        same_release : entry.release ≡ (record_at p.table row).release
        same_release =
            ∥∥₁_elim ((sound.files entry).0 entry_there) (hedberg ℕ_discrete entry.release (record_at p.table row).release)
            (λ w.
            let ids : w.0.id ≡ (record_at p.table row).id = sym (ap (λ (e : Entry). e.id) w.2) ∙ sym same_id ∙ sym at_row.1 in
            let one = one_record rs ascending w.0 (record_at p.table row) w.1 (record_at_mem p.table holds row at_row.0) ids in
            ap (λ (e : Entry). e.release) w.2 ∙ ap (λ (r : Record). r.release) one)

        abbrev taken : Chosen
        taken = with_chosen chosen id place row

        -- the k-th one taken is found by its row and its place
        abbrev IsTakenAt : ℕ → Type 0
        IsTakenAt k = IsFoundAt p.table p.queue (get_or taken.placed.ids k 0) (get_or taken.rows k 0) (get_or taken.placed.places k 0)

        -- while B are not chosen yet, an entry whose record is released by s is chosen, beside its row and its place
        pub one_more_taken_in : (chosen.n ≡ slots_of (content p) → ⊥) → (record_at p.table row).release ≤ s
            → Visited p.queue p.table (slots_of (content p)) s (i + 1) (with_chosen chosen id place row)
        one_more_taken_in not_full early =
            let inside = still_room not_full in
            let more_ids = one_more_taken s es i (triple 0 0 0) more_entries (rw same_release early) in
            subst⁻¹ (λ (k : ℕ). Visited p.queue p.table (slots_of (content p)) s k taken) (add-one i)
            (record {
              within = omega arith;
              ids =
                  ap (λ (k : ℕ). take k (set chosen.placed.ids chosen.n id)) (add-one chosen.n)
                  ∙ take-suc-set chosen.placed.ids chosen.n id (omega (arith, visited.long_ids))
                  ∙ ap (λ (l : List ℕ). l ++ (id ∷ [])) visited.ids ∙ ap (λ (n : ℕ). released_ids s (take i es) ++ (n ∷ [])) same_id ∙ sym more_ids;
              n = rw (more_ids, length-append) (omega (arith, visited.n));
              room = omega (arith, below chosen.n (slots_of (content p)) visited.room not_full);
              found = λ k low. go k low (dec_lt k chosen.n);
              long_ids = length-set chosen.placed.ids chosen.n id ∙ visited.long_ids;
              long_rows = length-set chosen.rows chosen.n row ∙ visited.long_rows;
              long_places = length-set chosen.placed.places chosen.n place ∙ visited.long_places;
            })
          where
            three : (a b d a' b' d' : ℕ) → a ≡ a' → b ≡ b' → d ≡ d' → IsFoundAt p.table p.queue a' b' d' → IsFoundAt p.table p.queue a b d
            three a b d a' b' d' ea eb ed found = rw (ea, eb, ed) found

            go : (k : ℕ) → k < chosen.n + 1 → Dec (k < chosen.n) → IsTakenAt k
            go k low (yes less) =
                let other : k ≡ chosen.n → ⊥ = λ e. lt_irrefl k (omega (arith, e)) in
                three _ _ _ _ _ _
                (get_or-set_other chosen.placed.ids chosen.n k id 0 other)
                (get_or-set_other chosen.rows chosen.n k row 0 other)
                (get_or-set_other chosen.placed.places chosen.n k place 0 other)
                (visited.found k less)
            go k low (no last) =
                let same : k ≡ chosen.n = omega arith in
                let inside = still_room not_full in
                subst⁻¹ IsTakenAt same
                (three _ _ _ _ _ _
                (get_or-set_same chosen.placed.ids chosen.n id 0 (omega (arith, visited.long_ids)))
                (get_or-set_same chosen.rows chosen.n row 0 (omega (arith, visited.long_rows)))
                (get_or-set_same chosen.placed.places chosen.n place 0 (omega (arith, visited.long_places)))
                (record { in_table = at_row.0; row_id = at_row.1; in_queue = in_order.places i more }))

        -- an entry whose record is released after s is met and not chosen
        pub one_more_skipped_in : s < (record_at p.table row).release → Visited p.queue p.table (slots_of (content p)) s (i + 1) chosen
        one_more_skipped_in late =
            let same_ids = one_more_skipped s es i (triple 0 0 0) more_entries (λ early. lt_irrefl s (omega (arith, late, same_release, early))) in
            subst⁻¹ (λ (k : ℕ). Visited p.queue p.table (slots_of (content p)) s k chosen) (add-one i)
            (record {
              within = omega arith;
              ids = visited.ids ∙ sym same_ids;
              n = visited.n ∙ ap length (sym same_ids);
              room = visited.room;
              found = visited.found;
              long_ids = visited.long_ids;
              long_rows = visited.long_rows;
              long_places = visited.long_places;
            })
