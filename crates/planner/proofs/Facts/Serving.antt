-- The chosen records served one after the other in the table, then their entries moved in the queue: what holds after k of them, and that in the
-- end it is the round.
use Rattle.std.specs.Prelude.{◌≡◌, refl, length, take, get_or, set}
use Rattle.std.proofs.Math.Path.{sym, ap, subst⁻¹}
use Rattle.std.proofs.Common.{subst, ◌∙◌, lt_irrefl, length-set, take_all, get_or-take, get_or-set_same, get_or-set_other}
use mathlib.Core.List.{List, Mem}
use Prim.Native.Nat.{ℕ, zero, suc, ◌+◌, ◌≤◌, ◌<◌}
use Rattle.std.proofs.Math.Decide.{dec_lt, ℕ_discrete}
use Rattle.std.proofs.Math.Numerals.{add-one}
use native.Mathlib.Omega.{arith}
use Rattle.basics.specs.Limits.{places, most_slots, longest_period, largest_key}
use Rattle.table.specs.Table.{records_of, record_at, no_record}
use Rattle.table.specs.Facts.Table.{record_at_mem}
use Rattle.table.specs.Changes.{Ascending, sent}
use Rattle.table.specs.Needs.{serve, HasRecords}
use Rattle.table.specs.Facts.Changes.{serve_at_place}
use Rattle.table.specs.declared.Record.{Record}
use Rattle.table.specs.declared.Table.{Table}
use Rattle.queue.specs.Interface.{Entry, moved, InBounds, entries, HasEntries, CanMoveAll, moved_all}
use Rattle.queue.specs.declared.Queue.{Queue}
use Rattle.state.specs.Content.{Content, content}
use Rattle.state.specs.Sound.{ContentSound, Files}
use Rattle.planner.specs.AddRemove.{IsSoundWith}
use Rattle.planner.specs.Round.{ids_at, rounded, free_at, left_at}
use Rattle.state.specs.Start.{IsStart}
use Rattle.planner.proofs.Facts.Kept.{rounded_sound}
use Rattle.planner.proofs.Facts.ServedTable.{serve_all, serve_next, serve_all_slots, served_ascending, served_bounds, files_served}
use Rattle.planner.proofs.Facts.ServedTable.{bounds_served}
use Rattle.planner.proofs.Facts.Changes.{is_sound_with}
use Rattle.planner.proofs.Facts.Mail.{first_gone, waits_with}
use Rattle.planner.specs.Needs.{CanServeAll, IsFoundAt, IsLeft, served_planner, stored, table_of}
use Rattle.messages.specs.declared.Waiting.{Waiting}
use Rattle.state.specs.declared.Planner.{Planner}
use Rattle.planner.specs.declared.slots.Chosen.{Chosen}

-- the table with the first k slots served
abbrev pub first_passed : Content → ℕ → ℕ → List Record
first_passed h s k = serve_all (take k (ids_at h s)) h.table

-- some record has this id and this period
abbrev pub Has : List Record → (id period : ℕ) → Type 0
Has rs id period = (x : Record) × Mem x rs × (x.id ≡ id) × (x.period ≡ period)

-- the planner with its table's rows rewritten
abbrev pub with_streams : Planner → List Record → Planner
with_streams p streams = stored p p.last (table_of p streams) p.queue

-- after k of the chosen: the table has just those k served, every id is still in its row, and the periods of the k are noted
pub record Serving (p : Planner) (s k : ℕ) (streams : List Record) (periods : List ℕ) : Type 0 where
  pub served : HasRecords (first_passed (content p) s k) (table_of p streams)
  pub numbers : (j : ℕ) → j < p.table.count → (record_at (table_of p streams) j).id ≡ (record_at p.table j).id
  pub noted : (j : ℕ) → j < k → Has (first_passed (content p) s j) (get_or (ids_at (content p) s) j 0) (get_or periods j 0)
  pub long : length streams ≡ 64
  pub long_periods : length periods ≡ 64

-- after as many turns as there are, all have had theirs
pub all_turns : {p : Planner} {s k n : ℕ} {streams : List Record} {periods : List ℕ} → Serving p s k streams periods → k ≡ n → Serving p s n streams periods
all_turns {p} {s} {streams = streams} {periods = periods} serving all = subst (λ (k : ℕ). Serving p s k streams periods) all serving

module _ {p : Planner} {s : ℕ} {chosen : Chosen} (can : CanServeAll p s chosen) where
  abbrev h : Content
  h = content p

  abbrev sound : ContentSound h
  sound = can.at_start.sound.content_sound

  abbrev lazy : IsStart h s
  lazy = can.at_start.start

  -- before the first of the chosen the table is as it was, and no period is noted
  pub none_served : length p.table.streams ≡ 64 → {periods : List ℕ} → length periods ≡ 64 → Serving p s 0 p.table.streams periods
  unfolding serve_all
  none_served long long_periods =
      record {
        served = record { records = refl; count = can.at_start.sound.count };
        numbers = λ j below. refl;
        noted = λ j below. absurd (lt_irrefl 0 (omega arith));
        long = long;
        long_periods = long_periods;
      }

  -- at most 64 ids are chosen
  pub chosen_below : chosen.n ≤ most_slots
  chosen_below = omega (arith, can.is_chosen.few, sound.in_range.setting.slots)

  -- the id at place k is that of slot k
  turn : (k : ℕ) → k < chosen.n → get_or chosen.placed.ids k 0 ≡ get_or (ids_at h s) k 0
  turn k more = sym (get_or-take chosen.n chosen.placed.ids k 0 more) ∙ ap (λ (l : List ℕ). get_or l k 0) can.is_chosen.ids

  within : (k : ℕ) → k < chosen.n → k < length (ids_at h s)
  within k more = omega (arith, can.is_chosen.n)

  module _ {k : ℕ} (more : k < chosen.n) {streams : List Record} {periods : List ℕ} (serving : Serving p s k streams periods) where
    abbrev id : ℕ
    id = get_or chosen.placed.ids k 0

    abbrev row : ℕ
    row = get_or chosen.rows k 0

    abbrev table : Table
    table = table_of p streams

    abbrev x : Record
    x = record_at table row

    -- the rows and the periods with one more served
    abbrev rows_next : List Record
    rows_next = set streams row (sent (get_or streams row no_record))

    abbrev pub periods_next : List ℕ
    periods_next = set periods k x.period

    at : IsFoundAt p.table p.queue id row (get_or chosen.placed.places k 0)
    at = can.are_found k more

    holds : table.count ≤ length streams
    holds = omega (arith, serving.long, can.at_start.sound.count)

    -- the row of each of the chosen is below 64
    pub row_below : row < places
    row_below = omega (arith, at.in_table, can.at_start.sound.count)

    ascending : Ascending (records_of table)
    ascending = subst⁻¹ Ascending serving.served.records (served_ascending h sound s lazy k)

    member : Mem x (records_of table)
    member = record_at_mem table holds row at.in_table

    its_number : x.id ≡ id
    its_number = serving.numbers row at.in_table ∙ at.row_id

    there : Mem x (first_passed h s k)
    there = subst (λ (rs : List Record). Mem x rs) serving.served.records member

    -- its next release fits a number
    pub can_send : (x.release ≤ largest_key) × (x.period ≤ longest_period)
    can_send = let b = served_bounds h sound s lazy k x there in (omega (arith, b, can.by_last), b.1)

    one_more : Serving p s (k + 1) rows_next periods_next
    one_more =
        record {
          served =
              record {
                records =
                    serve_at_place table holds ascending id row at.in_table its_number ∙ ap (serve id) serving.served.records
                    ∙ ap (λ (n : ℕ). serve n (first_passed h s k)) (turn k more) ∙ serve_next (ids_at h s) h.table k (within k more);
                count = serving.served.count;
              };
          numbers = λ j below. keeps j below (ℕ_discrete j row);
          noted = λ j below. notes j below (dec_lt j k);
          long = length-set streams row (sent (get_or streams row no_record)) ∙ serving.long;
          long_periods = length-set periods k x.period ∙ serving.long_periods;
        }
      where
        number_in : (j : ℕ) (r : Record) → get_or rows_next j no_record ≡ r → (record_at (table_of p rows_next) j).id ≡ r.id
        number_in j r = ap (λ (r : Record). r.id)

        keeps : (j : ℕ) → j < p.table.count → Dec (j ≡ row) → (record_at (table_of p rows_next) j).id ≡ (record_at p.table j).id
        keeps j below (no other) =
            number_in j _ (get_or-set_other streams row j (sent (get_or streams row no_record)) no_record other) ∙ serving.numbers j below
        keeps j below (yes same) =
            subst⁻¹ (λ (i : ℕ). (record_at (table_of p rows_next) i).id ≡ (record_at p.table i).id) same
            (number_in row _ (get_or-set_same streams row (sent (get_or streams row no_record)) no_record (omega (arith, serving.long, row_below)))
            ∙ serving.numbers row at.in_table)

        notes : (j : ℕ) → j < k + 1 → Dec (j < k) → Has (first_passed h s j) (get_or (ids_at h s) j 0) (get_or periods_next j 0)
        notes j below (yes less) =
            let (y, m, number, period) = serving.noted j less in
            (y, m, number, period ∙ sym (get_or-set_other periods k j x.period 0 (λ same. lt_irrefl k (omega arith))))
        notes j below (no last) =
            let same : j ≡ k = omega arith in
            subst⁻¹ (λ (i : ℕ). Has (first_passed h s i) (get_or (ids_at h s) i 0) (get_or periods_next i 0)) same
            (x, there, its_number ∙ turn k more, sym (get_or-set_same periods k x.period 0 (omega (arith, serving.long_periods, chosen_below))))

    -- with the record in its row at the next packet and its period noted, one more of the chosen is served
    pub one_more_served : {r : Record} → r ≡ sent (get_or streams row no_record)
        → Serving p s (k + 1) (set streams row r) periods_next
    one_more_served is = subst⁻¹ (λ (y : Record). Serving p s (k + 1) (set streams row y) periods_next) is one_more

  module _ {streams : List Record} {periods : List ℕ} (serving : Serving p s chosen.n streams periods) where
    -- the entries with the first k moves done
    abbrev moved_to : ℕ → List Entry
    moved_to k = moved_all chosen.placed.ids periods k (entries p.queue)

    -- one move more, by the record that is noted
    next_moved : (k : ℕ) → (more : k < chosen.n) → let x = (serving.noted k more).0 in moved_to (suc k) ≡ moved x.id x.period (moved_to k)
    unfolding moved_all
    next_moved k more =
        let (x, m, number, period) = serving.noted k more in
        ap (λ (i : ℕ). moved i (get_or periods k 0) (moved_to k)) (turn k more ∙ sym number) ∙ ap (λ (a : ℕ). moved x.id a (moved_to k)) (sym period)

    -- after k moves the entries file the table with k served
    files_moved_to : (k : ℕ) → k ≤ chosen.n → Files (moved_to k) (first_passed h s k)
    unfolding moved_all serve_all
    files_moved_to zero within_n = can.at_start.sound.files
    files_moved_to (suc k) within_n =
        let more : k < chosen.n = omega arith in
        let (x, m, number, period) = serving.noted k more in
        let earlier = files_moved_to k (omega arith) in
        rw add-one at
        (subst⁻¹ (λ (es : List Entry). Files es (first_passed h s (k + 1))) (next_moved k more)
        (files_served h sound s lazy can.by_last (moved_to k) k (within k more) earlier x m number))

    -- when all of the chosen are served, their entries can be moved in the queue by the periods noted
    pub can_move_all : CanMoveAll p.queue chosen.placed periods chosen.n
    can_move_all =
        record {
          sound = can.at_start.sound.queue_sound;
          few = chosen_below;
          placed_there = λ k more. (can.are_found k more).in_queue;
          bounds = λ k more.
              let (x, m, number, period) = serving.noted k more in
              subst⁻¹ InBounds (next_moved k more)
              (bounds_served h sound s lazy can.by_last (moved_to k) k (within k more) (files_moved_to k (omega arith)) x m number);
        }

    -- with all of them served and moved, and the messages left that were not listed, it is the planner after the round
    pub all_served : {queue : Queue} → HasEntries queue (moved_to chosen.n) → {left : Waiting} → IsLeft h s left
        → IsSoundWith (left_at h s) (served_planner p s left streams queue)
    all_served has is_left =
        waits_with
        (is_sound_with p can.at_start.sound.waiting_count s (record { records = serving.served.records ∙ done; count = serving.served.count })
        (rounded_sound h sound s lazy can.by_last) has (subst (Files (moved_to chosen.n)) done (files_moved_to chosen.n (omega arith))))
        is_left (first_gone sound.in_range.mail (free_at h s))
      where
        done : first_passed h s chosen.n ≡ (rounded h s).table
        done =
            ap (λ (ids : List ℕ). serve_all ids h.table) (take_all chosen.n (ids_at h s) (omega (arith, can.is_chosen.n)))
            ∙ serve_all_slots h sound s lazy

    module _ {q : Planner} (kept : q ≡ with_streams p streams) where
      -- all that, of the planner in which they were served in place
      pub can_move_in_place : CanMoveAll q.queue chosen.placed periods chosen.n
      can_move_in_place = subst⁻¹ (λ (r : Planner). CanMoveAll r.queue chosen.placed periods chosen.n) kept can_move_all

      pub served_in_place : {queue : Queue} → HasEntries queue (moved_all chosen.placed.ids periods chosen.n (entries q.queue))
          → {left : Waiting} → IsLeft h s left
          → IsSoundWith (left_at h s) (record { setting = q.setting; last = s; waiting = left; table = q.table; queue = queue })
      served_in_place {queue} has {left} is_left =
          subst⁻¹ (λ (r : Planner). IsSoundWith (left_at h s) (record { setting = r.setting; last = s; waiting = left; table = r.table; queue = queue })) kept
          (all_served (subst (λ (r : Planner). HasEntries queue (moved_all chosen.placed.ids periods chosen.n (entries r.queue))) kept has) is_left)
