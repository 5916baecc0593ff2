-- The facts that the test of soundness rests on.
use Rattle.std.specs.Prelude.{◌≡◌, Bool, ◌↔◌, ℕ, ◌+◌, ◌≤◌, ◌<◌, length}
use Rattle.std.proofs.Common.{sym, ◌∙◌, arith, length-take}
use Rattle.std.proofs.Math.Logic.{∥∥₁_elim, ∥∥₁_map, ∥∥₁_prop}
use Rattle.std.proofs.Math.Logic.Iff.{trans as Iff-trans, symm as Iff-symm}
use mathlib.Core.List.{List, Mem}
use Rattle.basics.specs.Decides.{Decides}
use Rattle.basics.specs.Facts.Decides.{same_as}
use Rattle.basics.specs.Limits.{key_span, most_slots, most_waiting}
use Rattle.basics.specs.OneTo.{OneTo}
use Rattle.rules.specs.Streams.{Stream, due}
use Rattle.table.specs.Table.{records_of, streams_of, record_at, due_of, IsColumn}
use Rattle.table.specs.Needs.{CanSearch}
use Rattle.table.specs.declared.Record.{Record}
use Rattle.table.specs.Facts.Table.{record_at_mem, all_records}
use Rattle.table.specs.Ids.{IsIds}
use Rattle.table.specs.Facts.Ids.{ids_rise, ids_ascend}
use Rattle.table.specs.Range.{TableInRange}
use Rattle.table.specs.Lengths.{IsBusyLength, IsNextStart, CanTestDemand, CanFindStart}
use Rattle.table.specs.declared.Table.{Table}
use Rattle.queue.specs.Interface.{Entry, row_of, FilesJust, entries, CanFile}
use Rattle.queue.specs.InterfaceLaws.{entry_path}
use Rattle.queue.specs.Interface
use Rattle.queue.specs.declared.Queue.{Queue}
use Rattle.messages.specs.Waiting.{waiting_of}
use Rattle.state.specs.Content.{content, now_of, cap_of, slots_of}
use Rattle.state.specs.Sound.{entry_of, Sound, MailInRange}
use Rattle.state.proofs.Facts.Open.{range_numbers, in_range_by_numbers}
use Rattle.state.specs.Needs.{NumbersInRange, HasNumbers, StartsAt, CanCompare, IsFiled}
use Rattle.state.specs.declared.Planner.{Planner}

module _ {table : Table} (can : CanCompare table) (long : length table.streams ≡ 64) where
  fits : table.count ≤ length table.streams
  fits = omega (arith, long, can.count)

  can_search : CanSearch table
  can_search = record { count = can.count; ascending = can.ascending; small = λ r m. (can.ids r m).1 }

  held : (k : ℕ) → k < table.count → Mem (record_at table k) (records_of table)
  held = record_at_mem table fits

  module _ {ids : List ℕ} (is_ids : IsIds table ids) (dues releases : List ℕ) (is_dues : IsColumn due table dues)
      (is_releases : IsColumn (λ (x : Stream). x.release) table releases) where
    -- ids and due times of the streams are what a queue can file
    pub can_file : CanFile ids dues releases table.count
    can_file =
        record {
          few = can.count;
          rise = ids_rise table can_search fits is_ids;
          ascend = ids_ascend table can_search fits is_ids;
          some = λ k below. omega (arith, is_ids.ids k below, can.ids (record_at table k) (held k below));
          small = λ k below. omega (arith, is_ids.ids k below, can.ids (record_at table k) (held k below));
          keys_in_range = λ k below. omega (arith, is_dues k below, can.dues (record_at table k) (held k below));
          released = λ k below. omega (arith, is_dues k below, is_releases k below);
          span = λ j k low below. omega (arith, is_dues j low, is_dues k below, can.span (record_at table j) (record_at table k) (held j low) (held k below));
        }

    -- the row of a place is the entry of its stream, so the rows are the streams' entries
    rows_are_entries : (e : Entry) → ∥ ((k : ℕ) × (k < table.count) × (e ≡ row_of ids dues releases k)) ∥₁
        ↔ ∥ ((r : Record) × Mem r (records_of table) × (e ≡ entry_of r)) ∥₁
    rows_are_entries e = (
      λ some. ∥∥₁_map some (λ w. (record_at table w.0, held w.0 w.1, w.2 ∙ row w.0 w.1)),
      λ some. ∥∥₁_elim some ∥∥₁_prop (λ w. ∥∥₁_map (placed w.0 w.1) (λ v. (v.0, v.1, w.2 ∙ v.2))),
    )
      where
        row : (k : ℕ) → k < table.count → row_of ids dues releases k ≡ entry_of (record_at table k)
        row k below = entry_path (row_of ids dues releases k) (entry_of (record_at table k)) (is_dues k below) (is_releases k below) (is_ids.ids k below)

        placed : (r : Record) → Mem r (records_of table) → ∥ ((k : ℕ) × (k < table.count) × (entry_of r ≡ row_of ids dues releases k)) ∥₁
        placed =
            all_records (λ r. ∥ ((k : ℕ) × (k < table.count) × (entry_of r ≡ row_of ids dues releases k)) ∥₁) (λ r. ∥∥₁_prop) table
            (λ k below. ∣ (k, below, sym (row k below)) ∣₁)

    -- so a queue that files just the rows files the streams
    pub filed_exactly : (q : Queue) {b : Bool} → Decides b (Interface.Sound q × FilesJust ids dues releases table.count (entries q))
        → Decides b (IsFiled table q)
    filed_exactly q =
        same_as
        (λ w. (w.0, λ e. Iff-trans (w.1 e) (rows_are_entries e)))
        (λ w. (w.0, λ e. Iff-trans (w.1 e) (Iff-symm (rows_are_entries e))))

-- a planner whose numbers are not in range is not sound
pub no_numbers : (p : Planner) → (HasNumbers p → ⊥) → Sound p → ⊥
no_numbers p fails sound =
    fails
    (record {
      numbers = range_numbers sound.content_sound.in_range;
      mail = sound.content_sound.in_range.mail;
      waiting_count = sound.waiting_count;
    })

module _ (p : Planner) (numbers : NumbersInRange p.setting p.last) (range : TableInRange p.setting.frame (p.last + 1) p.table) where
  late : (r : Record) → Mem r (records_of p.table) → due_of r ≤ p.last + 1 + key_span
  late s m =
      let each = range.records.each s m in
      omega (arith, range.near.released s m, each.period, each.deadline)

  -- with numbers and table in range, the queue can be compared with the table ..
  pub can_compare : CanCompare p.table
  can_compare =
      record {
        count = range.count;
        ascending = range.records.ascending;
        ids = λ s m. (range.records.each s m).id;
        dues = λ s m. omega (arith, late s m, numbers.last);
        span = λ s t m n. omega (arith, late s m, range.near.due_after t n);
      }

  -- the slots for streams are 1 to 64
  few_slots : OneTo most_slots (slots_of (content p))
  few_slots = (numbers.setting.slots.0, omega (arith, numbers.setting.slots))

  -- .. and the demand rule can be tested on it
  pub can_test_demand : CanTestDemand (slots_of (content p)) p.setting.frame p.table
  can_test_demand = record { count = range.count; slots = few_slots; frame = numbers.setting.frame; records = range.records.each }

  module _ {busy : ℕ} (is_busy : IsBusyLength (slots_of (content p)) (streams_of p.table) busy) where
    -- a start can be looked for under any cap that is not before now
    pub can_find_start : {cap : ℕ} → now_of (content p) ≤ cap → CanFindStart (slots_of (content p)) (p.last + 1) cap busy p.table
    can_find_start open_cap =
        record {
          count = range.count;
          slots = few_slots;
          now = (omega arith, omega (arith, numbers.last));
          cap = open_cap;
          formed = λ s m. let each = range.records.each s m in (each.deadline, each.period.1);
          near = range.near;
          busy = is_busy.busy;
          short = is_busy.short;
        }

    -- with the table in range and filed, the two rules decide
    pub start_found : p.waiting.count ≤ most_waiting → MailInRange p.setting.messages (waiting_of p.waiting) → IsFiled p.table p.queue
        → {start : ℕ} → IsNextStart (slots_of (content p)) (p.last + 1) (cap_of (content p)) (streams_of p.table) start → StartsAt p start
    start_found waiting_count mail filed is_start =
        record {
          sound =
              record {
                count = range.count;
                waiting_count = waiting_count;
                content_sound =
                    record {
                      in_range = in_range_by_numbers numbers (rw length-take (omega (arith, range.count))) range.records mail;
                      near = range.near;
                      demand_rule = is_busy.holds;
                      start_rule = is_start.holds;
                    };
                queue_sound = filed.0;
                files = filed.1;
              };
          start = is_start.lazy;
        }

pub ruleset start_tests = (no_numbers, can_compare, can_test_demand, can_find_start, start_found)
