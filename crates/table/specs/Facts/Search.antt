-- The search for the next start over a table: what it may rely on, and what each length that it looks at adds.
use Rattle.std.specs.Prelude.{◌≡◌, refl, ℕ, ◌+◌, ◌-◌, ◌*◌, ◌≤◌, ◌<◌, min, take, get_or, length, ◌++◌}
use Rattle.std.proofs.Common.{ap, ◌∙◌, le_trans, arith, get_or-take, length-take, length-take-le}
use mathlib.Core.HLevel.{×_prop}
use mathlib.Core.List.{List, [], ◌∷◌, Mem}
use Rattle.std.proofs.Math.Bridge.{le_prop}
use Rattle.basics.specs.Limits.{places, longest_period, key_span}
use Rattle.basics.specs.OneTo.{OneTo}
use Rattle.rules.specs.Streams.{Stream, WellFormed, due}
use Rattle.rules.specs.Demand.{StartRule, packets_by, future, ceil, DueAfter}
use Rattle.rules.proofs.Facts.Division.{packets_quotient}
use Rattle.rules.specs.Ready.{count_by, AllWellFormed}
use Rattle.rules.proofs.Facts.Sums.{first_of, rest_of, period_positive, future_counts, future_mono}
use Rattle.table.specs.Table.{due_of, records_of, streams_of, record_at, stream_at, IsColumn}
use Rattle.table.specs.Needs.{EachRecord}
use Rattle.table.specs.Lengths.{CanFindStart, IsNextStart, IsWalk, IsAdvance}
use Rattle.table.specs.Facts.Table.{record_at_mem, stream_at_mem, all_records}
use Rattle.table.specs.Facts.Streams.{none_seen, all_streams}
use Rattle.table.specs.Facts.Lengths.{walk_begins, walk_goes_on}
use Rattle.table.specs.Start.{IsLeastOf, due_from, CanLookFrom}
use Rattle.table.specs.Facts.Start.{Looked, looked_none, looked_more, looked_all, found_none, nothing_due}
use Rattle.table.specs.declared.Table.{Table}

no_streams : (table : Table) → table.count ≡ 0 → (t : ℕ) → future (streams_of table) t ≡ 0
unfolding future
no_streams table none t = rw (none, none_seen) refl

-- an empty table: the next start is the cap
pub empty_table : {b x cap T : ℕ} {table : Table} → CanFindStart b x cap T table → table.count ≡ 0 → IsNextStart b x cap (streams_of table) cap
empty_table {b} {x} {cap} {T} {table} can none = nothing_due b x cap (streams_of table) can.now.0 can.cap (no_streams table none)

module _ {b x cap T : ℕ} {table : Table} (can : CanFindStart b x cap T table) where
  well_formed : AllWellFormed (streams_of table)
  well_formed = all_streams WellFormed (λ s. ×_prop le_prop le_prop) (records_of table) (λ r m. (can.formed r m).0)

  due_after : DueAfter x (streams_of table)
  due_after = all_streams (λ s. x < due s) (λ s. le_prop) (records_of table) can.near.due_after

  -- the periods fit 16 bits, and so do the due times less now
  pub period_fits : EachRecord (λ r. OneTo longest_period r.period) table
  period_fits r m = let formed = can.formed r m in (omega arith, formed.1)

  pub due_fits : EachRecord (λ r. (x < due_of r) × (due_of r ≤ x + key_span)) table
  due_fits r m = (can.near.due_after r m, omega (arith, can.near.released r m, can.formed r m))

  module _ (within : table.count ≤ length table.streams) where
    due_near : (k : ℕ) → k < table.count → (x < due_of (record_at table k)) × (due_of (record_at table k) ≤ x + key_span)
    due_near k below = due_fits (record_at table k) (record_at_mem table within k below)

    -- the least due time of the table is where to begin
    pub can_look : {periods dues : List ℕ} {least : ℕ} → IsColumn (λ s. s.period) table periods → IsColumn (due_from x) table dues → length dues ≡ 64
        → IsLeastOf (take table.count dues) least → CanLookFrom b x cap (x + least) T table periods dues
    can_look {periods} {dues} {least} period_column column size is_least =
        record {
          can = can;
          has = record { count = can.count; within = within; column = period_column; range = λ k below. period_fits _ (record_at_mem table within k below) };
          column = column;
          before = all_streams (λ s. x + least ≤ due s) (λ s. le_prop) (records_of table)
              (all_records (λ r. x + least ≤ due_of r) (λ r. le_prop) table
              (λ k below. omega (arith, is_least.at_most k (omega (arith, few)), first_dues k below, column k below, due_near k below)));
          counts = future_counts (streams_of table) well_formed (stream_at table place) there (x + least) (omega (arith, here));
          after = omega (arith, here, due_near place inside);
          near = omega (arith, here, due_near place inside);
        }
      where
        place : ℕ
        place = is_least.reached.0

        few : length (take table.count dues) ≡ table.count
        few = length-take-le table.count dues (omega arith)

        first_dues : (k : ℕ) → k < table.count → get_or (take table.count dues) k 0 ≡ get_or dues k 0
        first_dues k below = get_or-take table.count dues k 0 below

        inside : place < table.count
        inside = omega (arith, is_least.reached.1, few)

        there : Mem (stream_at table place) (streams_of table)
        there = stream_at_mem table within place inside

        here : x + least ≡ due_of (record_at table place)
        here = omega (arith, is_least.reached.2, first_dues place inside, column place inside, due_near place inside)

-- counted from a base on, as many packets are due
packets_from : (p : ℕ) → 1 ≤ p → (base d t : ℕ) → base ≤ d → base ≤ t → packets_by p (d - base) (t - base) ≡ packets_by p d t
packets_from p positive base d t first_on on =
    let e : t - base + p - (d - base) ≡ t + p - d = omega arith in
    rw (packets_quotient p positive (d - base) (t - base), packets_quotient p positive d t, e)

future_from : (ss : List Stream) (base t : ℕ) → base ≤ t → AllWellFormed ss → ((s : Stream) → Mem s ss → base < due s)
    → count_by (due_from base) ss (t - base) ≡ future ss t
unfolding count_by future
future_from [] base t on all late = refl
future_from (s ∷ ss) base t on all late =
    let here = packets_from s.period (period_positive s (first_of all)) base (due s) t (omega (arith, first_of late)) on in
    rw (here, future_from ss base t on (rest_of all) (rest_of late))

-- the search stands at t: the lengths before it have been looked at, the walk stands at the length before it, and no more rounds are thought to be
-- needed than are
pub record SearchedTo (b x cap first : ℕ) (table : Table) (times : List ℕ) (sum needed start t : ℕ) : Type 0 where
  pub small : sum ≤ places * (t - first)
  pub low : needed ≤ ceil sum b
  pub looked : Looked b x cap (streams_of table) first t start
  pub walk : IsWalk (due_from x) table (t - x - 1) times sum

module _ {b x cap first T : ℕ} {table : Table} {periods dues : List ℕ} (can : CanLookFrom b x cap first T table periods dues) where
  -- at the first due time nothing has been looked at or counted
  pub search_begins : length dues ≡ 64 → SearchedTo b x cap first table dues 0 0 cap first
  search_begins size = record {
    small = omega arith;
    low = omega arith;
    looked = looked_none b x cap (streams_of table) first can.can.cap;
    walk = walk_begins can.has (due_from x) (first - x - 1)
        (λ k below. omega (arith, can.before (stream_at table k) (stream_at_mem table can.has.within k below))) dues size can.column;
  }

  some_due : (t : ℕ) → first ≤ t → 0 < future (streams_of table) t
  some_due t on = le_trans can.counts (future_mono (streams_of table) (well_formed can.can) first t on)

  -- at t the walk goes one length further, and the rounds are counted up to what the packets due by t need
  module _ {t sum needed start r n : ℕ} {times later : List ℕ} (so_far : SearchedTo b x cap first table times sum needed start t) (on : first ≤ t)
      (there : IsAdvance periods (take table.count times) (t - x) later r) (parts : n ≡ ceil (sum + r) b) where
    walked : (rest : List ℕ) → IsWalk (due_from x) table (t - x) (later ++ rest) (sum + r)
    walked rest = walk_goes_on can.has rest (omega arith) so_far.walk there

    needed_at : n ≡ ceil (future (streams_of table) t) b
    needed_at =
        parts
        ∙ ap (λ (m : ℕ). ceil m b)
        ((walked []).counted ∙ future_from (streams_of table) x t (omega arith) (well_formed can.can) (due_after can.can))

    -- no start at now or later leaves the rounds that the packets due by t need ..
    pub stops : t < x + n → ¬ StartRule b x (streams_of table)
    stops short = found_none b x cap (streams_of table) first t can.can.slots.0 n needed_at (omega arith) short

    -- .. or one does, and t has been looked at
    pub goes_on : (rest : List ℕ) {next : ℕ} → x + n ≤ t → next ≡ min (t - n) start → SearchedTo b x cap first table (later ++ rest) (sum + r) n next (t + 1)
    goes_on rest room e =
        let back : t + 1 - x - 1 ≡ t - x = omega arith in
        record {
          small = omega (arith, length-take table.count times);
          low = omega arith;
          looked = looked_more b x cap (streams_of table) first t can.can.slots.0 n needed_at on (some_due t on) room so_far.looked e;
          walk = rw back (walked rest);
        }

  -- a busy length of lengths has been looked at
  pub ends : {t start : ℕ} → t ≡ first + T → Looked b x cap (streams_of table) first t start → IsNextStart b x cap (streams_of table) start
  ends end looked =
      looked_all b x cap (streams_of table) first T (well_formed can.can) can.before can.can.slots.0 can.can.now.0 can.after
      can.can.busy can.counts end looked
