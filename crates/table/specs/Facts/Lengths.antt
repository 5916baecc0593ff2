-- How due times go one length further, and what a walk of them counts: one stream first, then the whole table.
use Rattle.std.specs.Prelude.{◌≡◌, List, ℕ, zero, suc, ◌+◌, ◌*◌, ◌≤◌, ◌<◌, take, length, set, replicate, ◌++◌}
use Rattle.std.proofs.Math.Path.{refl, sym, ap}
use Rattle.std.proofs.Common.{subst, ◌∙◌, add-one, below_none, get_or-take, length-take, length-take-le, length-append}
use Rattle.std.proofs.Math.Logic.{if_pos, if_neg}
use mathlib.Core.HLevel.{×_prop}
use Rattle.std.proofs.Math.Bridge.{le_prop}
use Rattle.std.proofs.Math.Nat.{lt_irrefl}
use Rattle.std.proofs.Math.Decide.{dec_le, dec_lt, ℕ_discrete}
use native.Mathlib.Omega.{arith}
use Rattle.std.proofs.Math.ListN.{get_or, length-set, get_or-append}
use Rattle.std.proofs.lemmas.List.{get_or-replicate}
use Rattle.std.proofs.Math.Seq.{get_or-set_other}
use Rattle.basics.specs.Limits.{places}
use Rattle.rules.specs.Streams.{Stream}
use Rattle.rules.specs.Demand.{packets_by}
use Rattle.rules.proofs.Facts.Division.{packets_none, packets_mono, window, ceil_least, counted_iff_due}
use Rattle.rules.specs.Ready.{AllWellFormed, count_by}
use Rattle.rules.proofs.Facts.CountBy.{count_by_one_more, count_by_none, count_by_demand, count_by_most_in}
use Rattle.table.specs.Table.{stream_of, as_streams, records_of, streams_of, stream_at}
use Rattle.table.specs.Lengths.{hits, after_hit, hits_before, IsWalk, IsAdvance}
use Rattle.table.specs.Sums.{next_after, HasPeriods, AreSums}
use Rattle.table.specs.Facts.Table.{row_at, one_row_more, all_records, one_place_more}
use Rattle.table.specs.Facts.Streams.{none_seen, all_streams}
use Rattle.table.specs.declared.Record.{Record}
use Rattle.table.specs.declared.Table.{Table}
use Rattle.table.specs.declared.lengths.Sums.{Sums}

-- a due time at t adds one there ..
pub hits_yes : (time t : ℕ) → time ≡ t → hits time t ≡ 1
unfolding hits
hits_yes time t same = if_pos (ℕ_discrete time t) same 1 0

-- .. any other adds none ..
pub hits_no : (time t : ℕ) → (time ≡ t → ⊥) → hits time t ≡ 0
unfolding hits
hits_no time t other = if_neg (ℕ_discrete time t) other 1 0

-- .. so that a stream adds at most one at a length
pub hits_few : (time t : ℕ) → hits time t ≤ 1
hits_few time t = go (ℕ_discrete time t)
  where
    go : Dec (time ≡ t) → hits time t ≤ 1
    go (yes now) = omega (arith, hits_yes time t now)
    go (no later) = omega (arith, hits_no time t later)

-- a due time at t moves on by the period ..
pub after_yes : (time t period : ℕ) → time ≡ t → after_hit time t period ≡ t + period
unfolding after_hit
after_yes time t period same = if_pos (ℕ_discrete time t) same (t + period) time

-- .. any other stays
pub after_no : (time t period : ℕ) → (time ≡ t → ⊥) → after_hit time t period ≡ time
unfolding after_hit
after_no time t period other = if_neg (ℕ_discrete time t) other (t + period) time

module _ (p : ℕ) (positive : 1 ≤ p) (d t : ℕ) where
  -- the next due time is after t
  next_is_after : t < next_after p d t
  unfolding next_after
  next_is_after = go (dec_le (d + packets_by p d t * p) t)
    where
      go : Dec (d + packets_by p d t * p ≤ t) → t < d + packets_by p d t * p
      go (yes early) = absurd (lt_irrefl (packets_by p d t) ((counted_iff_due p positive d t (packets_by p d t)).1 early))
      go (no late) = omega arith

  -- t + 1 adds one packet if that is the next due time, and none if it is not
  packets_hit : next_after p d t ≡ t + 1 → packets_by p d (t + 1) ≡ packets_by p d t + 1
  unfolding next_after
  packets_hit now =
      let more : packets_by p d t < packets_by p d (t + 1) = (counted_iff_due p positive d (t + 1) (packets_by p d t)).1 (omega arith) in
      omega (arith, window p positive d t 1, ceil_least 1 p 1 positive (omega arith))

  packets_missed : (next_after p d t ≡ t + 1 → ⊥) → packets_by p d (t + 1) ≡ packets_by p d t
  unfolding next_after
  packets_missed later = go (dec_lt (packets_by p d t) (packets_by p d (t + 1)))
    where
      go : Dec (packets_by p d t < packets_by p d (t + 1)) → packets_by p d (t + 1) ≡ packets_by p d t
      go (yes more) = absurd (later (omega (arith, next_is_after, (counted_iff_due p positive d (t + 1) (packets_by p d t)).0 more)))
      go (no none) = omega (arith, packets_mono p positive d t (t + 1) (omega arith))

  packets_step : packets_by p d (t + 1) ≡ packets_by p d t + hits (next_after p d t) (t + 1)
  packets_step = go (ℕ_discrete (next_after p d t) (t + 1))
    where
      go : Dec (next_after p d t ≡ t + 1) → packets_by p d (t + 1) ≡ packets_by p d t + hits (next_after p d t) (t + 1)
      go (yes now) = omega (arith, packets_hit now, hits_yes (next_after p d t) (t + 1) now)
      go (no later) = omega (arith, packets_missed later, hits_no (next_after p d t) (t + 1) later)

  hit_goes_on : next_after p d t ≡ t + 1 → t + 1 + p ≡ next_after p d (t + 1)
  unfolding next_after
  hit_goes_on now = rw (packets_hit now) (omega arith)

  missed_stays : (next_after p d t ≡ t + 1 → ⊥) → next_after p d t ≡ next_after p d (t + 1)
  unfolding next_after
  missed_stays later = rw (packets_missed later) refl

  next_step : after_hit (next_after p d t) (t + 1) p ≡ next_after p d (t + 1)
  next_step = go (ℕ_discrete (next_after p d t) (t + 1))
    where
      go : Dec (next_after p d t ≡ t + 1) → after_hit (next_after p d t) (t + 1) p ≡ next_after p d (t + 1)
      go (yes now) = after_yes (next_after p d t) (t + 1) p now ∙ hit_goes_on now
      go (no later) = after_no (next_after p d t) (t + 1) p later ∙ missed_stays later

-- the first n due times add at most n at a length
pub hits_before_few : (times : List ℕ) (t n : ℕ) → hits_before times t n ≤ n
unfolding hits_before
hits_before_few times t zero = omega arith
hits_before_few times t (suc n) = omega (arith, hits_before_few times t n, hits_few (get_or times n 0) t)

-- the first n streams count so many more at t + 1
count_step : (first : Stream → ℕ) (rows : List Record) (times : List ℕ) (t n : ℕ) → n ≤ length rows → ((k : ℕ) → k < n → 1 ≤ (row_at rows k).period)
    → ((k : ℕ) → k < n → get_or times k 0 ≡ next_after (row_at rows k).period (first (stream_of (row_at rows k))) t)
    → count_by first (as_streams (take n rows)) (t + 1) ≡ count_by first (as_streams (take n rows)) t + hits_before times (t + 1) n
unfolding count_by hits_before
count_step first rows times t zero within periods walk = rw none_seen (omega arith)
count_step first rows times t (suc n) within periods walk =
    let s = stream_of (row_at rows n) in
    let added = count_by_one_more first (as_streams (take n rows)) s in
    rw (one_row_more rows n within, added (t + 1), added t, walk n (omega arith))
    (let before = count_step first rows times t n (omega arith) (λ k low. periods k (omega arith)) (λ k low. walk k (omega arith)) in
    omega (arith, packets_step s.period (periods n (omega arith)) (first s) t))

-- times of which the first i have gone on to t
pub record GoneOn (periods : List ℕ) (t : ℕ) (times₀ times : List ℕ) (sum i : ℕ) : Type 0 where
  pub size : length times ≡ length times₀
  pub gone_on : (k : ℕ) → k < i → get_or times k 0 ≡ after_hit (get_or times₀ k 0) t (get_or periods k 0)
  pub left : (k : ℕ) → i ≤ k → get_or times k 0 ≡ get_or times₀ k 0
  pub counted : sum ≡ hits_before times₀ t i

-- before the first time is looked at, all are as they were and none is counted
pub none_gone_on : (periods : List ℕ) (t : ℕ) (times : List ℕ) → GoneOn periods t times times 0 0
unfolding hits_before
none_gone_on periods t times = record { size = refl; gone_on = below_none _; left = λ k high. refl; counted = refl }

module _ {periods : List ℕ} {t : ℕ} {times₀ times : List ℕ} {sum i : ℕ} (so_far : GoneOn periods t times₀ times sum i) where
  -- with time i moved on, and counted if it was at t, the first i + 1 have gone on to t
  pub one_more_gone_on : i < length times₀ → (hit time : ℕ) → hit ≡ hits (get_or times i 0) t
      → time ≡ after_hit (get_or times i 0) t (get_or periods i 0) → GoneOn periods t times₀ (set times i time) (sum + hit) (i + 1)
  unfolding hits_before
  one_more_gone_on low hit time is_hit is_time =
      let old : get_or times i 0 ≡ get_or times₀ i 0 = so_far.left i (omega arith) in
      record {
        size = length-set times i time ∙ so_far.size;
        gone_on = one_place_more (λ k. after_hit (get_or times₀ k 0) t (get_or periods k 0)) times i time
            (omega arith) so_far.gone_on (rw old at is_time);
        left = λ k high. get_or-set_other times i k time 0 (λ same. lt_irrefl k (omega arith)) ∙ so_far.left k (omega arith);
        counted = rw (add-one i) (omega (arith, ap (λ (x : ℕ). hits x t) old));
      }

  -- when all have gone on, the times are one length further, at t, and the sum is how many of them were there
  pub all_gone_on : i ≡ length times → IsAdvance periods times₀ t times sum
  all_gone_on all_of_them =
      let e : i ≡ length times₀ = all_of_them ∙ so_far.size in
      record {
        moved = λ k low. so_far.gone_on k (omega arith);
        counted = so_far.counted ∙ ap (hits_before times₀ t) e;
        few = omega (arith, hits_before_few times₀ t i);
        size = so_far.size;
      }

module _ {table : Table} {periods : List ℕ} (has : HasPeriods table periods) where
  -- before every first due time nothing is counted
  pub walk_begins : (first : Stream → ℕ) (t : ℕ) → ((k : ℕ) → k < table.count → t < first (stream_at table k))
      → (times : List ℕ) → length times ≡ 64 → ((k : ℕ) → k < table.count → get_or times k 0 ≡ first (stream_at table k)) → IsWalk first table t times 0
  unfolding next_after
  walk_begins first t late times size begin = record {
    are_next = record {
      times = λ k low.
          let none = packets_none (stream_at table k).period (has.range k low).0 (first (stream_at table k)) t (late k low) in
          rw none (omega (arith, begin k low));
      room = omega arith;
    };
    counted =
        let Late : Stream → Type 0 = λ s. (1 ≤ s.period) × (t < first s) in
        let late_record = all_records (λ r. Late (stream_of r)) (λ r. ×_prop le_prop le_prop) table (λ k low. ((has.range k low).0, late k low)) in
        sym (count_by_none first (streams_of table) t (all_streams Late (λ s. ×_prop le_prop le_prop) (records_of table) late_record));
  }

  -- a walk whose first times go one length further counts those that they had there, whatever stands behind them
  pub walk_goes_on : {first : Stream → ℕ} {before t sum r : ℕ} {times later : List ℕ} (rest : List ℕ) → before + 1 ≡ t → IsWalk first table before times sum
      → IsAdvance periods (take table.count times) t later r → IsWalk first table t (later ++ rest) (sum + r)
  walk_goes_on {first} {before} {t} {sum} {r} {times} {later} rest next walk on =
      subst (λ (u : ℕ). IsWalk first table u (later ++ rest) (sum + r)) next (record {
        are_next = record {
          times = λ k low.
              let s = stream_at table k in
              let inside : k < length later = omega (arith, there.size, few) in
              let own : k < length (take table.count times) = omega (arith, few) in
              get_or-append later rest 0 k inside ∙ there.moved k own
              ∙ rw (begins k low, has.column k low) (next_step s.period (has.range k low).0 (first s) before);
          room = simp length-append (omega (arith, there.size, few));
        };
        counted =
            let all : r ≡ hits_before (take table.count times) (before + 1) table.count =
            there.counted ∙ ap (hits_before (take table.count times) (before + 1)) few in
            omega (
              arith,
              all,
              walk.counted,
              count_step first table.streams (take table.count times) before table.count has.within (λ k low. (has.range k low).0) begins,
            );
      })
    where
      few : length (take table.count times) ≡ table.count
      few = length-take-le table.count times walk.are_next.room

      begins : (k : ℕ) → k < table.count → get_or (take table.count times) k 0 ≡ next_after (stream_at table k).period (first (stream_at table k)) before
      begins k low = get_or-take table.count times k 0 low ∙ walk.are_next.times k low

      there : IsAdvance periods (take table.count times) (before + 1) later r
      there = subst (λ (u : ℕ). IsAdvance periods (take table.count times) u later r) (sym next) on

  module _ (formed : AllWellFormed (streams_of table)) where
    -- the walks of the deadlines and of the releases carry the sums of the rules
    due_walk : {t : ℕ} {dues releases : List ℕ} {sums : Sums} → AreSums table t dues releases sums → IsWalk (λ s. s.deadline) table t dues sums.demand
    due_walk {t} sums = record { are_next = sums.next_dues; counted = sums.demand_is ∙ sym (count_by_demand (streams_of table) t) }

    release_walk : {t : ℕ} {dues releases : List ℕ} {sums : Sums} → AreSums table t dues releases sums → IsWalk (λ s. 1) table t releases sums.most
    release_walk {t} sums = record { are_next = sums.next_releases; counted = sums.most_is ∙ sym (count_by_most_in (streams_of table) formed t) }

    of_walks : {t : ℕ} {dues releases : List ℕ} {sums : Sums} → IsWalk (λ s. s.deadline) table t dues sums.demand
        → IsWalk (λ s. 1) table t releases sums.most → (sums.demand ≤ places * t) × (sums.most ≤ places * t) → AreSums table t dues releases sums
    of_walks {t} dues releases few = record {
      demand_is = dues.counted ∙ count_by_demand (streams_of table) t;
      most_is = releases.counted ∙ count_by_most_in (streams_of table) formed t;
      next_dues = dues.are_next;
      next_releases = releases.are_next;
      few = few;
    }

    -- at length 0 nothing is counted
    pub sums_begin : {dues : List ℕ} → ((k : ℕ) → k < table.count → 1 ≤ (stream_at table k).deadline) → length dues ≡ 64
        → ((k : ℕ) → k < table.count → get_or dues k 0 ≡ (stream_at table k).deadline) → AreSums table 0 dues (replicate 64 1) (record { demand = 0; most = 0 })
    sums_begin {dues} some size begin =
        of_walks (walk_begins (λ s. s.deadline) 0 some dues size begin)
        (walk_begins (λ s. 1) 0 (λ k low. omega arith) (replicate 64 1) refl (λ k low. get_or-replicate 64 k 1 0 (omega arith)))
        (omega arith, omega arith)

    -- one length further the sums have grown by the deadlines and the releases that come there
    pub sums_carried : {before t due all : ℕ} {dues releases dues' releases' : List ℕ} {sums : Sums} (dues_rest releases_rest : List ℕ) → before + 1 ≡ t
        → AreSums table before dues releases sums → IsAdvance periods (take table.count dues) t dues' due
        → IsAdvance periods (take table.count releases) t releases' all
        → AreSums table t (dues' ++ dues_rest) (releases' ++ releases_rest) (record { demand = sums.demand + due; most = sums.most + all })
    sums_carried {dues = dues} {releases = releases} dues_rest releases_rest next sums dues_on releases_on =
        of_walks (walk_goes_on dues_rest next (due_walk sums) dues_on) (walk_goes_on releases_rest next (release_walk sums) releases_on)
        (omega (arith, length-take table.count dues), omega (arith, length-take table.count releases))
