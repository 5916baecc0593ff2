-- How the busy length is found: what has been shown when the test of the demand rule has come to length t.
use Rattle.std.specs.Prelude.{◌≡◌, ◌⊎◌, ℕ, ◌-◌, ◌*◌, ◌≤◌, ◌<◌, length, replicate}
use Rattle.std.proofs.Common.{subst, inl, inr, lt_irrefl, arith}
use mathlib.Core.HLevel.{×_prop}
use mathlib.Core.List.{List, Mem}
use Rattle.std.specs.Int.{◌∣◌}
use Rattle.std.proofs.Math.Bridge.{le_prop}
use Rattle.std.proofs.Math.Nat.{∣_prop}
use Rattle.std.proofs.Math.Decide.{dec_le}
use Rattle.basics.specs.Limits.{longest_period}
use Rattle.basics.specs.OneTo.{OneTo}
use Rattle.rules.specs.Streams.{Stream, WellFormed}
use Rattle.rules.specs.Demand.{demand}
use Rattle.rules.specs.Ready.{AllWellFormed, IsBusy}
use Rattle.rules.proofs.Facts.Busy.{busy_settles_demand, frame_busy}
use Rattle.table.specs.Table.{records_of, streams_of, record_at, IsColumn}
use Rattle.table.specs.Range.{RecordInRange}
use Rattle.table.specs.Needs.{EachRecord}
use Rattle.table.specs.Lengths.{CanTestDemand, IsBusyLength}
use Rattle.table.specs.Sums.{HasPeriods, AreSums, CanCarry}
use Rattle.table.specs.Facts.Table.{record_at_mem}
use Rattle.table.specs.Facts.Streams.{all_streams}
use Rattle.table.specs.Facts.Lengths.{sums_begin}
use Rattle.table.specs.declared.Table.{Table}
use Rattle.table.specs.declared.lengths.Sums.{Sums}

-- the sums stand at t, and the demand rule holds so far
pub record TestedTo (b F : ℕ) (table : Table) (periods dues releases : List ℕ) (sums : Sums) (t : ℕ) : Type 0 where
  pub within : t ≤ F
  pub has : HasPeriods table periods
  pub at : AreSums table t dues releases sums
  pub kept : (u : ℕ) → 1 ≤ u → u ≤ t → demand (streams_of table) u ≤ b * u

module _ (b F : ℕ) (table : Table) (can : CanTestDemand b F table) where
  well_formed : AllWellFormed (streams_of table)
  well_formed = all_streams WellFormed (λ s. ×_prop le_prop le_prop) (records_of table) (λ r m. (can.records r m).deadline)

  periods_divide : (s : Stream) → Mem s (streams_of table) → s.period ∣ F
  periods_divide = all_streams (λ s. s.period ∣ F) (λ s. ∣_prop s.period F) (records_of table) (λ r m. (can.records r m).divides)

  -- the periods and the deadlines fit 16 bits
  pub period_fits : EachRecord (λ r. OneTo longest_period r.period) table
  period_fits r m = (can.records r m).period

  pub deadline_fits : EachRecord (λ r. r.deadline ≤ longest_period) table
  deadline_fits r m = omega (arith, can.records r m)

  -- a busy length up to which the demand rule holds
  settles : (T : ℕ) → IsBusy b (streams_of table) T → T ≤ F → ((u : ℕ) → 1 ≤ u → u ≤ T → demand (streams_of table) u ≤ b * u)
      → IsBusyLength b (streams_of table) T
  settles T busy within kept =
      record { holds = busy_settles_demand b T (streams_of table) well_formed busy kept; busy = busy; short = omega arith }

  module _ {periods dues releases : List ℕ} {sums : Sums} {t : ℕ} (so_far : TestedTo b F table periods dues releases sums t) where
    -- the demand rule kept up to a length t from 1 on with W(t) at most b × t: t is a busy length, and the rule holds
    pub busy_found : 1 ≤ t → sums.most ≤ b * t → IsBusyLength b (streams_of table) t
    busy_found some fits = settles t (some, omega arith) so_far.within so_far.kept

    -- the demand rule kept up to F: F is a busy length, and the rule holds
    pub frame_reached : F ≤ t → IsBusyLength b (streams_of table) F
    frame_reached end = go (frame_busy F can.frame.0 b (streams_of table) well_formed periods_divide)
      where
        kept : (u : ℕ) → 1 ≤ u → u ≤ F → demand (streams_of table) u ≤ b * u
        kept u some within = so_far.kept u some (omega arith)

        go : IsBusy b (streams_of table) F ⊎ (b * F < demand (streams_of table) F) → IsBusyLength b (streams_of table) F
        go (inl busy) = settles F busy (omega arith) kept
        go (inr over) = absurd (lt_irrefl (b * F) (omega (arith, kept F can.frame.0 (omega arith))))

  -- the test stands at the length before t
  module _ {periods dues releases : List ℕ} {sums : Sums} {t : ℕ} (so_far : TestedTo b F table periods dues releases sums (t - 1)) (some : 1 ≤ t)
      (within : t ≤ F) where
    -- the sums that stand there can be carried to t
    pub can_carry : CanCarry table periods dues releases t sums
    can_carry = record { has = so_far.has; formed = well_formed; within = (some, omega arith); sums = so_far.at }

    module _ {dues' releases' : List ℕ} {sums' : Sums} (here : AreSums table t dues' releases' sums') where
      -- a demand of at most b × t there: the demand rule is kept up to t
      pub one_length_more : sums'.demand ≤ b * t → TestedTo b F table periods dues' releases' sums' t
      one_length_more fits = record {
        within = within;
        has = so_far.has;
        at = here;
        kept = λ u first up. go u first up (dec_le u (t - 1));
      }
        where
          go : (u : ℕ) → 1 ≤ u → u ≤ t → Dec (u ≤ t - 1) → demand (streams_of table) u ≤ b * u
          go u first up (yes earlier) = so_far.kept u first earlier
          go u first up (no later) =
              let e : t ≡ u = omega arith in
              subst (λ (v : ℕ). demand (streams_of table) v ≤ b * v) e (omega arith)

  module _ (size : length table.streams ≡ 64) where
    table_within : table.count ≤ length table.streams
    table_within = omega arith

    in_range : (k : ℕ) → k < table.count → RecordInRange F (record_at table k)
    in_range k low = can.records (record_at table k) (record_at_mem table table_within k low)

    -- at length 0 both sums are 0, and in each stream's place stand its D as the next deadline and 1 as the next release
    pub test_begins : {periods dues : List ℕ} → IsColumn (λ s. s.period) table periods → length dues ≡ 64 → IsColumn (λ s. s.deadline) table dues
        → TestedTo b F table periods dues (replicate 64 1) (record { demand = 0; most = 0 }) 0
    test_begins {periods} {dues} column sixty_four deadlines = record {
      within = omega arith;
      has = has;
      at = sums_begin has well_formed (λ k low. (in_range k low).deadline.0) sixty_four deadlines;
      kept = λ u some none. absurd (lt_irrefl 0 (omega arith));
    }
      where
        has : HasPeriods table periods
        has = record { count = can.count; within = table_within; column = column; range = λ k low. (in_range k low).period }
