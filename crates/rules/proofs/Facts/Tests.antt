-- Tests that the checker computes, so that a worked example needs no argument of its own.
use Rattle.std.specs.Prelude.{◌≡◌, Bool, true, ◌&&◌, not, ℕ, zero, suc, ◌+◌, ◌-◌, ◌*◌, ◌<◌, leb, ltb, eqb}
use Rattle.std.proofs.Math.Bool.{So, and-eq-true_iff}
use Rattle.std.proofs.Math.Logic.Or
use mathlib.Core.HLevel.{⊥_prop}
use mathlib.Core.List.{List, [], ◌∷◌, Mem, Nodup-nil, Nodup-cons, not-mem-nil, forall_mem-cons, map, eq-or-mem_of_mem-cons}
use Rattle.std.proofs.Common.{lt_of_lt_of_le, arith, leb-true, ltb-true, below_none}
use Rattle.std.proofs.Math.Decide.{dec_le, dec_lt}
use Rattle.std.proofs.lemmas.Bool.{eqb-false, not-true}
use Rattle.rules.specs.Streams.{Stream, IsTable}
use Rattle.rules.specs.Demand.{packets_by, demand, future, DemandRule}
use Rattle.rules.proofs.Facts.Sums.{fits_start_rule, well_formed_prop}
use Rattle.rules.specs.Ready.{most_in, IsBusy, IsReady}
use Rattle.rules.proofs.Facts.Busy.{busy_settles_demand, busy_settles_start}
use Rattle.rules.proofs.Facts.LazyStart.{first_due, first_due_before}

-- where a test of two parts is passed, so is each part
pub both : {a b : Bool} → So (a && b) → So a × So b
both {a} {b} tested = (and-eq-true_iff a b).0 tested

-- a test of the numbers below n
unfoldable pub all_below : (ℕ → Bool) → ℕ → Bool
all_below f zero = true
all_below f (suc n) = f n && all_below f n

each_below : (f : ℕ → Bool) (n : ℕ) → So (all_below f n) → (k : ℕ) → k < n → So (f k)
unfolding all_below
each_below f zero tested k below = below_none (λ j. So (f j)) k (omega arith)
each_below f (suc n) tested k below =
    let split : So (f n) × So (all_below f n) = both tested in
    go split.0 (each_below f n split.1 k) (dec_lt k n)
  where
    go : So (f n) → (k < n → So (f k)) → Dec (k < n) → So (f k)
    go here earlier (yes less) = earlier less
    go here earlier (no last) = let e : k ≡ n = omega arith in rw e here

-- no number of the list is n
unfoldable pub new_number : ℕ → List Stream → Bool
new_number n [] = true
new_number n (s ∷ ss) = not (eqb n s.number) && new_number n ss

is_new : (n : ℕ) (ss : List Stream) → So (new_number n ss) → Mem n (map (λ (s : Stream). s.number) ss) → ⊥
unfolding new_number
is_new n [] tested m = not-mem-nil m
is_new n (s ∷ ss) tested m =
    let split : So (not (eqb n s.number)) × So (new_number n ss) = both tested in
    Or.elim ⊥_prop (eq-or-mem_of_mem-cons m) (eqb-false n s.number (not-true (eqb n s.number) split.0)) (is_new n ss split.1)

-- every stream well formed, no number twice
unfoldable pub is_table : List Stream → Bool
unfolding new_number
is_table [] = true
is_table (s ∷ ss) = leb 1 s.deadline && (leb s.deadline s.period && (new_number s.number ss && is_table ss))

tested_table : (ss : List Stream) → So (is_table ss) → IsTable ss
unfolding is_table
tested_table [] tested = record { well_formed = λ s m. absurd (not-mem-nil m); differ = Nodup-nil }
tested_table (s ∷ ss) tested =
    let low : So (leb 1 s.deadline) × So (leb s.deadline s.period && (new_number s.number ss && is_table ss)) = both tested in
    let high : So (leb s.deadline s.period) × So (new_number s.number ss && is_table ss) = both low.1 in
    let new : So (new_number s.number ss) × So (is_table ss) = both high.1 in
    let rest = tested_table ss new.1 in
    record {
      well_formed = (forall_mem-cons well_formed_prop).1 ((leb-true 1 s.deadline low.0, leb-true s.deadline s.period high.0), rest.well_formed);
      differ = Nodup-cons.1 (is_new s.number ss new.0, rest.differ);
    }

-- T is a busy length
unfoldable pub is_busy : ℕ → List Stream → ℕ → Bool
unfolding most_in
is_busy b ss T = leb 1 T && leb (most_in ss T) (b * T)

tested_busy : (b T : ℕ) (ss : List Stream) → So (is_busy b ss T) → IsBusy b ss T
unfolding is_busy
tested_busy b T ss tested =
    let split : So (leb 1 T) × So (leb (most_in ss T) (b * T)) = both tested in
    (leb-true 1 T split.0, leb-true (most_in ss T) (b * T) split.1)

-- the demand rule, on a busy length
unfoldable pub keeps_demand : ℕ → List Stream → ℕ → Bool
unfolding all_below demand packets_by dec_le
keeps_demand b ss T = all_below (λ t. leb (demand ss (t + 1)) (b * (t + 1))) T

-- where the tests pass that the streams are a table, T a busy length, and the demand of t at most b × t for 1 to T, the demand rule holds
pub tested_demand : (b T : ℕ) (ss : List Stream) → So (is_table ss) → So (is_busy b ss T) → So (keeps_demand b ss T) → DemandRule b ss
unfolding keeps_demand
tested_demand b T ss table busy tested =
    busy_settles_demand b T ss (tested_table ss table).well_formed (tested_busy b T ss busy)
    (λ t some close.
    let e : t - 1 + 1 ≡ t = omega arith in
    rw e at (leb-true (demand ss (t - 1 + 1)) (b * (t - 1 + 1)) (each_below (λ k. leb (demand ss (k + 1)) (b * (k + 1))) T tested (t - 1) (omega arith))))

-- the start rule, on a busy length from the first due time on, which has to be after now
unfoldable pub keeps_start : ℕ → ℕ → List Stream → ℕ → Bool
unfolding all_below future packets_by first_due dec_le
keeps_start b now ss T = ltb now (first_due ss) && all_below (λ t. leb (future ss (first_due ss + t)) (b * (first_due ss + t - now))) T

-- a table that is ready at now
unfoldable pub is_ready : ℕ → ℕ → List Stream → ℕ → Bool
unfolding is_table is_busy keeps_demand keeps_start
is_ready b now ss T = is_table ss && (is_busy b ss T && (keeps_demand b ss T && keeps_start b now ss T))

-- where the test of a ready table is passed, with any T, the table is ready at now ..
pub tested_ready : (b now T : ℕ) (ss : List Stream) → So (is_ready b now ss T) → IsReady b now ss
unfolding is_ready keeps_start
tested_ready b now T ss tested =
    let one : So (is_table ss) × So (is_busy b ss T && (keeps_demand b ss T && keeps_start b now ss T)) = both tested in
    let two : So (is_busy b ss T) × So (keeps_demand b ss T && keeps_start b now ss T) = both one.1 in
    let three : So (keeps_demand b ss T) × So (keeps_start b now ss T) = both two.1 in
    let four : So (ltb now (first_due ss)) × So (all_below (λ t. leb (future ss (first_due ss + t)) (b * (first_due ss + t - now))) T) = both three.1 in
    let all = (tested_table ss one.0).well_formed in
    let after : now < first_due ss = ltb-true now (first_due ss) four.0 in
    record {
      table = tested_table ss one.0;
      demand_rule = tested_demand b T ss one.0 two.0 three.0;
      start_rule =
          fits_start_rule b now ss
          (busy_settles_start b T ss all (tested_busy b T ss two.0) now (first_due ss) (omega arith) (first_due_before ss)
          (λ t on close.
          let e : first_due ss + (t - first_due ss) ≡ t = omega arith in
          rw e at
          (leb-true (future ss (first_due ss + (t - first_due ss))) (b * (first_due ss + (t - first_due ss) - now))
          (each_below (λ k. leb (future ss (first_due ss + k)) (b * (first_due ss + k - now))) T four.1 (t - first_due ss) (omega arith)))));
      due_after = λ s m. lt_of_lt_of_le after (first_due_before ss s m);
    }

-- .. and T is a busy length of it
pub is_ready_busy : (b now T : ℕ) (ss : List Stream) → So (is_ready b now ss T) → IsBusy b ss T
unfolding is_ready
is_ready_busy b now T ss tested =
    let one : So (is_table ss) × So (is_busy b ss T && (keeps_demand b ss T && keeps_start b now ss T)) = both tested in
    let two : So (is_busy b ss T) × So (keeps_demand b ss T && keeps_start b now ss T) = both one.1 in
    tested_busy b T ss two.0
