-- The search for the next start: what the lengths looked at so far show, and what follows once all of them have been looked at.
use Rattle.std.specs.Prelude.{◌≡◌, refl}
use Rattle.std.proofs.Common.{subst, inl, le_trans, mul-le-mul_left, lt_irrefl}
use Rattle.std.proofs.Math.Path.{sym}
use mathlib.Core.List.{List, Mem}
use Prim.Native.Nat.{ℕ, suc, ◌+◌, ◌-◌, ◌*◌, ◌≤◌, ◌<◌, min}
use Rattle.std.proofs.Math.Decide.{dec_le, dec_lt}
use native.Mathlib.Omega.{arith}
use Rattle.rules.specs.Streams.{Stream, due}
use Rattle.rules.specs.Demand.{StartRule, future, ceil, IsLazyStart}
use Rattle.rules.proofs.Facts.Division.{ceil_least, ceil_enough}
use Rattle.rules.proofs.Facts.Sums.{fits_start_rule, future_before_all}
use Rattle.rules.specs.Ready.{AllWellFormed, Fits, IsBusy}
use Rattle.rules.proofs.Facts.Busy.{busy_settles_start}
use Rattle.rules.proofs.Facts.LazyStart.{least_of, latest, latest_some, lazy_start, IsFirstDue, lazy_start_is_lazy}
use Rattle.table.specs.Lengths.{IsNextStart}

-- what the lengths from `first` on and before t show: the start rule holds at each, and `start` is the least of what they and the cap allow
pub record Looked (b x cap : ℕ) (ss : List Stream) (first t start : ℕ) : Type 0 where
  pub fit : (u : ℕ) → first ≤ u → u < t → future ss u ≤ b * (u - x)
  pub least : start ≡ least_of (latest b cap ss) cap first (t - first)
  pub on : x ≤ start

-- with no length looked at yet the start found is the cap, if that is now or later
pub looked_none : (b x cap : ℕ) (ss : List Stream) (first : ℕ) → x ≤ cap → Looked b x cap ss first first cap
unfolding least_of
looked_none b x cap ss first low =
    let none : first - first ≡ 0 = omega arith in
    record { fit = λ u from before. absurd (lt_irrefl u (omega arith)); least = rw none refl; on = low }

module _ (b x cap : ℕ) (ss : List Stream) (first t : ℕ) (positive : 1 ≤ b) (needed : ℕ) (parts : needed ≡ ceil (future ss t) b) where
  least_step : {start r : ℕ} → first ≤ t → 0 < future ss t → start ≡ least_of (latest b cap ss) cap first (t - first) → r ≡ min (t - needed) start
      → r ≡ least_of (latest b cap ss) cap first (t + 1 - first)
  unfolding least_of
  least_step {start} {r} from some least e =
      let one : t + 1 - first ≡ suc (t - first) = omega arith in
      let back : first + (t - first) ≡ t = omega arith in
      rw (one, back, latest_some b cap ss t some, sym parts, sym least) e

  -- one length more, at which the packets due by then leave a start at x or later
  pub looked_more : {start r : ℕ} → first ≤ t → 0 < future ss t → x + needed ≤ t → Looked b x cap ss first t start → r ≡ min (t - needed) start
      → Looked b x cap ss first (t + 1) r
  looked_more {start} {r} from some room looked e =
      record { fit = λ u on before. fit u on before (dec_lt u t); least = least_step from some looked.least e; on = omega arith }
    where
      fit : (u : ℕ) → first ≤ u → u < t + 1 → Dec (u < t) → future ss u ≤ b * (u - x)
      fit u on before (yes l) = looked.fit u on l
      fit u on before (no l) =
          let last : u ≡ t = omega arith in
          rw last (le_trans (ceil_enough (future ss t) b positive) (mul-le-mul_left b (omega arith)))

  -- a length at which they do not: the start rule fails
  pub found_none : x < t → t < x + needed → ¬ StartRule b x ss
  found_none after short rule = lt_irrefl t (omega (arith, ceil_least (future ss t) b (t - x) positive (rule t after)))

module _ (b x cap : ℕ) (ss : List Stream) (first T : ℕ) (all : AllWellFormed ss) (before : (s : Stream) → Mem s ss → first ≤ due s) where
  first_is_first : 0 < future ss first → IsFirstDue ss first
  first_is_first counts t some = (go (dec_le first t), counts)
    where
      go : Dec (first ≤ t) → first ≤ t
      go (yes on) = on
      go (no early) = omega (arith, future_before_all ss all t (λ s m. let h = before s m in omega arith))

  least_is_found : {t start : ℕ} → t ≡ first + T → start ≡ least_of (latest b cap ss) cap first (t - first) → start ≡ lazy_start b cap ss first T
  unfolding lazy_start
  least_is_found {t} end least = let e : t - first ≡ T = omega arith in rw e at least

  -- once a busy length of them has been looked at, the start found is the lazy one
  pub looked_all : {t start : ℕ} → 1 ≤ b → 1 ≤ x → x < first → IsBusy b ss T → 0 < future ss first → t ≡ first + T → Looked b x cap ss first t start
      → IsNextStart b x cap ss start
  looked_all {t} {start} positive some after busy counts end looked =
      record {
        holds = fits_start_rule b x ss fits;
        lazy = subst (IsLazyStart b cap ss) (sym (least_is_found end looked.least)) is_lazy;
        some = omega arith;
      }
    where
      fits : Fits b x ss
      fits = busy_settles_start b T ss all busy x first (omega arith) before (λ u on close. looked.fit u on (omega arith))

      is_lazy : IsLazyStart b cap ss (lazy_start b cap ss first T)
      is_lazy = lazy_start_is_lazy b cap ss x fits positive T first all busy (first_is_first counts)

-- with nothing to come the cap is the lazy start
pub nothing_due : (b x cap : ℕ) (ss : List Stream) → 1 ≤ x → x ≤ cap → ((t : ℕ) → future ss t ≡ 0) → IsNextStart b x cap ss cap
nothing_due b x cap ss some low none =
    record {
      holds = λ t _. omega (arith, none t);
      lazy = record { one_of_them = inl refl; by_cap = omega arith; by_demand = λ t counts. absurd (lt_irrefl 0 (omega (arith, none t))) };
      some = omega arith;
    }
