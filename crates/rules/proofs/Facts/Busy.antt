-- How far one has to look: the busy length settles the demand rule, the start rule and the lazy start.
use Rattle.std.specs.Prelude.{◌≡◌, ◌⊎◌, ℕ, ◌+◌, ◌-◌, ◌*◌, ◌/◌, ◌≤◌, ◌<◌}
use Rattle.std.proofs.Math.Path.{refl}
use Rattle.std.proofs.Common.{sym, subst, ◌∙◌, inl, inr, le_trans, mul-add, arith}
use mathlib.Core.List.{List, [], ◌∷◌, Mem, map}
use mathlib.Core.WellFounded.{recursion}
use Rattle.std.specs.Int.{◌∣◌}
use Rattle.std.proofs.Math.Nat.{div-eq_of_lt-le, div-mul_cancel}
use Rattle.std.proofs.Math.Decide.{dec_le, dec_lt}
use lib.WfN.{lt-wf_rel}
use Rattle.rules.specs.Streams.{Stream, due, at_zero}
use Rattle.rules.specs.Demand.{packets_by, demand, future, DemandRule, ceil}
use Rattle.rules.proofs.Facts.Division.{packets_quotient}
use Rattle.rules.proofs.Facts.Sums.{first_of, rest_of, future_window, future_before_all, demand_at_zero, at_zero_well_formed}
use Rattle.rules.specs.Ready.{AllWellFormed, Fits, most_in, IsBusy}

-- a sum that from `from` on grows by at most b × T in T units, and keeps to b × (t - x) in the first T of them, keeps to it from there on
pub settled : (f : ℕ → ℕ) (b T x from : ℕ) → 1 ≤ T → x ≤ from → ((t : ℕ) → from ≤ t → f (t + T) ≤ f t + b * T)
    → ((t : ℕ) → from ≤ t → t < from + T → f t ≤ b * (t - x)) → (t : ℕ) → from ≤ t → f t ≤ b * (t - x)
settled f b T x from some before grows near t = recursion lt-wf_rel.wf {C = λ t. from ≤ t → f t ≤ b * (t - x)} t step
  where
    step : (t : ℕ) → ((u : ℕ) → u < t → from ≤ u → f u ≤ b * (u - x)) → from ≤ t → f t ≤ b * (t - x)
    step t earlier on = go (dec_lt t (from + T))
      where
        go : Dec (t < from + T) → f t ≤ b * (t - x)
        go (yes close) = near t on close
        go (no far) =
            let back : t - T + T ≡ t = omega arith in
            let split : t - x ≡ t - T - x + T = omega arith in
            let growth : f t ≤ f (t - T) + b * T = subst (λ (u : ℕ). f u ≤ f (t - T) + b * T) back (grows (t - T) (omega arith)) in
            rw (split, mul-add) (omega (arith, earlier (t - T) (omega arith) (omega arith)))

most_in_at_zero : (ss : List Stream) (T : ℕ) → most_in (map at_zero ss) T ≡ most_in ss T
unfolding most_in
most_in_at_zero [] T = refl
most_in_at_zero (s ∷ ss) T = rw (most_in_at_zero ss T)

-- of well-formed streams, T units more add at most W(T), the sum of ⌈T/P⌉, to the demand
pub demand_window : (ss : List Stream) → AllWellFormed ss → (t T : ℕ) → demand ss (t + T) ≤ demand ss t + most_in ss T
demand_window ss all t T =
    rw (demand_at_zero ss (t + T), demand_at_zero ss t, most_in_at_zero ss T) at (future_window (map at_zero ss) (at_zero_well_formed ss all) t T)

module _ (b T : ℕ) (ss : List Stream) (all : AllWellFormed ss) (busy : IsBusy b ss T) where
  -- Annex 4.10: with a busy length T, the demand rule for the lengths 1 to T is the demand rule
  pub busy_settles_demand : ((t : ℕ) → 1 ≤ t → t ≤ T → demand ss t ≤ b * t) → DemandRule b ss
  busy_settles_demand near t some =
      let plain : t - 0 ≡ t = omega arith in
      rw plain at
      (settled (demand ss) b T 0 1 busy.0 (omega arith) (λ u after. omega (arith, demand_window ss all u T, busy.1))
      (λ u on close. let e : u - 0 ≡ u = omega arith in rw e (near u on (omega arith))) t some)

  -- with a busy length T, T units more add at most b × T to h(t)
  pub busy_growth : (t : ℕ) → future ss (t + T) ≤ future ss t + b * T
  busy_growth t = omega (arith, future_window ss all t T, busy.1)

  -- Annex 4.11: with x at most `from` and no due time before `from`: where h(t) ≤ b × (t - x) for the T times from there on, it is so for every t
  pub busy_settles_start : (x from : ℕ) → x ≤ from → ((s : Stream) → Mem s ss → from ≤ due s)
      → ((t : ℕ) → from ≤ t → t < from + T → future ss t ≤ b * (t - x)) → Fits b x ss
  busy_settles_start x from before late near t = go (dec_lt t from)
    where
      go : Dec (t < from) → future ss t ≤ b * (t - x)
      go (yes early) = omega (arith, future_before_all ss all t (λ s m. let h = late s m in omega arith))
      go (no on) = settled (future ss) b T x from busy.0 before (λ u after. busy_growth u) near t (omega arith)

module _ (F : ℕ) (positive : 1 ≤ F) where
  -- where P divides F, F units hold F / P due times, however they lie
  periods_in : (p d : ℕ) → 1 ≤ d → d ≤ p → p ∣ F → ceil F p ≡ packets_by p d F
  periods_in p d low high divides =
      let whole : F / p * p ≡ F = div-mul_cancel p divides in
      let up : ceil F p ≡ F / p = div-eq_of_lt-le p (omega (arith, whole)) (omega (arith, whole)) in
      let by : (F + p - d) / p ≡ F / p = div-eq_of_lt-le p (omega (arith, whole)) (omega (arith, whole)) in
      up ∙ (sym by ∙ sym (packets_quotient p (le_trans low high) d F))

  most_in_frame : (ss : List Stream) → AllWellFormed ss → ((s : Stream) → Mem s ss → s.period ∣ F) → most_in ss F ≡ demand ss F
  unfolding most_in demand
  most_in_frame [] all divide = refl
  most_in_frame (s ∷ ss) all divide =
      rw (periods_in s.period s.deadline (first_of all).0 (first_of all).1 (first_of divide), most_in_frame ss (rest_of all) (rest_of divide))

  -- Annex 4.10: with each P dividing F, F is a busy length, or the demand rule fails at F
  pub frame_busy : (b : ℕ) (ss : List Stream) → AllWellFormed ss → ((s : Stream) → Mem s ss → s.period ∣ F)
      → IsBusy b ss F ⊎ (b * F < demand ss F)
  frame_busy b ss all divide = go (dec_le (most_in ss F) (b * F))
    where
      go : Dec (most_in ss F ≤ b * F) → IsBusy b ss F ⊎ (b * F < demand ss F)
      go (yes fits) = inl (positive, fits)
      go (no over) = inr (omega (arith, most_in_frame ss all divide))

  -- Annex 4.11: so under the demand rule F is a busy length
  pub frame_busy_under_rule : (b : ℕ) (ss : List Stream) → AllWellFormed ss → ((s : Stream) → Mem s ss → s.period ∣ F)
      → DemandRule b ss → IsBusy b ss F
  frame_busy_under_rule b ss all divide rule = (positive, rw (most_in_frame ss all divide) (rule F positive))
