-- The two rules are exact: each fails just where no plan serves the table.
use Rattle.std.specs.Prelude.{◌≡◌, ◌↔◌}
use Rattle.std.proofs.Math.Path.{refl}
use Rattle.std.proofs.Common.{subst, inl}
use Rattle.std.proofs.Math.Logic.{∥∥₁_elim}
use mathlib.Core.List.{List, [], ◌∷◌, map}
use Prim.Native.Nat.{ℕ, zero, suc, ◌+◌, ◌-◌, ◌≤◌}
use Rattle.std.proofs.Math.Bridge.{le_prop}
use native.Mathlib.Omega.{arith}
use Rattle.rules.specs.Streams.{Stream, IsTable, at_zero}
use Rattle.rules.specs.Demand.{future, demand, DemandRule, StartRule, DueAfter, IsLazyStart}
use Rattle.rules.specs.Plans.{Servable}
use Rattle.rules.specs.Runs.{State, state_at, IsLazyRun, run_plan}
use Rattle.rules.proofs.Facts.Division.{ceil_least, ceil_positive}
use Rattle.rules.proofs.Facts.Sums.{at_zero_well_formed, demand_rule_fits, fits_demand_rule, fits_start_rule, fits_due_after}
use Rattle.rules.specs.Ready.{Fits, IsReady, IsReadyState}
use Rattle.rules.proofs.Facts.RoundKept.{ready_fits}
use Rattle.rules.proofs.Facts.SentInTime.{ready_after}
use Rattle.rules.proofs.Facts.Plans.{served_start_rule}
use Rattle.rules.proofs.Facts.LazyServes.{lazy_is_plan, lazy_serves}

-- with the cap at x, x itself is the lazy start where everything fits at x
fits_is_lazy : (b x : ℕ) (ss : List Stream) → 1 ≤ b → Fits b x ss → IsLazyStart b x ss x
fits_is_lazy b x ss positive fits =
    record {
      one_of_them = inl refl;
      by_cap = omega arith;
      by_demand = λ t some. omega (arith, ceil_least (future ss t) b (t - x) positive (fits t), ceil_positive (future ss t) b positive some);
    }

module _ (b now : ℕ) (ss : List Stream) (positive : 1 ≤ b) (ready : IsReady b now ss) where
  -- a round at every moment: lazy rounds with a gap of 1
  every_moment : State
  every_moment = record { now = now; cap = now; table = ss }

  moment_ready : IsReadyState b every_moment
  unfolding every_moment
  moment_ready = record { ready = ready; open_cap = omega arith }

  record IsAt (n : ℕ) (st : State) : Type 0 where
    is_ready : IsReadyState b st
    now_at : st.now ≡ now + n
    cap_at : st.cap ≡ now + n

  lazy_there : (n : ℕ) (st : State) → IsAt n st → IsLazyStart b st.cap st.table (now + n)
  lazy_there n st there =
      let fits_now = ready_fits b st.now st.table there.is_ready.ready in
      let fits : Fits b (now + n) st.table = subst (λ (x : ℕ). Fits b x st.table) there.now_at fits_now in
      rw there.cap_at (fits_is_lazy b (now + n) st.table positive fits)

  at_moment : (n : ℕ) → IsAt n (state_at b 1 every_moment (λ k. now + k) n)
  unfolding state_at every_moment
  at_moment zero = record { is_ready = moment_ready; now_at = omega arith; cap_at = omega arith }
  at_moment (suc n) =
      let st = state_at b 1 every_moment (λ k. now + k) n in
      record {
        is_ready = ready_after b 1 positive (omega arith) st (at_moment n).is_ready (now + n) (lazy_there n st (at_moment n));
        now_at = omega arith;
        cap_at = omega arith;
      }

  moments_are_lazy : IsLazyRun b 1 every_moment (λ k. now + k)
  moments_are_lazy n = lazy_there n (state_at b 1 every_moment (λ k. now + k) n) (at_moment n)

  -- so a plan exists
  pub ready_servable : Servable b now ss
  unfolding every_moment
  ready_servable =
      ∣ (
        run_plan b 1 every_moment (λ k. now + k),
        lazy_is_plan b 1 positive (omega arith) every_moment moment_ready (λ k. now + k) moments_are_lazy,
        lazy_serves b 1 positive (omega arith) every_moment moment_ready (λ k. now + k) moments_are_lazy,
      ) ∣₁

-- Where the demand rule holds, the start rule fails exactly if no plan from now serves the table. Every unserved packet has to be due after
-- now: with B = 2 and one stream of P = D = 1 due at now, h(t) = t - now + 1 ≤ 2 × (t - now) for all t > now, and no plan from now serves it.
module _ (b now : ℕ) (ss : List Stream) (positive : 1 ≤ b) (table : IsTable ss) (rule : DemandRule b ss) (later : DueAfter now ss) where
  -- of a table under the demand rule, all due after now, the start rule holds at now exactly if some plan from now serves it ..
  pub start_exact : StartRule b now ss ↔ Servable b now ss
  start_exact = (
    λ start_rule. ready_servable b now ss positive (record { table = table; demand_rule = rule; start_rule = start_rule; due_after = later }),
    λ servable t after. ∥∥₁_elim servable le_prop (λ w. served_start_rule b now w.0 w.1 ss table w.2 t),
  )

  -- .. and fails exactly if none does
  pub start_fails_exactly : (StartRule b now ss → ⊥) ↔ (Servable b now ss → ⊥)
  start_fails_exactly = (λ fails servable. fails (start_exact.1 servable), λ none start_rule. none (start_exact.0 start_rule))

module _ (ss : List Stream) (table : IsTable ss) where
  numbers_stay : (xs : List Stream) → map (λ (x : Stream). x.number) (map at_zero xs) ≡ map (λ (x : Stream). x.number) xs
  numbers_stay [] = refl
  numbers_stay (x ∷ xs) = rw (numbers_stay xs)

  at_zero_is_table : IsTable (map at_zero ss)
  at_zero_is_table = record { well_formed = at_zero_well_formed ss table.well_formed; differ = rw (numbers_stay ss) table.differ }

  demand_stays : (xs : List Stream) (t : ℕ) → demand (map at_zero xs) t ≡ demand xs t
  unfolding demand
  demand_stays [] t = refl
  demand_stays (x ∷ xs) t = rw (demand_stays xs t)

  -- the demand rule fails exactly if no plan from 0 serves the table with every unserved packet released at 0
  module _ (b : ℕ) (positive : 1 ≤ b) where
    -- the demand rule holds exactly if some plan from 0 serves the table with every unserved packet released at 0 ..
    pub demand_exact : DemandRule b ss ↔ Servable b 0 (map at_zero ss)
    demand_exact = (
      λ rule.
          let fits = demand_rule_fits b ss table.well_formed rule in
          ready_servable b 0 (map at_zero ss) positive
          (record {
            table = at_zero_is_table;
            demand_rule = λ t some. rw (demand_stays ss t) (rule t some);
            start_rule = fits_start_rule b 0 (map at_zero ss) fits;
            due_after = fits_due_after b 0 (map at_zero ss) at_zero_is_table.well_formed fits;
          }),
      λ servable. fits_demand_rule b ss (λ t. ∥∥₁_elim servable le_prop (λ w. served_start_rule b 0 w.0 w.1 (map at_zero ss) at_zero_is_table w.2 t)),
    )

    -- .. and fails exactly if none does
    pub demand_fails_exactly : (DemandRule b ss → ⊥) ↔ (Servable b 0 (map at_zero ss) → ⊥)
    demand_fails_exactly = (λ fails servable. fails (demand_exact.1 servable), λ none rule. none (demand_exact.0 rule))
