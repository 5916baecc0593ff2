-- Lazy rounds for ever exist: from a ready state with a busy length, the computed lazy starts are such a run.
use Rattle.std.specs.Prelude.{◌≡◌, List, [], ◌∷◌}
use Rattle.std.proofs.Math.Path.{refl, ap, subst⁻¹}
use Prim.Native.Nat.{ℕ, zero, suc, ◌≤◌}
use Rattle.rules.specs.Streams.{Stream}
use Rattle.rules.specs.Demand.{ceil, IsLazyStart}
use Rattle.rules.specs.Slots.{slots, after_round}
use Rattle.rules.specs.Runs.{State, state_at, IsLazyRun, after}
use Rattle.rules.specs.Ready.{most_in, IsBusy, IsReadyState}
use Rattle.rules.proofs.Facts.LazyStart.{lazy_start, lazy_start_is_lazy, first_due, first_due_is_first}
use Rattle.rules.proofs.Facts.RoundKept.{passed_table, passed_elim, ready_fits}
use Rattle.rules.proofs.Facts.SentInTime.{ready_after}

-- the lazy start of a state, computed with busy length T
unfoldable pub start_from : ℕ → ℕ → State → ℕ
start_from b T st = lazy_start b st.cap st.table (first_due st.table) T

-- the state before round n
unfoldable pub lazy_state : ℕ → ℕ → ℕ → State → ℕ → State
lazy_state b gap T st zero = st
lazy_state b gap T st (suc n) = let before = lazy_state b gap T st n in after b gap before (start_from b T before)

-- the start of round n
unfoldable pub lazy_starts : ℕ → ℕ → ℕ → State → ℕ → ℕ
lazy_starts b gap T st n = start_from b T (lazy_state b gap T st n)

-- a round leaves a busy length busy, since it changes no period
busy_after : (b s T : ℕ) (ss : List Stream) → IsBusy b ss T → IsBusy b (after_round b s ss) T
unfolding after_round most_in
busy_after b s T ss busy = (busy.0, rw (go ss) busy.1)
  where
    go : (xs : List Stream) → most_in (passed_table (slots b s ss) xs) T ≡ most_in xs T
    go [] = refl
    go (x ∷ xs) = rw (go xs, passed_elim (slots b s ss) (λ y. ceil T y.period ≡ ceil T x.period) x (λ _. refl) (λ _. refl))

module _ (b gap T : ℕ) (positive : 1 ≤ b) (gap_positive : 1 ≤ gap) where
  start_is_lazy : (st : State) → IsReadyState b st → IsBusy b st.table T → IsLazyStart b st.cap st.table (start_from b T st)
  unfolding start_from
  start_is_lazy st is_ready busy =
      let all = is_ready.ready.table.well_formed in
      let fits = ready_fits b st.now st.table is_ready.ready in
      let is_first = first_due_is_first st.table all in
      lazy_start_is_lazy b st.cap st.table st.now fits positive T (first_due st.table) all busy is_first

  module _ (st : State) (is_ready : IsReadyState b st) (busy : IsBusy b st.table T) where
    record IsKept (at : State) : Type 0 where
      ready : IsReadyState b at
      busy_still : IsBusy b at.table T

    kept : (n : ℕ) → IsKept (lazy_state b gap T st n)
    unfolding lazy_state
    kept zero = record { ready = is_ready; busy_still = busy }
    kept (suc n) =
        let before = lazy_state b gap T st n in
        let lazy = start_is_lazy before (kept n).ready (kept n).busy_still in
        record {
          ready = ready_after b gap positive gap_positive before (kept n).ready (start_from b T before) lazy;
          busy_still = busy_after b (start_from b T before) T before.table (kept n).busy_still;
        }

    same_state : (n : ℕ) → state_at b gap st (lazy_starts b gap T st) n ≡ lazy_state b gap T st n
    unfolding state_at lazy_state lazy_starts
    same_state zero = refl
    same_state (suc n) = ap (λ (before : State). after b gap before (start_from b T (lazy_state b gap T st n))) (same_state n)

    -- the computed starts are lazy rounds for ever
    pub lazy_run_exists : IsLazyRun b gap st (lazy_starts b gap T st)
    unfolding lazy_starts
    lazy_run_exists n =
        subst⁻¹ (λ (at : State). IsLazyStart b at.cap at.table (start_from b T (lazy_state b gap T st n))) (same_state n)
        (start_is_lazy (lazy_state b gap T st n) (kept n).ready (kept n).busy_still)
