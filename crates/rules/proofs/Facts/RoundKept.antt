-- A round keeps the table sound: held between now and the lazy start, with a choice as the slots are, it keeps the start rule, leaves
-- nothing due by its end, and the releases stay near.
use Rattle.std.specs.Prelude.{◌≡◌, ◌⊎◌, ◌↔◌, ℕ, ◌+◌, ◌-◌, ◌*◌, ◌≤◌, ◌<◌, length}
use Rattle.std.proofs.Math.Path.{refl}
use Rattle.std.proofs.Common.{subst, inl, inr, le_trans, mul-add, mul-zero, mul-le-mul_left, arith}
use Rattle.std.proofs.Math.Logic.{ite, ∥∥₁_elim, ∥∥₁_prop}
use Rattle.std.proofs.Math.Logic.Dec.{and as Dec-and}
use mathlib.Core.List.Pairwise
use mathlib.Core.List.{List, [], ◌∷◌, Mem, map, filter, mem-filter, mem-map, mem-map_of_mem}
use mathlib.Mathlib.Data.List.Nodup.{inj_on_of_Nodup-map}
use Rattle.std.proofs.Math.Bridge.{le_prop}
use Rattle.std.proofs.Math.Decide.{dec_le, dec_lt}
use Rattle.rules.specs.Streams.{Stream, packet, due, MayRide, WellFormed, IsTable}
use Rattle.rules.specs.Demand.{packets_by, demand, future, DemandRule, DueAfter, IsLazyStart}
use Rattle.rules.specs.Slots.{slots, next, Served, served, passed, after_round}
use Rattle.rules.proofs.Facts.Division.{packets_none, packets_after_first, packets_later}
use Rattle.rules.proofs.Facts.Sums.{first_of, rest_of, all_map, well_formed_prop, period_positive, demand_at_zero}
use Rattle.rules.specs.Ready.{AllWellFormed, Fits, IsReady}
use Rattle.rules.proofs.Facts.Sums.{demand_rule_fits, fits_due_after, fits_start_rule, start_rule_fits}
use Rattle.rules.proofs.Facts.LazyStart.{lazy_fits}
use Rattle.rules.proofs.Facts.Lists.{no_longer}
use Rattle.rules.proofs.Facts.Equality.{stream_set}
use Rattle.rules.proofs.Facts.Slots.{Full, Complete, IsChoice, slots_are_choice}

-- the table after a round with these streams chosen
abbrev pub passed_table : List Stream → List Stream → List Stream
passed_table chosen ss = map (passed chosen) ss

-- a chosen stream is told by its number
pub served_iff : (ss chosen : List Stream) → IsTable ss → ((x : Stream) → Mem x chosen → Mem x ss)
    → (x : Stream) → Mem x ss → Served chosen x ↔ Mem x chosen
served_iff ss chosen table inside x m = (
  λ number. ∥∥₁_elim (mem-map.0 number) ∥∥₁_prop
      (λ (y, there, e).
      let same : y ≡ x = inj_on_of_Nodup-map stream_set (λ (z : Stream). z.number) table.differ y (inside y there) x m e in
      subst (λ (z : Stream). Mem z chosen) same there),
  λ there. mem-map_of_mem (λ (y : Stream). y.number) there,
)

-- each chosen stream due by t counts one less
future_passed : (ss chosen : List Stream) → AllWellFormed ss → (t : ℕ)
    → future (passed_table chosen ss) t + length (filter (λ (x : Stream). Dec-and (served chosen x) (dec_le (due x) t)) ss) ≡ future ss t
unfolding future Dec-and
future_passed [] chosen all t = omega arith
future_passed (x ∷ xs) chosen all t = go (served chosen x) (dec_le (due x) t) (future_passed xs chosen (rest_of all) t)
  where
    rest : List Stream
    rest = filter (λ (y : Stream). Dec-and (served chosen y) (dec_le (due y) t)) xs

    one : due x ≤ t → packets_by x.period (x.release + x.period + x.deadline) t + 1 ≡ packets_by x.period (due x) t
    one early =
        let e : x.release + x.period + x.deadline ≡ due x + x.period = omega arith in
        rw e (packets_after_first x.period (period_positive x (first_of all)) (due x) t early)

    go : (d : Dec (Served chosen x)) (e : Dec (due x ≤ t)) → future (passed_table chosen xs) t + length rest ≡ future xs t
        → packets_by (ite d (next x) x).period (due (ite d (next x) x)) t + future (passed_table chosen xs) t + length (ite (Dec-and d e) (x ∷ rest) rest)
        ≡ packets_by x.period (due x) t + future xs t
    go (yes chosen_here) (yes early) ih = omega (arith, one early, ih)
    go (yes chosen_here) (no late) ih =
        omega (
          arith,
          packets_none x.period (period_positive x (first_of all)) (due x) t (omega arith),
          packets_none x.period (period_positive x (first_of all)) (x.release + x.period + x.deadline) t (omega arith),
          ih,
        )
    go (no not_Chosen) (yes early) ih = omega (arith, ih)
    go (no not_Chosen) (no late) ih = omega (arith, ih)

-- where no stream of the table after the round counts more by t than D does by t - x, the whole counts at most the demand
future_late : (f : Stream → Stream) (ss : List Stream) (x t : ℕ)
    → ((s : Stream) → Mem s ss → packets_by (f s).period (due (f s)) t ≤ packets_by s.period s.deadline (t - x))
    → future (map f ss) t ≤ demand ss (t - x)
unfolding future demand
future_late f [] x t low = omega arith
future_late f (s ∷ ss) x t low = omega (arith, first_of low, future_late f ss x t (rest_of low))

-- what holds of a stream at its next packet if it is served, and of it as it is if not, holds of it after the round
pub passed_elim : (chosen : List Stream) (P : Stream → Type 0) (x : Stream)
    → (Served chosen x → P (next x)) → ((Served chosen x → ⊥) → P x) → P (passed chosen x)
passed_elim chosen P x if_served if_not = go (served chosen x)
  where
    go : (d : Dec (Served chosen x)) → P (ite d (next x) x)
    go (yes s) = if_served s
    go (no n) = if_not n

module _ (b s : ℕ) (ss chosen : List Stream) (table : IsTable ss) (choice : IsChoice b s ss chosen) where
  -- where b of the chosen are due by t, the round takes b off the future demand
  pub full_takes : (t : ℕ) → Full b t chosen → future (passed_table chosen ss) t + b ≤ future ss t
  full_takes t full = omega (arith, future_passed ss chosen table.well_formed t, enough, full)
    where
      counted : List Stream
      counted = filter (λ (x : Stream). Dec-and (served chosen x) (dec_le (due x) t)) ss

      enough : length (filter (λ (x : Stream). dec_le (due x) t) chosen) ≤ length counted
      enough =
          no_longer (filter (λ (x : Stream). dec_le (due x) t) chosen) counted
          (Pairwise.filter (λ (x : Stream). dec_le (due x) t) choice.distinct)
          (λ x m. let w = (mem-filter (λ (y : Stream). dec_le (due y) t)).0 m in
          (mem-filter (λ (y : Stream). Dec-and (served chosen y) (dec_le (due y) t))).1
          (choice.inside x w.0, (mem-map_of_mem (λ (y : Stream). y.number) w.0, w.1)))

  -- where every released stream due by t is chosen, a stream that is still due by t after the round is released after s
  pub all_leaves_late : DueAfter s ss → (t : ℕ) → Complete s t ss chosen
      → (x : Stream) → Mem x ss → due (passed chosen x) ≤ t → s < (passed chosen x).release
  all_leaves_late later t every x m =
      passed_elim chosen (λ y. due y ≤ t → s < y.release) x
      (λ here early. let after = later x m in let w = table.well_formed x m in omega arith)
      (λ not_here early. go not_here early (dec_le x.release s))
    where
      go : (Served chosen x → ⊥) → due x ≤ t → Dec (x.release ≤ s) → s < x.release
      go none early (yes released) = absurd (none (mem-map_of_mem (λ (y : Stream). y.number) (every x m released early)))
      go none early (no unreleased) = omega arith

  -- a round at s at which everything fits, with such a choice, leaves a table in which everything fits one later
  pub choice_keeps_fits : 1 ≤ b → DemandRule b ss → Fits b s ss → Fits b (s + 1) (passed_table chosen ss)
  choice_keeps_fits positive rule fits t = go (choice.full_or_all t)
    where
      all : AllWellFormed ss
      all = table.well_formed

      room : future (passed_table chosen ss) t + b ≤ future ss t → Dec (s < t) → future (passed_table chosen ss) t ≤ b * (t - (s + 1))
      room taken (yes later) =
          let split : t - s ≡ t - (s + 1) + 1 = omega arith in
          let bound : future ss t ≤ b * (t - (s + 1) + 1) = rw split at (fits t) in
          omega (arith, rw mul-add at bound)
      room taken (no not_later) =
          let none : t - s ≡ 0 = omega arith in
          let bound : future ss t ≤ 0 = rw (none, mul-zero) at (fits t) in
          omega arith

      late : Complete s t ss chosen
          → (x : Stream) → Mem x ss → packets_by (passed chosen x).period (due (passed chosen x)) t ≤ packets_by x.period x.deadline (t - (s + 1))
      late every x m =
          passed_elim chosen (λ y. (due y ≤ t → s < y.release) → packets_by y.period (due y) t ≤ packets_by x.period x.deadline (t - (s + 1))) x
          (λ here after. counts (next x) refl refl after (dec_le (due (next x)) t)) (λ not_here after. counts x refl refl after (dec_le (due x) t))
          (all_leaves_late (fits_due_after b s ss all fits) t every x m)
        where
          counts : (y : Stream) → y.period ≡ x.period → y.deadline ≡ x.deadline → (due y ≤ t → s < y.release) → Dec (due y ≤ t)
              → packets_by y.period (due y) t ≤ packets_by x.period x.deadline (t - (s + 1))
          counts y period deadline after (yes early) =
              rw period (packets_later x.period (period_positive x (all x m)) (due y) x.deadline (s + 1) t (omega (arith, after early)))
          counts y period deadline after (no late) =
              rw period (omega (arith, packets_none x.period (period_positive x (all x m)) (due y) t (omega arith)))

      go : Full b t chosen ⊎ Complete s t ss chosen
          → future (passed_table chosen ss) t ≤ b * (t - (s + 1))
      go (inl full) = room (full_takes t full) (dec_lt s t)
      go (inr every) =
          le_trans (future_late (passed chosen) ss (s + 1) t (late every))
          (let e : t - (s + 1) - 0 ≡ t - (s + 1) = omega arith in
          rw (demand_at_zero ss (t - (s + 1)), e) at (demand_rule_fits b ss all rule (t - (s + 1))))

module _ (chosen ss : List Stream) where
  -- numbers, periods and deadlines stay
  passed_numbers : map (λ (x : Stream). x.number) (passed_table chosen ss) ≡ map (λ (x : Stream). x.number) ss
  passed_numbers = go ss
    where
      go : (xs : List Stream) → map (λ (x : Stream). x.number) (map (passed chosen) xs) ≡ map (λ (x : Stream). x.number) xs
      go [] = refl
      go (x ∷ xs) =
          rw (go xs, passed_elim chosen (λ y. y.number ≡ x.number) x (λ _. refl) (λ _. refl))

  -- the table after a round is a table again, whichever streams were chosen
  pub passed_is_table : IsTable ss → IsTable (passed_table chosen ss)
  passed_is_table table =
      let formed = table.well_formed in
      record {
        well_formed = all_map WellFormed well_formed_prop (passed chosen) ss (λ x m. passed_elim chosen WellFormed x (λ _. formed x m) (λ _. formed x m));
        differ = rw passed_numbers table.differ;
      }

  passed_demand : (t : ℕ) → demand (passed_table chosen ss) t ≡ demand ss t
  unfolding demand
  passed_demand t = go ss
    where
      go : (xs : List Stream) → demand (map (passed chosen) xs) t ≡ demand xs t
      go [] = refl
      go (x ∷ xs) =
          rw (go xs, passed_elim chosen (λ y. packets_by y.period y.deadline t ≡ packets_by x.period x.deadline t) x (λ _. refl) (λ _. refl))

  passed_demand_rule : (b : ℕ) → DemandRule b ss → DemandRule b (passed_table chosen ss)
  passed_demand_rule b rule t some = rw (passed_demand t) (rule t some)

  -- where periods are at most span + 1 and the chosen were released by s, a release within span of now stays within span of the next now
  passed_near : (span now s : ℕ) → now ≤ s → ((x : Stream) → Mem x ss → (x.period ≤ span + 1) × (x.release ≤ now + span))
      → ((x : Stream) → Mem x ss → Served chosen x → x.release ≤ s) → (y : Stream) → Mem y (passed_table chosen ss) → y.release ≤ s + 1 + span
  passed_near span now s before near released =
      all_map (λ y. y.release ≤ s + 1 + span) (λ y. le_prop) (passed chosen) ss
      (λ x m. let w = near x m in
      passed_elim chosen (λ y. y.release ≤ s + 1 + span) x (λ here. let r = released x m here in omega arith) (λ not_here. omega arith))

module _ (b now : ℕ) (ss : List Stream) (ready : IsReady b now ss) where
  -- in a ready table everything fits at now
  pub ready_fits : Fits b now ss
  ready_fits = start_rule_fits b now ss ready.table.well_formed ready.start_rule ready.due_after

  module _ (positive : 1 ≤ b) (cap lazy s : ℕ) (is_lazy : IsLazyStart b cap ss lazy) (within : s ≤ lazy) where
    -- up to the lazy start everything fits
    pub early_fits : Fits b s ss
    early_fits t = le_trans (lazy_fits b cap ss positive lazy is_lazy t) (mul-le-mul_left b (omega arith))

    -- up to the lazy start the slots at s are a choice: for every t, b of them are due by t, or all streams released by s and due by t are among them
    pub round_choice : IsChoice b s ss (slots b s ss)
    round_choice = slots_are_choice b s ss ready.table (fits_due_after b s ss ready.table.well_formed early_fits)

    -- every packet in a round held by the lazy start may ride ..
    pub round_rides : (x : Stream) → Mem x (slots b s ss) → MayRide (packet x 0) s
    round_rides = round_choice.ride

    -- .. the table after it is ready one past its start: nothing due by the round's end is left ..
    pub round_kept : IsReady b (s + 1) (after_round b s ss)
    unfolding after_round
    round_kept =
        let fits = choice_keeps_fits b s ss (slots b s ss) ready.table round_choice positive ready.demand_rule early_fits in
        let table = passed_is_table (slots b s ss) ss ready.table in
        record {
          table = table;
          demand_rule = passed_demand_rule (slots b s ss) ss b ready.demand_rule;
          start_rule = fits_start_rule b (s + 1) (passed_table (slots b s ss) ss) fits;
          due_after = fits_due_after b (s + 1) (passed_table (slots b s ss) ss) table.well_formed fits;
        }

    -- .. and releases stay near: within span of now before, within span of the next now after, for periods up to span + 1
    pub round_near : (span : ℕ) → now ≤ s → ((x : Stream) → Mem x ss → (x.period ≤ span + 1) × (x.release ≤ now + span))
        → (y : Stream) → Mem y (after_round b s ss) → y.release ≤ s + 1 + span
    unfolding after_round
    round_near span before near =
        passed_near (slots b s ss) ss span now s before near
        (λ x m here. let r = round_choice.ride x ((served_iff ss (slots b s ss) ready.table round_choice.inside x m).0 here) in omega arith)
