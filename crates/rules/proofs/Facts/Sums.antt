-- Sums over a table: demand and future demand as t grows, and the start rule with nothing cut off.
use Rattle.std.specs.Prelude.{◌≡◌, refl, ℕ, ◌+◌, ◌-◌, ◌*◌, ◌≤◌, ◌<◌}
use Rattle.std.proofs.Common.{subst, le_trans, mul-zero, arith}
use Rattle.std.proofs.Math.Logic.{∥∥₁_elim}
use mathlib.Core.HLevel.{×_prop}
use mathlib.Core.List.{List, [], ◌∷◌, Mem, Memᴰ, mem-cons_self, mem-cons_of_mem, mem-map, map}
use Rattle.std.proofs.Math.Bridge.{le_prop}
use Rattle.std.proofs.Math.Decide.{dec_lt}
use Rattle.rules.specs.Streams.{Stream, due, WellFormed, at_zero}
use Rattle.rules.specs.Demand.{packets_by, demand, future, DemandRule, StartRule, DueAfter}
use Rattle.rules.proofs.Facts.Division.{packets_none, packets_mono, window, counted_iff_due}
use Rattle.rules.specs.Ready.{AllWellFormed, Fits, most_in}

-- what holds of a list's elements holds of the first, and of the others
pub first_of : {P : Stream → Type 0} {s : Stream} {ss : List Stream} → ((x : Stream) → Mem x (s ∷ ss) → P x) → P s
first_of {P} {s} {ss} all = all s mem-cons_self

-- what holds of all streams of a list holds of those behind the first
pub rest_of : {P : Stream → Type 0} {s : Stream} {ss : List Stream} → ((x : Stream) → Mem x (s ∷ ss) → P x) → (x : Stream) → Mem x ss → P x
rest_of {P} {s} {ss} all x m = all x (mem-cons_of_mem s m)

-- the period of a well-formed stream is at least 1
pub period_positive : (s : Stream) → WellFormed s → 1 ≤ s.period
period_positive s w = le_trans w.0 w.1

-- of well-formed streams, T units more add at most W(T), the sum of ⌈T/P⌉, to h(t)
pub future_window : (ss : List Stream) → AllWellFormed ss → (t T : ℕ) → future ss (t + T) ≤ future ss t + most_in ss T
unfolding future most_in
future_window [] all t T = omega arith
future_window (s ∷ ss) all t T =
    omega (arith, window s.period (period_positive s (first_of all)) (due s) t T, future_window ss (rest_of all) t T)

-- of well-formed streams, h(t) never falls as t grows
pub future_mono : (ss : List Stream) → AllWellFormed ss → (t t' : ℕ) → t ≤ t' → future ss t ≤ future ss t'
unfolding future
future_mono [] all t t' le = omega arith
future_mono (s ∷ ss) all t t' le =
    omega (arith, packets_mono s.period (period_positive s (first_of all)) (due s) t t' le, future_mono ss (rest_of all) t t' le)

-- the demand is the future demand with every release at 0
pub demand_at_zero : (ss : List Stream) (t : ℕ) → future (map at_zero ss) t ≡ demand ss t
unfolding future demand
demand_at_zero [] t = refl
demand_at_zero (s ∷ ss) t =
    let e : 0 + s.deadline ≡ s.deadline = omega arith in rw (e, demand_at_zero ss t)

-- of well-formed streams, h(t) is 0 where every unserved packet is due after t
pub future_before_all : (ss : List Stream) → AllWellFormed ss → (t : ℕ) → ((s : Stream) → Mem s ss → t < due s) → future ss t ≡ 0
unfolding future
future_before_all [] all t late = refl
future_before_all (s ∷ ss) all t late =
    omega (arith, packets_none s.period (period_positive s (first_of all)) (due s) t (first_of late), future_before_all ss (rest_of all) t (rest_of late))

-- a packet that counts
pub future_counts : (ss : List Stream) → AllWellFormed ss → (s : Stream) → Mem s ss → (t : ℕ) → due s ≤ t → 0 < future ss t
unfolding future
future_counts ss all s m t early = ∥∥₁_elim m le_prop (λ place. go ss all place)
  where
    here : (x : Stream) → WellFormed x → due x ≤ t → 0 < packets_by x.period (due x) t
    here x w in_time = (counted_iff_due x.period (period_positive x w) (due x) t 0).1 (omega arith)

    go : (ss : List Stream) → AllWellFormed ss → Memᴰ s ss → 0 < future ss t
    go [] all x'' = elim x'' [ ]
    go (x ∷ xs) all (Memᴰ.head e) = omega (arith, here x (first_of all) (subst (λ (y : Stream). due y ≤ t) e early))
    go (x ∷ xs) all (Memᴰ.tail place) = omega (arith, go xs (rest_of all) place)

-- where everything fits at x, the start rule holds at x ..
pub fits_start_rule : (b x : ℕ) (ss : List Stream) → Fits b x ss → StartRule b x ss
fits_start_rule b x ss fits t later = fits t

-- .. and every unserved packet, of well-formed streams, is due after x ..
pub fits_due_after : (b x : ℕ) (ss : List Stream) → AllWellFormed ss → Fits b x ss → DueAfter x ss
fits_due_after b x ss all fits s m = go (dec_lt x (due s))
  where
    go : Dec (x < due s) → x < due s
    go (yes later) = later
    go (no early) =
        let none : due s - x ≡ 0 = omega arith in
        let zero_room : future ss (due s) ≤ 0 = rw (none, mul-zero) at (fits (due s)) in
        omega (arith, future_counts ss all s m (due s) (omega arith))

-- .. and where these two hold of well-formed streams, everything fits at x
pub start_rule_fits : (b x : ℕ) (ss : List Stream) → AllWellFormed ss → StartRule b x ss → DueAfter x ss → Fits b x ss
start_rule_fits b x ss all rule later t = go (dec_lt x t)
  where
    go : Dec (x < t) → future ss t ≤ b * (t - x)
    go (yes after) = rule t after
    go (no before) = omega (arith, future_before_all ss all t (λ s m. let h = later s m in omega arith))

-- what holds of every image holds of every element of the list of images
pub all_map : {A B : Type 0} (P : B → Type 0) → ((x : B) → IsProp (P x)) → (f : A → B) (xs : List A)
    → ((x : A) → Mem x xs → P (f x)) → (y : B) → Mem y (map f xs) → P y
all_map P prop f xs all y m = ∥∥₁_elim (mem-map.0 m) (prop y) (λ w. subst P w.2 (all w.0 w.1))

-- a stream is well formed in one way only
pub well_formed_prop : (s : Stream) → IsProp (WellFormed s)
well_formed_prop s = ×_prop le_prop le_prop

-- well-formed streams stay so with every unserved packet released at 0
pub at_zero_well_formed : (ss : List Stream) → AllWellFormed ss → AllWellFormed (map at_zero ss)
at_zero_well_formed ss all = all_map WellFormed well_formed_prop at_zero ss all

-- the demand rule is the start rule of the table with every release and the moment at 0
pub demand_rule_fits : (b : ℕ) (ss : List Stream) → AllWellFormed ss → DemandRule b ss → Fits b 0 (map at_zero ss)
demand_rule_fits b ss all rule =
    start_rule_fits b 0 (map at_zero ss) (at_zero_well_formed ss all)
    (λ t some. let e : t - 0 ≡ t = omega arith in rw (demand_at_zero ss t, e) (rule t some))
    (all_map (λ s. 0 < due s) (λ s. le_prop) at_zero ss (λ s m. let w = all s m in omega arith))

-- where everything fits at 0 with every unserved packet released at 0, the demand rule holds
pub fits_demand_rule : (b : ℕ) (ss : List Stream) → Fits b 0 (map at_zero ss) → DemandRule b ss
fits_demand_rule b ss fits t some = let e : t - 0 ≡ t = omega arith in rw (demand_at_zero ss t, e) at (fits t)
