-- The lazy start: there is exactly one, and the busy length bounds where to look for it.
use Rattle.std.specs.Prelude.{◌≡◌, ◌⊎◌}
use Rattle.std.proofs.Math.Path.{refl}
use Rattle.std.proofs.Common.{subst, ◌∙◌, le_antisymm, le_trans, lt_irrefl, lt_of_lt_of_le, mul-add, mul-le-mul_left}
use Rattle.std.proofs.Math.Logic.{inl, inr, ite, if_pos, if_neg, ∥∥₁_elim}
use mathlib.Core.List.Memᴰ
use mathlib.Core.List.{List, [], ◌∷◌, Mem, Memᴰ, mem-cons_self, not-mem-nil}
use mathlib.Core.WellFounded.{recursion}
use Prim.Native.Nat.{ℕ, zero, suc, ◌+◌, ◌-◌, ◌*◌, ◌≤◌, ◌<◌, min}
use Rattle.std.proofs.Math.Bridge.{le_prop}
use Rattle.std.proofs.Math.Decide.{dec_le, dec_lt}
use native.Mathlib.Omega.{arith}
use lib.WfN.{lt-wf_rel}
use Rattle.rules.specs.Streams.{Stream, due}
use Rattle.rules.specs.Demand.{Candidate, future, ceil, IsLazyStart}
use Rattle.rules.proofs.Facts.Division.{ceil_least, ceil_enough, ceil_positive}
use Rattle.rules.proofs.Facts.Sums.{future_before_all, future_counts, future_mono, rest_of}
use Rattle.rules.specs.Ready.{AllWellFormed, Fits, IsBusy}
use Rattle.rules.proofs.Facts.Busy.{busy_growth}

module _ (b cap : ℕ) (ss : List Stream) where
  at_most : (x y : ℕ) → IsLazyStart b cap ss x → IsLazyStart b cap ss y → x ≤ y
  at_most x y lazy other = go other.one_of_them
    where
      go : Candidate b cap ss y → x ≤ y
      go (inl e) = rw e lazy.by_cap
      go (inr w) = omega (arith, w.2, lazy.by_demand w.0 w.1)

  -- Annex 4.8: there is no second lazy start
  pub lazy_unique : (x y : ℕ) → IsLazyStart b cap ss x → IsLazyStart b cap ss y → x ≡ y
  lazy_unique x y lazy other = le_antisymm (at_most x y lazy other) (at_most y x other lazy)

  module _ (positive : 1 ≤ b) (s : ℕ) (lazy : IsLazyStart b cap ss s) where
    -- Annex 5.5: at the lazy start everything fits, so every unserved packet is due after it ..
    pub lazy_fits : Fits b s ss
    lazy_fits t = go (dec_lt 0 (future ss t))
      where
        go : Dec (0 < future ss t) → future ss t ≤ b * (t - s)
        go (yes some) =
            let room : ceil (future ss t) b ≤ t - s = omega (arith, lazy.by_demand t some) in
            le_trans (ceil_enough (future ss t) b positive) (mul-le-mul_left b room)
        go (no none) = omega arith

    -- .. and a start up to the cap at which everything fits is no later
    pub fits_lazy : (x : ℕ) → x ≤ cap → Fits b x ss → x ≤ s
    fits_lazy x le fits = go lazy.one_of_them
      where
        go : Candidate b cap ss s → x ≤ s
        go (inl e) = rw e le
        go (inr (t, some, e)) =
            let low : ceil (future ss t) b ≤ t - x = ceil_least (future ss t) b (t - x) positive (fits t) in
            let one = ceil_positive (future ss t) b positive some in
            omega arith

-- the least of the first n values of f from `from` on, and of cap
unfoldable pub least_of : (ℕ → ℕ) → ℕ → ℕ → ℕ → ℕ
least_of f cap from zero = cap
least_of f cap from (suc n) = min (f (from + n)) (least_of f cap from n)

-- t - ceil(h(t) / b) where h(t) > 0, else the cap
unfoldable pub latest : ℕ → ℕ → List Stream → ℕ → ℕ
latest b cap ss t = ite (dec_lt 0 (future ss t)) (t - ceil (future ss t) b) cap

-- the lazy start, looked for at the T times from the first due time on
unfoldable pub lazy_start : ℕ → ℕ → List Stream → ℕ → ℕ → ℕ
lazy_start b cap ss first T = least_of (latest b cap ss) cap first T

-- `first` is the first due time of the table, or any number if the table is empty
abbrev pub IsFirstDue : List Stream → ℕ → Type 0
IsFirstDue ss first = (t : ℕ) → 0 < future ss t → (first ≤ t) × (0 < future ss first)

module _ (f : ℕ → ℕ) (cap from : ℕ) where
  least_by_cap : (n : ℕ) → least_of f cap from n ≤ cap
  unfolding least_of
  least_by_cap zero = omega arith
  least_by_cap (suc n) = omega (arith, least_by_cap n)

  least_by_value : (n k : ℕ) → k < n → least_of f cap from n ≤ f (from + k)
  unfolding least_of
  least_by_value zero k below = elim below [ ]
  least_by_value (suc n) k below = go (least_by_value n k) (dec_lt k n)
    where
      go : (k < n → least_of f cap from n ≤ f (from + k)) → Dec (k < n) → min (f (from + n)) (least_of f cap from n) ≤ f (from + k)
      go earlier (yes l) = omega (arith, earlier l)
      go earlier (no l) = let e : k ≡ n = omega arith in rw e (omega arith)

  least_attained : (n : ℕ) → (least_of f cap from n ≡ cap) ⊎ ((k : ℕ) × (least_of f cap from n ≡ f (from + k)))
  unfolding least_of
  least_attained zero = inl refl
  least_attained (suc n) = go (dec_le (f (from + n)) (least_of f cap from n)) (least_attained n)
    where
      go : Dec (f (from + n) ≤ least_of f cap from n) → (least_of f cap from n ≡ cap) ⊎ ((k : ℕ) × (least_of f cap from n ≡ f (from + k)))
          → (min (f (from + n)) (least_of f cap from n) ≡ cap) ⊎ ((k : ℕ) × (min (f (from + n)) (least_of f cap from n) ≡ f (from + k)))
      go (yes le) rest = inr (n, omega arith)
      go (no gt) (inl e) = inl (omega arith)
      go (no gt) (inr w) = inr (w.0, omega (arith, w.1))

module _ (b cap : ℕ) (ss : List Stream) where
  -- where h(t) is above 0, the latest start that t allows is t - ceil(h(t) / b)
  pub latest_some : (t : ℕ) → 0 < future ss t → latest b cap ss t ≡ t - ceil (future ss t) b
  unfolding latest
  latest_some t some = if_pos (dec_lt 0 (future ss t)) some (t - ceil (future ss t) b) cap

  latest_none : (t : ℕ) → (0 < future ss t → ⊥) → latest b cap ss t ≡ cap
  unfolding latest
  latest_none t none = if_neg (dec_lt 0 (future ss t)) none (t - ceil (future ss t) b) cap

  module _ (x : ℕ) (fits : Fits b x ss) (positive : 1 ≤ b) where
    -- where everything fits at some x, no t - ceil(h(t) / b) is cut off at 0
    uncut : (t : ℕ) → 0 < future ss t → t - ceil (future ss t) b + ceil (future ss t) b ≡ t
    uncut t some = omega (arith, ceil_least (future ss t) b (t - x) positive (fits t), ceil_positive (future ss t) b positive some)

    module _ (T first : ℕ) (all : AllWellFormed ss) (busy : IsBusy b ss T) (is_first : IsFirstDue ss first) where
      start : ℕ
      start = lazy_start b cap ss first T

      near : (t : ℕ) → 0 < future ss t → t < first + T → start + ceil (future ss t) b ≤ t
      unfolding start lazy_start
      near t some close =
          let on = (is_first t some).0 in
          let back : first + (t - first) ≡ t = omega arith in
          let value : start ≤ latest b cap ss (first + (t - first)) = least_by_value (latest b cap ss) cap first T (t - first) (omega arith) in
          let here : start ≤ t - ceil (future ss t) b = rw (back, latest_some t some) at value in
          omega (arith, uncut t some)

      by_demand : (t : ℕ) → 0 < future ss t → start + ceil (future ss t) b ≤ t
      by_demand t = recursion lt-wf_rel.wf {C = λ t. 0 < future ss t → start + ceil (future ss t) b ≤ t} t step
        where
          step : (t : ℕ) → ((u : ℕ) → u < t → 0 < future ss u → start + ceil (future ss u) b ≤ u) → 0 < future ss t → start + ceil (future ss t) b ≤ t
          step t earlier some = go (dec_lt t (first + T))
            where
              go : Dec (t < first + T) → start + ceil (future ss t) b ≤ t
              go (yes close) = near t some close
              go (no far) =
                  let back : t - T + T ≡ t = omega arith in
                  let growth : future ss t ≤ future ss (t - T) + b * T =
                  subst (λ (u : ℕ). future ss u ≤ future ss (t - T) + b * T) back (busy_growth b T ss all busy (t - T)) in
                  let counts : 0 < future ss (t - T) = le_trans (is_first t some).1 (future_mono ss all first (t - T) (omega arith)) in
                  let parts : ceil (future ss t) b ≤ ceil (future ss (t - T)) b + T =
                  ceil_least (future ss t) b (ceil (future ss (t - T)) b + T) positive
                  (rw mul-add (omega (arith, growth, ceil_enough (future ss (t - T)) b positive))) in
                  omega (arith, earlier (t - T) (omega (arith, busy.0)) counts)

      one_of_them : Candidate b cap ss start
      unfolding start lazy_start
      one_of_them = go (least_attained (latest b cap ss) cap first T)
        where
          at : (t : ℕ) → start ≡ latest b cap ss t → Dec (0 < future ss t) → Candidate b cap ss start
          at t e (yes some) = inr (t, some, omega (arith, e, latest_some t some, uncut t some))
          at t e (no none) = inl (e ∙ latest_none t none)

          go : (start ≡ cap) ⊎ ((k : ℕ) × (start ≡ latest b cap ss (first + k))) → Candidate b cap ss start
          go (inl e) = inl e
          go (inr w) = at (first + w.0) w.1 (dec_lt 0 (future ss (first + w.0)))

      -- Annex 4.12: where all fits at some x and T is a busy length, the least of the cap and of the T times from the first due time on is the lazy start
      pub lazy_start_is_lazy : IsLazyStart b cap ss (lazy_start b cap ss first T)
      unfolding start lazy_start
      lazy_start_is_lazy = record { one_of_them = one_of_them; by_cap = least_by_cap (latest b cap ss) cap first T; by_demand = by_demand }

-- the first due time of a table
unfoldable pub first_due : List Stream → ℕ
first_due [] = 0
first_due (s ∷ []) = due s
first_due (s ∷ x ∷ xs) = min (due s) (first_due (x ∷ xs))

-- no unserved packet of the table is due before its first due time
pub first_due_before : (ss : List Stream) (s : Stream) → Mem s ss → first_due ss ≤ due s
unfolding first_due
first_due_before ss s m = ∥∥₁_elim m le_prop (λ place. go ss place)
  where
    go : (ss : List Stream) → Memᴰ s ss → first_due ss ≤ due s
    go [] x' = elim x' [ ]
    go (x ∷ []) (Memᴰ.head e) = rw e (omega arith)
    go (x ∷ []) (Memᴰ.tail place) = absurd (Memᴰ.not-nil place)
    go (x ∷ y ∷ ys) (Memᴰ.head e) = rw e (omega arith)
    go (x ∷ y ∷ ys) (Memᴰ.tail place) = omega (arith, go (y ∷ ys) place)

first_due_counts : (x : Stream) (xs : List Stream) → AllWellFormed (x ∷ xs) → 0 < future (x ∷ xs) (first_due (x ∷ xs))
unfolding first_due future
first_due_counts x [] all = future_counts (x ∷ []) all x mem-cons_self (due x) (omega arith)
first_due_counts x (y ∷ ys) all = go (first_due_counts y ys (rest_of all)) (dec_le (due x) (first_due (y ∷ ys)))
  where
    go : 0 < future (y ∷ ys) (first_due (y ∷ ys)) → Dec (due x ≤ first_due (y ∷ ys)) → 0 < future (x ∷ y ∷ ys) (min (due x) (first_due (y ∷ ys)))
    go rest (yes le) = future_counts (x ∷ y ∷ ys) all x mem-cons_self (min (due x) (first_due (y ∷ ys))) (omega arith)
    go rest (no gt) =
        let e : min (due x) (first_due (y ∷ ys)) ≡ first_due (y ∷ ys) = omega arith in
        rw e (omega (arith, rest))

-- of well-formed streams, h is 0 before the first due time, and above 0 there unless it is 0 everywhere
pub first_due_is_first : (ss : List Stream) → AllWellFormed ss → IsFirstDue ss (first_due ss)
first_due_is_first [] all t some = absurd (none t some)
  where
    none : (t : ℕ) → 0 < future [] t → ⊥
    none t some = omega (arith, future_before_all [] all t (λ s m. absurd (not-mem-nil m)))
first_due_is_first (x ∷ xs) all t some = (go (dec_lt t (first_due (x ∷ xs))), first_due_counts x xs all)
  where
    go : Dec (t < first_due (x ∷ xs)) → first_due (x ∷ xs) ≤ t
    go (yes early) =
        absurd (lt_irrefl 0 (subst (λ (n : ℕ). 0 < n) (future_before_all (x ∷ xs) all t (λ s m. lt_of_lt_of_le early (first_due_before (x ∷ xs) s m))) some))
    go (no on) = omega arith

-- a table with a busy length that fits at some x has a lazy start
pub lazy_exists : (b cap T x : ℕ) (ss : List Stream) → 1 ≤ b → AllWellFormed ss → IsBusy b ss T → Fits b x ss → (s : ℕ) × IsLazyStart b cap ss s
lazy_exists b cap T x ss positive all busy fits =
    (lazy_start b cap ss (first_due ss) T, lazy_start_is_lazy b cap ss x fits positive T (first_due ss) all busy (first_due_is_first ss all))
