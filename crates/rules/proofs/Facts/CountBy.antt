-- Packets counted over a table by the time their stream's first one is due: demand, future demand and W are such counts.
use Rattle.std.specs.Prelude.{◌≡◌, refl, ℕ, ◌+◌, ◌-◌, ◌≤◌, ◌<◌}
use Rattle.std.proofs.Math.Logic.{ite}
use mathlib.Core.List.{List, [], ◌∷◌, ◌++◌, Mem, filter}
use Rattle.std.proofs.Common.{arith}
use Rattle.rules.specs.Streams.{Stream, due}
use Rattle.rules.specs.Demand.{packets_by, demand, future}
use Rattle.rules.proofs.Facts.Division.{packets_none, packets_quotient}
use Rattle.rules.proofs.Facts.Sums.{first_of, rest_of, period_positive}
use Rattle.rules.specs.Ready.{AllWellFormed, most_in, count_by}

-- a stream at the end counts as any other does
pub count_by_one_more : (first : Stream → ℕ) (ss : List Stream) (s : Stream) (t : ℕ)
    → count_by first (ss ++ (s ∷ [])) t ≡ count_by first ss t + packets_by s.period (first s) t
unfolding count_by
count_by_one_more first [] s t = omega arith
count_by_one_more first (x ∷ xs) s t = omega (arith, count_by_one_more first xs s t)

-- before every first due time nothing counts
pub count_by_none : (first : Stream → ℕ) (ss : List Stream) (t : ℕ) → ((s : Stream) → Mem s ss → (1 ≤ s.period) × (t < first s))
    → count_by first ss t ≡ 0
unfolding count_by
count_by_none first [] t late = refl
count_by_none first (s ∷ ss) t late =
    omega (arith, packets_none s.period (first_of late).0 (first s) t (first_of late).1, count_by_none first ss t (rest_of late))

-- the demand of t is the count with every stream's first packet due at its D
pub count_by_demand : (ss : List Stream) (t : ℕ) → count_by (λ (s : Stream). s.deadline) ss t ≡ demand ss t
unfolding count_by demand
count_by_demand [] t = refl
count_by_demand (s ∷ ss) t = rw (count_by_demand ss t)

-- h(t) is the count with every stream's first packet due at its due time
pub count_by_future : (ss : List Stream) (t : ℕ) → count_by due ss t ≡ future ss t
unfolding count_by future
count_by_future [] t = refl
count_by_future (s ∷ ss) t = rw (count_by_future ss t)

-- W(t) is the count with every first packet due at 1
pub count_by_most_in : (ss : List Stream) → AllWellFormed ss → (t : ℕ) → count_by (λ (s : Stream). 1) ss t ≡ most_in ss t
unfolding count_by most_in
count_by_most_in [] all t = refl
count_by_most_in (s ∷ ss) all t =
    let positive = period_positive s (first_of all) in
    let e : t + s.period - 1 ≡ t + (s.period - 1) = omega arith in
    rw (packets_quotient s.period positive 1 t, e, count_by_most_in ss (rest_of all) t)

-- some of the streams count no more than all
pub count_by_filter_le : (first : Stream → ℕ) {P : Stream → Type 0} (decide : (s : Stream) → Dec (P s)) (ss : List Stream) (t : ℕ)
    → count_by first (filter decide ss) t ≤ count_by first ss t
unfolding count_by
count_by_filter_le first decide [] t = omega arith
count_by_filter_le first {P} decide (s ∷ ss) t = go (decide s) (count_by_filter_le first decide ss t)
  where
    go : (d : Dec (P s)) → count_by first (filter decide ss) t ≤ count_by first ss t
        → count_by first (ite d (s ∷ filter decide ss) (filter decide ss)) t ≤ packets_by s.period (first s) t + count_by first ss t
    go (yes kept) fewer = omega (arith, fewer)
    go (no left) fewer = omega (arith, fewer)
