-- An order by several numbers is strict and total.
use Rattle.std.specs.Prelude.{◌≡◌, refl, ℕ, zero, suc, ◌<◌}
use Rattle.std.proofs.Common.{sym, ap, ◌∙◌, inl, inr, lt_irrefl, arith}
use mathlib.Core.HLevel.{hedberg, ×_prop}
use Rattle.std.proofs.Math.Bridge.{le_prop}
use Rattle.std.proofs.Math.Decide.{dec_lt, ℕ_discrete}
use Rattle.basics.specs.Lexicographic.{Then}

-- among equals the rest decides
pub then_rest : {a b : ℕ} {R : Type 0} → a ≡ b → Then a b R → R
then_rest {a} same (inl less) = absurd (lt_irrefl a (omega (arith, less, same)))
then_rest same (inr w) = w.1

-- 0 is in order with every number, if the rest is
pub then_zero : (a : ℕ) {R : Type 0} → R → Then 0 a R
then_zero zero rest = inr (refl, rest)
then_zero (suc a) rest = inl (omega arith)

-- nothing is in order both ways round, if the rest is not
pub then_asym : {a b : ℕ} {R S : Type 0} → (R → S → ⊥) → Then a b R → Then b a S → ⊥
then_asym rest (inl l) (inl m) = omega arith
then_asym rest (inl l) (inr m) = omega (arith, m.0)
then_asym rest (inr l) (inl m) = omega (arith, l.0)
then_asym rest (inr l) (inr m) = rest l.1 m.1

-- one that is in order with a second, and the second with a third, is in order with the third, if so are the rests
pub then_trans : {a b c : ℕ} {R S T : Type 0} → (R → S → T) → Then a b R → Then b c S → Then a c T
then_trans rest (inl l) (inl m) = inl (omega arith)
then_trans rest (inl l) (inr m) = inl (omega (arith, m.0))
then_trans rest (inr l) (inl m) = inl (omega (arith, l.0))
then_trans rest (inr l) (inr m) = inr (l.0 ∙ m.0, rest l.1 m.1)

-- an order by a number and the rest holds in one way only, if the rest does
pub then_prop : {a b : ℕ} {R : Type 0} → IsProp R → IsProp (Then a b R)
then_prop prop (inl l) (inl m) = ap inl (le_prop l m)
then_prop {a} prop (inl l) (inr m) = absurd (lt_irrefl a (omega (arith, m.0)))
then_prop {a} prop (inr l) (inl m) = absurd (lt_irrefl a (omega (arith, l.0)))
then_prop {a} {b} prop (inr l) (inr m) = ap inr (×_prop (hedberg ℕ_discrete a b) prop l m)

-- where it is not in order, it is in order the other way round, if the rest is
pub then_total : {a b : ℕ} {R S : Type 0} → (a ≡ b → (R → ⊥) → S) → (Then a b R → ⊥) → Then b a S
then_total {a} {b} {R} {S} rest neither = go (dec_lt b a) (ℕ_discrete a b)
  where
    go : Dec (b < a) → Dec (a ≡ b) → Then b a S
    go (yes less) same = inl less
    go (no not_less) (no other) = absurd (neither (inl (omega arith)))
    go (no not_less) (yes same) = inr (sym same, rest same (λ r. neither (inr (same, r))))
