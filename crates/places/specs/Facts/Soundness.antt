-- Why the tests of the places together decide whether these are sound.
use Rattle.std.specs.Prelude.{◌≡◌, ◌⊎◌, Bool, true, false, ℕ, ◌+◌, ◌≤◌, ◌<◌, get_or, min}
use Rattle.std.specs.Bool.{MatchBool}
use Rattle.std.specs.List.{AllWithin, HoldsAt, range_with_len}
use Rattle.std.proofs.Common.{inl, inr, subst, sym, lt_irrefl, true≢false, arith}
use Rattle.std.proofs.Math.Decide.{dec_lt}
use Rattle.std.proofs.lemmas.List.FromFn.{get_or-range_with_len}
use Rattle.basics.specs.Below.{Below}
use Rattle.basics.specs.Decides.{Decides}
use Rattle.basics.specs.Limits.{largest_key}
use Rattle.places.specs.Soundness.{IsLeast}

-- one more place looked at that holds an entry ..
pub least_more : {ids keys : ℕ → ℕ} {i m : ℕ} → IsLeast ids keys i m → 1 ≤ ids i → IsLeast ids keys (i + 1) (min m (keys i))
least_more {ids} {keys} {i} {m} before holds =
    record {
      bounded = omega (arith, before.bounded);
      at_most = λ j below some. bound j below some (dec_lt j i);
      reached = reach (dec_lt (keys i) m) before.reached;
    }
  where
    bound : (j : ℕ) → j < i + 1 → 1 ≤ ids j → Dec (j < i) → min m (keys i) ≤ keys j
    bound j below some (yes less) = omega (arith, before.at_most j less some)
    bound j below some (no last) = let e : j ≡ i = omega arith in rw e (omega arith)

    reach : Dec (keys i < m) → (m ≡ largest_key) ⊎ ((j : ℕ) × (j < i) × (1 ≤ ids j) × (m ≡ keys j)) →
        (min m (keys i) ≡ largest_key) ⊎ ((j : ℕ) × (j < i + 1) × (1 ≤ ids j) × (min m (keys i) ≡ keys j))
    reach (yes less) other = inr (i, omega arith, holds, omega arith)
    reach (no not_less) (inl top) = inl (omega (arith, top))
    reach (no not_less) (inr w) = inr (w.0, omega (arith, w.1), w.2, omega (arith, w.3))

-- .. and one that is free
pub least_free : {ids keys : ℕ → ℕ} {i m : ℕ} → IsLeast ids keys i m → ids i ≤ 0 → IsLeast ids keys (i + 1) m
least_free {ids} {keys} {i} {m} before free =
    record { bounded = before.bounded; at_most = λ j below some. before.at_most j (earlier j below some (dec_lt j i)) some; reached = reach before.reached }
  where
    earlier : (j : ℕ) → j < i + 1 → 1 ≤ ids j → Dec (j < i) → j < i
    earlier j below some (yes less) = less
    earlier j below some (no last) = let e : j ≡ i = omega arith in absurd (lt_irrefl 0 (omega (arith, free, rw e at some)))

    reach : (m ≡ largest_key) ⊎ ((j : ℕ) × (j < i) × (1 ≤ ids j) × (m ≡ keys j)) →
        (m ≡ largest_key) ⊎ ((j : ℕ) × (j < i + 1) × (1 ≤ ids j) × (m ≡ keys j))
    reach (inl top) = inl top
    reach (inr w) = inr (w.0, omega (arith, w.1), w.2, w.3)

-- the numbers below n stand in order
number_at : (n i : ℕ) → i < n → get_or (range_with_len 0 n) i 0 ≡ i
number_at n i below = omega (arith, get_or-range_with_len 0 n i 0 below)

-- a test of each number below n, that passes it or refutes it, decides them all
pub all_tested : (n : ℕ) (P : ℕ → Type 0) (b : Bool)
    → MatchBool b (AllWithin P (range_with_len 0 n) 0 n) ((k : ℕ) × (k < n) × HoldsAt (λ i. P i → ⊥) (range_with_len 0 n) k) → Decides b (Below n P)
all_tested n P true all =
    record { if_true = λ _ i below. subst P (number_at n i below) (all i 0 (omega arith) below); if_false = λ e _. true≢false e }
all_tested n P false w =
    record { if_true = λ e. absurd (true≢false (sym e)); if_false = λ _ all. w.2 0 (subst P (sym (number_at n w.0 w.1)) (all w.0 w.1)) }
