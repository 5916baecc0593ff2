-- Tests that the checker computes, so that a worked example of a least common multiple needs no argument of its own.
use Rattle.std.specs.Prelude.{◌≡◌, refl, Bool, true, ◌&&◌, ℕ, zero, suc, ◌+◌, ◌%◌, ◌≤◌, ◌<◌, leb}
use Rattle.std.proofs.Math.Bool.{So, and-eq-true_iff}
use mathlib.Core.List.{List, [], ◌∷◌, Mem, not-mem-nil, forall_mem-cons}
use mathlib.Core.HLevel.{×_prop}
use Rattle.std.specs.Int.{◌∣◌}
use Rattle.std.proofs.Math.Bridge.{le_prop}
use Rattle.std.proofs.Math.Nat.{∣_prop, mod-eq-zero_of_dvd, dvd_of_mod-eq-zero}
use Rattle.std.proofs.Math.Decide.{ℕ_discrete}
use Rattle.std.proofs.Common.{arith, leb-true}
use Rattle.basics.specs.Limits.{longest_period}
use Rattle.superframe.specs.Periods.{AllInRange, IsCommonMultiple, IsLcm}

-- what n leaves over when it is divided by the periods, added up: 0 where every period divides n
unfoldable pub remainders : List ℕ → ℕ → ℕ
remainders [] n = 0
remainders (p ∷ ps) n = n % p + remainders ps n

-- no number from 1 to b is divided by every period
unfoldable pub none_up_to : List ℕ → ℕ → Bool
none_up_to ps zero = true
none_up_to ps (suc b) = leb 1 (remainders ps (suc b)) && none_up_to ps b

-- every period is 1 to 240
unfoldable pub ranges : List ℕ → Bool
ranges [] = true
ranges (p ∷ ps) = leb 1 p && (leb p longest_period && ranges ps)

divided : (ps : List ℕ) (n : ℕ) → remainders ps n ≡ 0 → (p : ℕ) → Mem p ps → p ∣ n
unfolding remainders
divided [] n e = λ p m. absurd (not-mem-nil m)
divided (x ∷ xs) n e = (forall_mem-cons (λ p. ∣_prop p n)).1 (dvd_of_mod-eq-zero x (omega arith), divided xs n (omega arith))

nothing_left : (ps : List ℕ) (n : ℕ) → ((p : ℕ) → Mem p ps → p ∣ n) → remainders ps n ≡ 0
unfolding remainders
nothing_left [] n all = refl
nothing_left (x ∷ xs) n all =
    let both = (forall_mem-cons (λ p. ∣_prop p n)).0 all in
    omega (arith, mod-eq-zero_of_dvd x both.0, nothing_left xs n both.1)

-- where the test finds none up to b, every common multiple of the periods is above b
pub above : (ps : List ℕ) (b n : ℕ) → So (none_up_to ps b) → IsCommonMultiple ps n → b < n
unfolding none_up_to
above ps zero n tested common = common.0
above ps (suc b) n tested common =
    let both = (and-eq-true_iff (leb 1 (remainders ps (suc b))) (none_up_to ps b)).0 tested in
    let below : b < n = above ps b n both.1 common in
    go below (leb-true 1 (remainders ps (suc b)) both.0) (ℕ_discrete n (suc b))
  where
    go : b < n → 1 ≤ remainders ps (suc b) → Dec (n ≡ suc b) → suc b < n
    go below left (yes e) = let none : remainders ps (suc b) ≡ 0 = rw (← e) (nothing_left ps n common.1) in omega arith
    go below left (no ne) = omega arith

-- where the test of the ranges is passed, every period is 1 to 240
pub in_range : (ps : List ℕ) → So (ranges ps) → AllInRange ps
unfolding ranges
in_range [] tested = λ p m. absurd (not-mem-nil m)
in_range (x ∷ xs) tested =
    let low = (and-eq-true_iff (leb 1 x) (leb x longest_period && ranges xs)).0 tested in
    let high = (and-eq-true_iff (leb x longest_period) (ranges xs)).0 low.1 in
    (forall_mem-cons (λ p. ×_prop le_prop le_prop)).1 ((leb-true 1 x low.0, leb-true x longest_period high.0), in_range xs high.1)

-- m is the least common multiple if every period divides it and none does all of that from 1 up to just below it
pub tested_lcm : (ps : List ℕ) (b : ℕ) → remainders ps (suc b) ≡ 0 → So (none_up_to ps b) → IsLcm ps (suc b)
tested_lcm ps b left tested =
    record { holds = (omega arith, divided ps (suc b) left); least = λ n common. above ps b n tested common }
