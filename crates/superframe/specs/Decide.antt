-- Whether periods are in range can be decided, and their least common multiple can be found.
use Rattle.std.proofs.Math.Logic.Dec.{and as Dec-and}
use mathlib.Core.List.{List, [], ◌∷◌, Mem, not-mem-nil, decidable_b_all, forall_mem-cons}
use Rattle.std.specs.Prelude.{ℕ, ◌*◌, ◌≤◌}
use Rattle.std.proofs.Math.Bridge.{le_prop}
use Rattle.std.proofs.Math.Nat.{∣_prop, dvd-mul_left_of_dvd, dvd-mul_right}
use Rattle.std.proofs.Common.{mul-pos, arith}
use Rattle.std.proofs.Math.Decide.{dec_le, dec_dvd}
use Rattle.basics.specs.Limits.{longest_period}
use Rattle.basics.specs.OneTo.{decide_one_to}
use Rattle.superframe.specs.Facts.Least.{least_exists}
use Rattle.superframe.specs.Periods.{AllInRange, IsCommonMultiple, IsLcm}

-- whether every period of a list is 1 to 240 can be decided
pub decide_in_range : (periods : List ℕ) → Dec (AllInRange periods)
decide_in_range = decidable_b_all (decide_one_to longest_period)

decide_common_multiple : (periods : List ℕ) (m : ℕ) → Dec (IsCommonMultiple periods m)
decide_common_multiple periods m = Dec-and (dec_le 1 m) (decidable_b_all (λ p. dec_dvd p m) periods)

product : List ℕ → ℕ
product [] = 1
product (p ∷ ps) = p * product ps

product_is_common_multiple : (periods : List ℕ) → ((p : ℕ) → Mem p periods → 1 ≤ p) → IsCommonMultiple periods (product periods)
unfolding product
product_is_common_multiple [] positive = (omega arith, λ p m. absurd (not-mem-nil m))
product_is_common_multiple (x ∷ xs) positive =
    let all = (forall_mem-cons (λ p. le_prop)).0 positive in
    let rest = product_is_common_multiple xs all.1 in (
      mul-pos all.0 rest.0,
      (forall_mem-cons (λ p. ∣_prop p (x * product xs))).1 (dvd-mul_right x (product xs), λ p m. dvd-mul_left_of_dvd p (rest.1 p m) x),
    )

-- Annex 9.4: periods in range have a least common multiple ..
pub lcm_exists : (periods : List ℕ) → AllInRange periods → (m : ℕ) × IsLcm periods m
lcm_exists periods in_range =
    let some = product_is_common_multiple periods (λ p m. (in_range p m).0) in
    least_exists (IsCommonMultiple periods) (decide_common_multiple periods) (product periods) some
