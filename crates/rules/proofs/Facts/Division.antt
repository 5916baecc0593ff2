-- Division on whole numbers, rounded down and up.
use Rattle.std.specs.Prelude.{◌≡◌, ◌↔◌, ℕ, suc, ◌+◌, ◌-◌, ◌*◌, ◌/◌, ◌≤◌, ◌<◌}
use Rattle.std.proofs.Math.Logic.{if_pos, if_neg}
use Rattle.std.proofs.Common.{le-div_iff_mul-le, div-lt_iff_lt-mul, div-mul-le_self, le_trans, arith}
use Rattle.std.proofs.Math.Nat.{lt-div-mul-add, add-div_right, div-eq_of_lt}
use Rattle.std.proofs.Math.Decide.{dec_le}
use Rattle.rules.specs.Demand.{packets_by, ceil}

-- of two numbers the larger has no smaller quotient by a p of at least 1
pub div_mono : (p : ℕ) {x y : ℕ} → 1 ≤ p → x ≤ y → x / p ≤ y / p
div_mono p {x} {y} positive le = (le-div_iff_mul-le positive).1 (le_trans (div-mul-le_self x p) le)

-- what is at most b times k needs at most k parts of b ..
pub ceil_least : (n b k : ℕ) → 1 ≤ b → n ≤ b * k → ceil n b ≤ k
ceil_least n b k positive le =
    let low : (n + (b - 1)) / b < k + 1 = (div-lt_iff_lt-mul positive).1 (omega (arith, le)) in omega arith

-- .. and ceil n b parts of b are enough
pub ceil_enough : (n b : ℕ) → 1 ≤ b → n ≤ b * ceil n b
ceil_enough n b positive = omega (arith, lt-div-mul-add {a = n + (b - 1)} positive)

-- what is above 0 needs at least one part of b
pub ceil_positive : (n b : ℕ) → 1 ≤ b → 0 < n → 1 ≤ ceil n b
ceil_positive n b positive some = (le-div_iff_mul-le positive).1 (omega arith)

-- where the first packet is due by t, at d, floor((t - d) / p) + 1 are due by t
pub packets_some : (p d t : ℕ) → d ≤ t → packets_by p d t ≡ (t - d) / p + 1
unfolding packets_by
packets_some p d t early = if_pos (dec_le d t) early ((t - d) / p + 1) 0

module _ (p : ℕ) (positive : 1 ≤ p) where
  -- where the first packet is due after t, none is due by t
  pub packets_none : (d t : ℕ) → t < d → packets_by p d t ≡ 0
  unfolding packets_by
  packets_none d t late = if_neg (dec_le d t) (λ le. omega arith) ((t - d) / p + 1) 0

  -- the two cases in one quotient
  pub packets_quotient : (d t : ℕ) → packets_by p d t ≡ (t + p - d) / p
  packets_quotient d t = go (dec_le d t)
    where
      go : Dec (d ≤ t) → packets_by p d t ≡ (t + p - d) / p
      go (yes early) =
          let e : t + p - d ≡ t - d + p = omega arith in
          rw (packets_some p d t early, e, add-div_right (t - d) positive)
      go (no late) = rw (packets_none d t (omega arith), div-eq_of_lt {n = t + p - d} {m = p} (omega arith))

  -- one period later, one packet fewer where the first one counts
  pub packets_after_first : (d t : ℕ) → d ≤ t → packets_by p (d + p) t + 1 ≡ packets_by p d t
  packets_after_first d t early =
      let e : t + p - (d + p) ≡ t - d = omega arith in
      rw (packets_quotient (d + p) t, packets_some p d t early, e)

  -- a due time d that lies x or more after d' counts by t at most what d' counts by t - x
  pub packets_later : (d d' x t : ℕ) → d' + x ≤ d → packets_by p d t ≤ packets_by p d' (t - x)
  packets_later d d' x t later = rw (packets_quotient d t, packets_quotient d' (t - x)) (div_mono p positive (omega arith))

  -- by a later time no fewer packets are due
  pub packets_mono : (d t t' : ℕ) → t ≤ t' → packets_by p d t ≤ packets_by p d t'
  packets_mono d t t' le = rw (packets_quotient d t, packets_quotient d t') (div_mono p positive (omega arith))

  -- any T units hold at most ⌈T/P⌉ due times of a stream
  pub window : (d t T : ℕ) → packets_by p d (t + T) ≤ packets_by p d t + ceil T p
  window d t T =
      let few : t + T + p - d < ((t + p - d) / p + ceil T p + 1) * p = omega (arith, lt-div-mul-add {a = t + p - d} positive, ceil_enough T p positive) in
      let low : (t + T + p - d) / p < (t + p - d) / p + ceil T p + 1 = (div-lt_iff_lt-mul positive).1 few in
      rw (packets_quotient d (t + T), packets_quotient d t) (omega arith)

  -- packet k counts by t exactly if it is due by t
  pub counted_iff_due : (d t k : ℕ) → (k < packets_by p d t) ↔ (d + k * p ≤ t)
  counted_iff_due d t k = (
    λ counted. omega (arith, (le-div_iff_mul-le positive).0 (rw (packets_quotient d t) at counted)),
    λ early. rw (packets_quotient d t) ((le-div_iff_mul-le {x = suc k} positive).1 (omega arith)),
  )
