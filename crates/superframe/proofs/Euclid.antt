-- Euclid's step, and the least common multiple of two numbers by their greatest common divisor.
use mathlib.Core.Path.{◌≡◌, subst}
use Prim.Native.Nat.{ℕ, ◌+◌, ◌*◌, ◌/◌, ◌%◌, ◌≤◌, ◌∣◌}
use native.Mathlib.Nat.{dvd_refl, dvd-zero, dvd-mul_left, dvd-mul_right, dvd-mul_right_of_dvd, dvd-add_iff_right, dvd-mod_iff}
use native.Mathlib.Nat.{mul-dvd-mul_left, mul-dvd-mul_right, dvd_of_mul-dvd-mul_right, pos_of_dvd_of_pos, div-mul_cancel, div-le_self, div-add-mod}
use native.Mathlib.Nat.{mul-pos, mul-le-mul_right, mul_comm, mul_assoc, mul_right_comm, mul-add}
use Rattle.superframe.specs.Multiples.{IsGcd, IsLcmOfTwo}

-- the recursion ends: what divides a and 0 best is a
pub gcd_zero : (a : ℕ) → IsGcd a 0 a
gcd_zero a = record { divides_left = dvd_refl a; divides_right = dvd-zero a; greatest = λ k n left right. left }

-- what divides k times a and k times b divides k times what a leaves over by b
scaled_remainder : (k n a b : ℕ) → n ∣ k * a → n ∣ k * b → n ∣ k * (a % b)
scaled_remainder k n a b left right =
    let split : k * a ≡ k * b * (a / b) + k * (a % b) = rw (mul_assoc k b (a / b), ← mul-add k (b * (a / b)) (a % b), div-add-mod a b) in
    (dvd-add_iff_right n (dvd-mul_right_of_dvd n right (a / b))).1 (subst (λ (x : ℕ). n ∣ x) split left)

-- Euclid: the divisor of b and of a's remainder by b is that of a and b
pub gcd_step : (a b g : ℕ) → IsGcd b (a % b) g → IsGcd a b g
gcd_step a b g d =
    record {
      divides_left = (dvd-mod_iff g d.divides_left).0 d.divides_right;
      divides_right = d.divides_left;
      greatest = λ k n left right. d.greatest k n right (scaled_remainder k n a b left right);
    }

-- where m is at least 1, its greatest common divisor with any p is at least 1
pub gcd_positive : (m p g : ℕ) → 1 ≤ m → IsGcd m p g → 1 ≤ g
gcd_positive m p g positive d = pos_of_dvd_of_pos d.divides_left positive

-- m / g × p is the least common multiple: times g it divides n × m and n × p, hence n × g
pub lcm_of_two : (m p g : ℕ) → 1 ≤ m → 1 ≤ p → IsGcd m p g → IsLcmOfTwo m p (m / g * p)
lcm_of_two m p g m_positive p_positive d =
    let e : m / g * g ≡ m = div-mul_cancel g d.divides_left in
    let part : 1 ≤ m / g = pos_of_dvd_of_pos (subst (λ (x : ℕ). m / g ∣ x) e (dvd-mul_right (m / g) g)) m_positive in
    record {
      positive = mul-pos part p_positive;
      small = mul-le-mul_right p (div-le_self m g);
      left = subst (λ (x : ℕ). x ∣ m / g * p) e (mul-dvd-mul_left g (m / g) d.divides_right);
      right = dvd-mul_left p (m / g);
      least = λ n by_m by_p. dvd_of_mul-dvd-mul_right (m / g * p) (gcd_positive m p g m_positive d) (divides n by_m by_p e);
    }
  where
    divides : (n : ℕ) → m ∣ n → p ∣ n → m / g * g ≡ m → m / g * p * g ∣ n * g
    divides n by_m by_p e =
        rw (mul_right_comm (m / g) p g, e)
        (d.greatest n (m * p)
        (subst (λ (x : ℕ). m * p ∣ x) (mul_comm m n) (mul-dvd-mul_left p m by_p))
        (mul-dvd-mul_right m by_m p))
