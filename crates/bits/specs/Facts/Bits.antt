-- What a shift and joining do to a set's digits.
use Rattle.std.specs.Prelude.{◌≡◌, refl, ℕ, zero, suc, ◌*◌, ◌/◌, ◌%◌, ◌^◌, ◌<◌, max}
use Rattle.std.proofs.Common.{sym, ap, ◌∙◌, mod-lt, pow-suc, one-mul, mul_comm, arith, shl_exact}
use Rattle.std.proofs.Math.Path.{subst⁻¹}
use Rattle.std.proofs.Math.Nat.{div-div-eq-div-mul}
use Rattle.std.proofs.Math.Arith.{digits_mod}
use Rattle.std.specs.Int.Bits.{bit_or, or_step}
use Rattle.std.proofs.lemmas.Nat.{or_shr}
use Rattle.bits.specs.Bits.{digit, IsWith}

-- a digit is 0 or 1
digit_small : (x n : ℕ) → digit x n < 2
digit_small x n = mod-lt (x / 2 ^ n) (omega arith)

-- the digits of two numbers joined
digit_or : (a b n : ℕ) → digit (bit_or a b) n ≡ max (digit a n) (digit b n)
digit_or a b n =
    ap (λ (x : ℕ). x % 2) (or_shr a b n) ∙ ap (λ (x : ℕ). x % 2) (or_step (a / 2 ^ n) (b / 2 ^ n))
    ∙ digits_mod (bit_or (a / 2 ^ n / 2) (b / 2 ^ n / 2)) (omega (arith, digit_small a n, digit_small b n))

-- the next digit is a digit of the half
digit_suc : (x n : ℕ) → digit x (suc n) ≡ digit (x / 2) n
digit_suc x n = ap (λ (y : ℕ). y % 2) (sym (div-div-eq-div-mul x 2 (2 ^ n) ∙ ap (λ (y : ℕ). x / y) (mul_comm 2 (2 ^ n) ∙ sym (pow-suc 2 n))))

half_power : (n : ℕ) → 2 ^ suc n / 2 ≡ 2 ^ n
half_power n = ap (λ (x : ℕ). x / 2) (pow-suc 2 n) ∙ omega arith

-- a power of two has one digit set
digit_power : (n : ℕ) → digit (2 ^ n) n ≡ 1
digit_power zero = refl
digit_power (suc n) = digit_suc (2 ^ suc n) n ∙ ap (λ (x : ℕ). digit x n) (half_power n) ∙ digit_power n

-- the empty set
digit_zero : (n : ℕ) → digit 0 n ≡ 0
digit_zero zero = refl
digit_zero (suc n) = digit_suc 0 n ∙ digit_zero n

digit_power_other : (n k : ℕ) → (k ≡ n → ⊥) → digit (2 ^ n) k ≡ 0
digit_power_other zero zero other = absurd (other refl)
digit_power_other zero (suc k) other = digit_suc 1 k ∙ digit_zero k
digit_power_other (suc n) zero other = ap (λ (x : ℕ). x / 1 % 2) (pow-suc 2 n) ∙ omega arith
digit_power_other (suc n) (suc k) other =
    digit_suc (2 ^ suc n) k ∙ ap (λ (x : ℕ). digit x k) (half_power n) ∙ digit_power_other n k (λ e. other (ap suc e))

-- the number 1 shifted by n stays within 64 digits
one_shifted : (n : ℕ) → n < 64 → (1 * 2 ^ n) % 2 ^ 64 ≡ 2 ^ n
one_shifted n below = shl_exact {a = 1} 1 n 64 (omega arith) (omega arith) ∙ one-mul (2 ^ n)

-- a set joined with 1 shifted by n, for n below 64, has n in it, and every other digit as it was
pub joined_is_with : (set n : ℕ) → n < 64 → IsWith set n (bit_or set ((1 * 2 ^ n) % 2 ^ 64))
joined_is_with set n below =
    subst⁻¹ (λ (p : ℕ). IsWith set n (bit_or set p)) (one_shifted n below)
    (record {
      here = digit_or set (2 ^ n) n ∙ omega (arith, digit_small set n, digit_power n);
      elsewhere = λ k other. digit_or set (2 ^ n) k ∙ omega (arith, digit_power_other n k other);
    })
