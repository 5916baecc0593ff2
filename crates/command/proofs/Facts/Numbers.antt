-- Why the digits at the start of the bytes are the number there, unless it is too large.
use Rattle.std.specs.Prelude.{◌≡◌, refl, true, false, List, [], ◌∷◌, ◌++◌, ℕ, zero, suc, ◌+◌, ◌-◌, ◌*◌, ◌≤◌, ◌<◌, length, take, get_or}
use Rattle.std.proofs.Common.{subst, ◌∙◌, lt_irrefl, arith, take-suc, take-take, length-take-le, get_or-take}
use Rattle.std.proofs.Math.Path.{subst⁻¹}
use Rattle.std.proofs.lemmas.Grind.{common_steps}
use Rattle.std.specs.List.{prefix_len}
use Rattle.std.specs.Char.{is_ascii_digit}
use Rattle.std.proofs.lemmas.List.Sums.{prefix_len-le-length, prefix_len_passes, prefix_len_stops}
use Rattle.std.proofs.Math.Decide.{dec_lt}
use Rattle.command.specs.Text.{IsNumeral, digit, further}
use Rattle.command.specs.Commands.{number_limit}
use Rattle.command.proofs.Facts.Text.{value_append, value_one, value_at_least, numeral_value, numeral_not_empty, numeral_digits, numeral_begun}
use Rattle.command.specs.Reads.{IsDigit, HasLeadingZero, value_from, Ends, at_end, before_other, IsNumberAtStart}

-- no numeral goes past a place where a number ends
pub ends_last : {bytes : List ℕ} {n : ℕ} (m : ℕ) {v : ℕ} → Ends bytes n → m ≤ length bytes → IsNumeral (take m bytes) v → m ≤ n
ends_last m (at_end e) within numeral = omega arith
ends_last {bytes = bytes} {n = n} m (before_other low other) within numeral = go (dec_lt n m)
  where
    go : Dec (n < m) → m ≤ n
    go (no past) = omega arith
    go (yes before) = absurd (other (rw (get_or-take m bytes n 0 before) at (numeral_digits numeral n (omega (arith, length-take-le m bytes within)))))

-- The first n bytes are the digits at the start: all of them, and no other byte.
pub record AreDigits (bytes : List ℕ) (n : ℕ) : Type 0 where
  pub within : n ≤ length bytes
  pub digits : (k : ℕ) → k < n → IsDigit (get_or bytes k 0)
  pub ends : Ends bytes n

digit_at : (byte : ℕ) → is_ascii_digit byte ≡ true → IsDigit byte
digit_at byte is = grind (arith, common_steps)

no_digit_at : (byte : ℕ) → is_ascii_digit byte ≡ false → IsDigit byte → ⊥
no_digit_at byte is among = grind (arith, common_steps)

-- so are those that are counted until one is no digit
pub counted_digits : {bytes : List ℕ} {n : ℕ} → n ≡ prefix_len is_ascii_digit bytes → AreDigits bytes n
counted_digits {bytes} counted =
    subst⁻¹ (AreDigits bytes) counted
    (record {
      within = prefix_len-le-length is_ascii_digit bytes;
      digits = λ k before. digit_at (get_or bytes k 0) (prefix_len_passes is_ascii_digit bytes k 0 before);
      ends = ends (dec_lt count (length bytes));
    })
  where
    count : ℕ
    count = prefix_len is_ascii_digit bytes

    ends : Dec (count < length bytes) → Ends bytes count
    ends (yes before) = before_other before (no_digit_at (get_or bytes count 0) (prefix_len_stops is_ascii_digit bytes 0 before))
    ends (no past) = at_end (omega (arith, prefix_len-le-length is_ascii_digit bytes))

after : (byte : ℕ) → 48 ≤ byte → (byte ≡ 48 → ⊥) → 48 < byte
after byte from other = omega arith

-- a digit is a numeral, and one behind a numeral that is not 0
digit_alone : (byte : ℕ) → IsDigit byte → IsNumeral (byte ∷ []) (value_from 0 (byte ∷ []))
digit_alone byte is =
    let back : 48 + (byte - 48) ≡ byte = omega arith in
    let value : byte - 48 ≡ 0 + (byte - 48) = omega arith in
    subst (λ (b : ℕ). IsNumeral (b ∷ []) (0 + (byte - 48))) back (rw (← value) (digit (byte - 48) (omega arith)))

digit_then : (l : List ℕ) (byte : ℕ) → IsDigit byte → IsNumeral l (value_from 0 l) → 1 ≤ value_from 0 l → IsNumeral (l ++ (byte ∷ [])) (value_from 0 (l ++ (byte ∷ [])))
digit_then l byte is numeral some =
    let back : 48 + (byte - 48) ≡ byte = omega arith in
    rw (value_append 0 l byte)
    (subst (λ (b : ℕ). IsNumeral (l ++ (b ∷ [])) (value_from 0 l * 10 + (byte - 48))) back (further numeral some (byte - 48) (omega arith)))

module _ {bytes : List ℕ} {n : ℕ} (are : AreDigits bytes n) where
  -- each of these bytes is a digit
  pub digits_alone : (k : ℕ) → k < length (take n bytes) → IsDigit (get_or (take n bytes) k 0)
  digits_alone k before =
      let less : k < n = omega (arith, length-take-le n bytes are.within, before) in
      rw (get_or-take n bytes k 0 less) (are.digits k less)

  -- the number at the start is all these digits
  all_digits : {v m : ℕ} → IsNumberAtStart bytes v m → m ≡ n
  all_digits {m = m} start =
      let none_after = ends_last m are.ends start.within start.numeral in
      let all = all_before start.ends in
      omega arith
    where
      all_before : Ends bytes m → n ≤ m
      all_before (at_end e) = omega (arith, are.within)
      all_before (before_other low other) = go (dec_lt m n)
        where
          go : Dec (m < n) → n ≤ m
          go (yes before) = absurd (other (are.digits m before))
          go (no past) = omega arith

  its_numeral : {v m : ℕ} → IsNumberAtStart bytes v m → IsNumeral (take n bytes) v
  its_numeral {v} start = subst (λ (k : ℕ). IsNumeral (take k bytes) v) (all_digits start) start.numeral

  -- where there is no digit, there is no number
  pub no_digits : n ≡ 0 → (v m : ℕ) → IsNumberAtStart bytes v m → ⊥
  no_digits none v m start =
      lt_irrefl 0 (omega (arith, numeral_not_empty (its_numeral start), length-take-le n bytes are.within))

  -- digits whose value is too large are no number
  pub too_large : number_limit ≤ value_from 0 (take n bytes) → (v m : ℕ) → IsNumberAtStart bytes v m → ⊥
  too_large large v m start = lt_irrefl 0 (omega (arith, start.fits, numeral_value (its_numeral start)))

  -- nor are those of which the first is 0 and others follow
  pub leading_zero : HasLeadingZero (take n bytes) → (v m : ℕ) → IsNumberAtStart bytes v m → ⊥
  leading_zero (more, zero_first) v m start =
      let begun = numeral_begun (its_numeral start) 1 (omega arith) (omega (arith, more)) in
      lt_irrefl 0 (omega (arith, begun.positive, numeral_value begun.numeral, value_one (take n bytes) (omega (arith, more)), zero_first))

  module _ (no_zero : HasLeadingZero (take n bytes) → ⊥) where
    -- otherwise the digits so far are a numeral, and so are all
    numeral_so_far : (i : ℕ) → i < n → IsNumeral (take (suc i) bytes) (value_from 0 (take (suc i) bytes))
    numeral_so_far zero before =
        let first = are.digits 0 before in
        rw (take-suc bytes 0 0 (omega (arith, are.within))) (digit_alone (get_or bytes 0 0) first)
    numeral_so_far (suc i) before =
        let here = are.digits (suc i) before in
        let begun = numeral_so_far i (omega arith) in
        rw (take-suc bytes (suc i) 0 (omega (arith, are.within))) (digit_then (take (suc i) bytes) (get_or bytes (suc i) 0) here begun (positive i (omega arith)))
      where
        positive : (k : ℕ) → suc k < n → 1 ≤ value_from 0 (take (suc k) bytes)
        positive k more =
            let first = are.digits 0 (omega arith) in
            let at_least = rw (take-take 1 (suc k) bytes (omega arith)) at (value_at_least (take (suc k) bytes) 1) in
            let long : 2 ≤ length (take n bytes) = omega (arith, length-take-le n bytes are.within, more) in
            let same = get_or-take n bytes 0 0 (omega arith) in
            let other : 48 < get_or bytes 0 0 = after (get_or bytes 0 0) first.0 (λ zero_first. no_zero (long, same ∙ zero_first)) in
            omega (arith, at_least, value_one bytes (omega (arith, are.within)), other)

    -- which is the number, if it is not too large
    pub its_number : {v : ℕ} → 1 ≤ n → (v ≡ value_from 0 (take n bytes)) × (v < number_limit) → IsNumberAtStart bytes v n
    its_number some (same, fits) = record { within = are.within; numeral = rw same (whole n refl some); fits = fits; ends = are.ends }
      where
        whole : (m : ℕ) → m ≡ n → 1 ≤ n → IsNumeral (take n bytes) (value_from 0 (take n bytes))
        whole zero same some = absurd (lt_irrefl 0 (omega arith))
        whole (suc i) same some = subst (λ (k : ℕ). IsNumeral (take k bytes) (value_from 0 (take k bytes))) same (numeral_so_far i (omega arith))
