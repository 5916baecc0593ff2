-- Facts on numerals: of digits alone, with one value, and cut off after a byte they are numerals again.
use Rattle.std.specs.Prelude.{◌≡◌, refl, List, [], ◌∷◌, ◌++◌, ℕ, zero, suc, ◌+◌, ◌-◌, ◌*◌, ◌≤◌, ◌<◌, length, take, drop, get_or}
use Rattle.std.proofs.Common.{sym, ap, ◌∙◌, lt_irrefl, add-one, arith, length-append, take-suc, take-append-drop}
use Rattle.std.proofs.Math.Decide.{dec_lt}
use Rattle.std.proofs.Math.ListN.{get_or-append}
use Rattle.std.proofs.lemmas.List.{take-append-le}
use Rattle.std.proofs.Math.Seq.{take-append_seam, get_or-append_seam}
use Rattle.command.specs.Text.{IsNumeral, digit, further}
use Rattle.command.specs.Commands.{number_limit}
use Rattle.command.specs.Reads.{IsDigit, value_from}

-- with further digits the value grows
pub value_grows : (m : ℕ) (bytes : List ℕ) → m ≤ value_from m bytes
value_grows m [] = omega arith
value_grows m (byte ∷ bytes) = omega (arith, value_grows (m * 10 + (byte - 48)) bytes)

-- the value of digits in two parts
pub value_parts : (m : ℕ) (bytes more : List ℕ) → value_from m (bytes ++ more) ≡ value_from (value_from m bytes) more
value_parts m [] more = refl
value_parts m (byte ∷ bytes) more = value_parts (m * 10 + (byte - 48)) bytes more

pub value_append : (m : ℕ) (bytes : List ℕ) (byte : ℕ) → value_from m (bytes ++ (byte ∷ [])) ≡ value_from m bytes * 10 + (byte - 48)
value_append m bytes byte = value_parts m bytes (byte ∷ [])

-- one digit more, of some that stand in a row
pub value_more : (bytes : List ℕ) (i : ℕ) → i < length bytes → value_from 0 (take (i + 1) bytes) ≡ value_from 0 (take i bytes) * 10 + (get_or bytes i 0 - 48)
value_more bytes i before = rw (add-one i, take-suc bytes i 0 before) (value_append 0 (take i bytes) (get_or bytes i 0))

-- the value of the first digit, alone and with others
pub value_one : (bytes : List ℕ) → 1 ≤ length bytes → value_from 0 (take 1 bytes) ≡ get_or bytes 0 0 - 48
value_one [] some = elim some [ ]
value_one (byte ∷ bytes) some = omega arith

-- some first digits have no larger value than all
pub value_at_least : (bytes : List ℕ) (i : ℕ) → value_from 0 (take i bytes) ≤ value_from 0 bytes
value_at_least bytes i =
    let parts = ap (value_from 0) (sym (take-append-drop i bytes)) ∙ value_parts 0 (take i bytes) (drop i bytes) in
    rw parts (value_grows (value_from 0 (take i bytes)) (drop i bytes))

-- digits of which some first ones have too large a value have one
pub value_too_large : (bytes : List ℕ) (i value : ℕ) → i < length bytes → value ≡ value_from 0 (take i bytes)
    → number_limit ≤ value * 10 + (get_or bytes i 0 - 48) → number_limit ≤ value_from 0 bytes
value_too_large bytes i value before so_far large = omega (arith, large, so_far, value_more bytes i before, value_at_least bytes (i + 1))

-- a numeral's value is that of its digits
pub numeral_value : {bytes : List ℕ} {n : ℕ} → IsNumeral bytes n → n ≡ value_from 0 bytes
numeral_value (digit d small) = omega arith
numeral_value (further {bytes = bytes} {n = n} begun positive d small) = omega (arith, numeral_value begun, value_append 0 bytes (48 + d))

-- Annex 12.25: one text has one number
pub numeral_unique : {bytes : List ℕ} {m n : ℕ} → IsNumeral bytes m → IsNumeral bytes n → m ≡ n
numeral_unique first second = numeral_value first ∙ sym (numeral_value second)

-- a number in text has at least one byte
pub numeral_not_empty : {bytes : List ℕ} {n : ℕ} → IsNumeral bytes n → 1 ≤ length bytes
numeral_not_empty (digit d small) = omega arith
numeral_not_empty (further {bytes = bytes} begun positive d small) = omega (arith, length-append bytes ((48 + d) ∷ []))

-- every byte of a number in text is a digit
pub numeral_digits : {bytes : List ℕ} {n : ℕ} → IsNumeral bytes n → (i : ℕ) → i < length bytes → IsDigit (get_or bytes i 0)
numeral_digits (digit d small) zero low = (omega arith, omega arith)
numeral_digits (digit d small) (suc i) low = absurd (lt_irrefl 0 (omega arith))
numeral_digits (further {bytes = bytes} begun positive d small) i low = go (dec_lt i (length bytes)) (λ before. numeral_digits begun i before)
  where
    go : Dec (i < length bytes) → (i < length bytes → IsDigit (get_or bytes i 0)) → IsDigit (get_or (bytes ++ ((48 + d) ∷ [])) i 0)
    go (yes before) ih = rw (get_or-append bytes ((48 + d) ∷ []) 0 i before) (ih before)
    go (no past) ih =
        let last : i ≡ length bytes = omega (arith, length-append bytes ((48 + d) ∷ [])) in
        let byte : get_or (bytes ++ ((48 + d) ∷ [])) i 0 ≡ 48 + d = rw last (get_or-append_seam bytes (48 + d) [] 0) in
        (omega arith, omega arith)

-- A numeral with bytes left out at its end: one of a value that is no larger, and not 0.
pub record IsBegun (bytes : List ℕ) (i n : ℕ) : Type 0 where
  pub value : ℕ
  pub numeral : IsNumeral (take i bytes) value
  pub positive : 1 ≤ value
  pub no_larger : value ≤ n

-- the first bytes of a number in text, some but not all, are one too: not 0, and no larger
pub numeral_begun : {bytes : List ℕ} {n : ℕ} → IsNumeral bytes n → (i : ℕ) → 1 ≤ i → i < length bytes → IsBegun bytes i n
numeral_begun (digit d small) i some low = absurd (lt_irrefl 0 (omega arith))
numeral_begun (further {bytes = bytes} {n = n} begun positive d small) i some low = go (dec_lt i (length bytes)) (λ before. numeral_begun begun i some before)
  where
    go : Dec (i < length bytes) → (i < length bytes → IsBegun bytes i n) → IsBegun (bytes ++ ((48 + d) ∷ [])) i (n * 10 + d)
    go (yes before) ih =
        let at_most : i ≤ length bytes = omega arith in
        let same = take-append-le i bytes ((48 + d) ∷ []) at_most in
        record {
          value = (ih before).value;
          numeral = rw same (ih before).numeral;
          positive = (ih before).positive;
          no_larger = omega (arith, (ih before).no_larger);
        }
    go (no past) ih =
        let last : i ≡ length bytes = omega (arith, length-append bytes ((48 + d) ∷ [])) in
        record {
          value = n;
          numeral = rw (last, take-append_seam bytes ((48 + d) ∷ [])) begun;
          positive = positive;
          no_larger = omega arith;
        }
