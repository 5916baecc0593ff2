-- Why the letter and the numbers of a line tell its command.
use Rattle.std.specs.Prelude.{◌≡◌, refl, None, ℕ, ◌≤◌, ◌<◌, length, drop}
use Rattle.std.proofs.Common.{sym, ap, ◌∙◌, lt_irrefl, arith}
use mathlib.Core.List.{List, [], ◌∷◌, head-eq_of_cons-eq}
use Rattle.command.specs.Text.{IsFields, letter_O, letter_A, letter_D, letter_R}
use Rattle.command.specs.Commands.{longest_line, IsGood, IsMalformed}
use Rattle.command.specs.Reads.{IsReadFields, IsSplit}

-- How many numbers a letter takes.
pub data Takes : ℕ → ℕ → Type 0 where
  opening : Takes letter_O 4
  adding : Takes letter_A 4
  removing : Takes letter_D 1
  holding : Takes letter_R 0

takes_few : {letter n : ℕ} → Takes letter n → n ≤ 4
takes_few opening = omega arith
takes_few adding = omega arith
takes_few removing = omega arith
takes_few holding = omega arith

takes_other : {letter n : ℕ} → (letter ≡ letter_O → n ≡ 4 → ⊥) → (letter ≡ letter_A → n ≡ 4 → ⊥) → (letter ≡ letter_D → n ≡ 1 → ⊥)
    → (letter ≡ letter_R → n ≡ 0 → ⊥) → Takes letter n → ⊥
takes_other a b c d opening = a refl refl
takes_other a b c d adding = b refl refl
takes_other a b c d removing = c refl refl
takes_other a b c d holding = d refl refl

-- a line that is good for no letter with as many numbers as it takes
malformed : {line : List ℕ} → ((letter : ℕ) (ns : List ℕ) → Takes letter (length ns) → IsGood letter ns line → ⊥) → IsMalformed line
malformed refused =
    record {
      no_open = λ b f g t good. refused letter_O (b ∷ f ∷ g ∷ t ∷ []) opening good;
      no_add = λ id s p d good. refused letter_A (id ∷ s ∷ p ∷ d ∷ []) adding good;
      no_remove = λ id good. refused letter_D (id ∷ []) removing good;
      no_round = λ good. refused letter_R [] holding good;
    }

-- a line of more than 63 bytes is malformed
pub too_long : (line : List ℕ) → longest_line < length line → IsMalformed line
too_long line long = malformed (λ letter ns takes good. lt_irrefl 0 (omega (arith, good.short)))

-- the empty line is malformed
pub no_bytes : (line : List ℕ) → length line ≡ 0 → IsMalformed line
no_bytes line empty = malformed (λ letter ns takes good. lt_irrefl 0 (omega (arith, ap length good.written.begins)))

-- a good line's fields are those after its first byte
good_fields : {letter : ℕ} {ns line : List ℕ} → IsGood letter ns line → IsFields (drop 1 line) ns
good_fields good = rw good.written.begins good.written.numbers

-- a line whose fields cannot be read is malformed
pub bad_fields : {line : List ℕ} → IsReadFields line None → IsMalformed line
bad_fields bad = malformed (λ letter ns takes good. bad ns (takes_few takes) good.fits (good_fields good))

module _ {line : List ℕ} {letter : ℕ} {ns : List ℕ} (split : IsSplit line letter ns) where
  -- a line of 1 to 63 bytes is a good one of its letter and the numbers that are read
  pub good_line : IsGood letter ns line
  good_line =
      record {
        short = split.short;
        fits = split.numbers.fit;
        written = record { fields = drop 1 line; begins = split.begins; numbers = split.numbers.fields };
      }

  -- and malformed where these are not as many as the letter takes
  pub other_line :
      (letter ≡ letter_O → length ns ≡ 4 → ⊥)
      → (letter ≡ letter_A → length ns ≡ 4 → ⊥)
      → (letter ≡ letter_D → length ns ≡ 1 → ⊥)
      → (letter ≡ letter_R → length ns ≡ 0 → ⊥)
      → IsMalformed line
  other_line a b c d = malformed refused
    where
      refused : (l : ℕ) (ms : List ℕ) → Takes l (length ms) → IsGood l ms line → ⊥
      refused l ms takes good_one =
          let its_letter : l ≡ letter = head-eq_of_cons-eq (sym good_one.written.begins ∙ split.begins) in
          let its_count = ap length (split.numbers.only ms (good_fields good_one)) in
          takes_other a b c d (rw (its_letter, its_count) at takes)
