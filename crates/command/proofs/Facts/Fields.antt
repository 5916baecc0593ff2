-- Why reading field after field finds the numbers of a line.
use Rattle.std.specs.Prelude.{◌≡◌, refl, ◌⊎◌, Option, Some, None, ℕ, ◌+◌, ◌≤◌, ◌<◌, length, take, drop, get_or}
use Rattle.std.proofs.Common.{sym, ap, ◌∙◌, inl, inr, lt_irrefl, add-one, arith, length-append, length-drop, take-append-drop, drop-cons, drop-drop}
use mathlib.Core.List.{List, [], ◌∷◌, ◌++◌, mem-cons_self, head-eq_of_cons-eq, tail-eq_of_cons-eq}
use Rattle.std.proofs.Math.Seq.{take-append_seam, drop-append_seam, get_or-append_seam}
use Rattle.command.specs.Text.{IsNumeral, IsFields, none, more}
use Rattle.command.specs.Commands.{number_limit}
use Rattle.command.proofs.Facts.Text.{numeral_unique}
use Rattle.command.proofs.Facts.Numbers.{ends_last}
use Rattle.command.specs.Reads.{Ends, at_end, before_other, IsNumberAtStart, IsReadNumber, IsReadField, Fit}
use Rattle.command.specs.declared.numbers.Numeral.{Numeral}

-- The first field of some, and the rest.
pub record IsFirst (bytes ns : List ℕ) : Type 0 where
  pub numeral_bytes : List ℕ
  pub rest : List ℕ
  pub number : ℕ
  pub others : List ℕ
  pub split : bytes ≡ 44 ∷ (numeral_bytes ++ rest)
  pub numbers : ns ≡ number ∷ others
  pub numeral : IsNumeral numeral_bytes number
  pub further : IsFields rest others

-- fields are none, or a first and the rest
pub fields_cases : {bytes ns : List ℕ} → IsFields bytes ns → ((bytes ≡ []) × (ns ≡ [])) ⊎ IsFirst bytes ns
fields_cases none = inl (refl, refl)
fields_cases (more {bytes = bytes} {rest = rest} {n = n} {ns = ns} numeral further) =
    inr
    record {
      numeral_bytes = bytes;
      rest = rest;
      number = n;
      others = ns;
      split = refl;
      numbers = refl;
      numeral = numeral;
      further = further;
    }

-- a number ends before the next field
pub ends_before : (bytes : List ℕ) {rest ns : List ℕ} → IsFields rest ns → Ends (bytes ++ rest) (length bytes)
ends_before bytes none = at_end (omega (arith, length-append bytes []))
ends_before bytes (more {bytes = other} {rest = rest} numeral further) =
    let comma = get_or-append_seam bytes 44 (other ++ rest) 0 in
    before_other (omega (arith, length-append bytes (44 ∷ (other ++ rest)))) (λ digit. lt_irrefl 0 (omega (arith, comma, digit.0)))

-- the first field's number is the one at the start of the bytes after its comma
first_at_start : (bytes : List ℕ) {rest ns : List ℕ} {v : ℕ} → IsNumeral bytes v → IsFields rest ns → v < number_limit
    → IsNumberAtStart (bytes ++ rest) v (length bytes)
first_at_start bytes {rest = rest} numeral further fits =
    record {
      within = omega (arith, length-append bytes rest);
      numeral = rw (take-append_seam bytes rest) numeral;
      fits = fits;
      ends = ends_before bytes further;
    }

-- what is read at the start is the first field's number, and what follows it is the rest
number_first : (bytes : List ℕ) {rest ns : List ℕ} {v w n : ℕ} → IsNumeral bytes w → IsFields rest ns → IsNumberAtStart (bytes ++ rest) v n
    → (v ≡ w) × (drop n (bytes ++ rest) ≡ rest)
number_first bytes {rest = rest} {w = w} {n = n} numeral further start =
    let cut = take-append_seam bytes rest in
    let whole : IsNumeral (take (length bytes) (bytes ++ rest)) w = rw cut numeral in
    let before = ends_last n (ends_before bytes further) start.within start.numeral in
    let after = ends_last (length bytes) start.ends (omega (arith, length-append bytes rest)) whole in
    let all : n ≡ length bytes = omega arith in
    (numeral_unique (rw (all, cut) at start.numeral) numeral, rw (all, drop-append_seam bytes rest))

-- before the line's end some byte is left
pub not_at_end : (line : List ℕ) (at : ℕ) → at < length line → drop at line ≡ [] → ⊥
not_at_end line at inside end = lt_irrefl 0 (omega (arith, length-drop at line, ap length end))

-- The numbers that follow some given ones, and their fields.
pub record IsAfter (bytes read ns : List ℕ) : Type 0 where
  pub others : List ℕ
  pub numbers : ns ≡ read ++ others
  pub fields : IsFields bytes others

module _ (line : List ℕ) (at : ℕ) (inside : at < length line) where
  at_byte : drop at line ≡ get_or line at 0 ∷ drop (at + 1) line
  at_byte = rw add-one (drop-cons line at 0 inside)

  -- a field that is read, and the rest
  module _ {v n : ℕ} (comma : get_or line at 0 ≡ 44) (start : IsNumberAtStart (drop (at + 1) line) v n) where
    -- a field that is read ends within the line
    pub field_within : at + 1 + n ≤ length line
    field_within = omega (arith, length-drop (at + 1) line, start.within)

    -- with whatever fields follow it, it makes fields with its number in front ..
    pub field_on : (ns : List ℕ) → IsFields (drop (at + 1 + n) line) ns → IsFields (drop at line) (v ∷ ns)
    field_on ns fields =
        let rest = drop (at + 1) line in
        let there : drop at line ≡ 44 ∷ (take n rest ++ drop (at + 1 + n) line) =
        rw (at_byte, comma, ← (drop-drop n (at + 1) line), take-append-drop n rest) in
        rw there (more start.numeral fields)

    -- .. and whatever numbers the fields from there on have, its own is the first, and the fields behind it have the others
    pub field_back : (ns : List ℕ) → IsFields (drop at line) ns → IsAfter (drop (at + 1 + n) line) (v ∷ []) ns
    field_back ns fields = go (fields_cases fields)
      where
        go : ((drop at line ≡ []) × (ns ≡ [])) ⊎ IsFirst (drop at line) ns → IsAfter (drop (at + 1 + n) line) (v ∷ []) ns
        go (inl (end, _)) = absurd (not_at_end line at inside end)
        go (inr f) =
            let here : drop (at + 1) line ≡ f.numeral_bytes ++ f.rest = tail-eq_of_cons-eq (sym at_byte ∙ f.split) in
            let same = number_first f.numeral_bytes f.numeral f.further (rw here at start) in
            let rest : drop (at + 1 + n) line ≡ f.rest = sym (drop-drop n (at + 1) line) ∙ rw here same.1 in
            record { others = f.others; numbers = rw same.0 f.numbers; fields = rw rest f.further }

  -- where no field can be read, none is written
  pub field_bad : IsReadField line at None → (ns : List ℕ) → Fit ns → IsFields (drop at line) ns → ⊥
  field_bad bad ns fit fields = go (fields_cases fields)
    where
      go : ((drop at line ≡ []) × (ns ≡ [])) ⊎ IsFirst (drop at line) ns → ⊥
      go (inl (end, _)) = not_at_end line at inside end
      go (inr f) =
          let here : drop (at + 1) line ≡ f.numeral_bytes ++ f.rest = tail-eq_of_cons-eq (sym at_byte ∙ f.split) in
          let fits : f.number < number_limit = fit f.number (rw f.numbers mem-cons_self) in
          let comma = head-eq_of_cons-eq (sym at_byte ∙ f.split) in
          let number = first_at_start f.numeral_bytes f.numeral f.further fits in
          bad comma f.number (length f.numeral_bytes) (rw here number)

-- The answer of the number reader holds for the field too.
pub field_read : (line : List ℕ) (at : ℕ) (r : Option Numeral) → get_or line at 0 ≡ 44 → IsReadNumber (drop (at + 1) line) r → IsReadField line at r
field_read line at (Some r) comma read = (comma, read)
field_read line at None comma read = λ _. read
