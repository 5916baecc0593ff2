-- Text tells its numbers, and numbers tell their text: a line says one command and no other, and an answer has one text.
use Rattle.std.specs.Prelude.{◌≡◌, refl, ◌⊎◌, Option, Some, None, ℕ, ◌+◌, ◌≤◌, length, take, drop, get_or}
use Rattle.std.proofs.Common.{sym, ap, ◌∙◌, inl, inr, lt_irrefl, arith, length-append}
use Rattle.std.proofs.Math.Logic.{ite}
use mathlib.Core.List.{List, [], ◌∷◌, ◌++◌, head-eq_of_cons-eq, tail-eq_of_cons-eq, nil≢cons, append_cancel_right}
use Rattle.std.proofs.Math.Decide.{ℕ_discrete}
use Rattle.std.proofs.Math.Seq.{take-append_seam, drop-append_seam}
use Rattle.command.specs.Text.{IsNumeral, IsFields, letter_O, letter_A, letter_D, letter_R}
use Rattle.command.specs.Text.IsNumeral.{digit, further}
use Rattle.command.specs.Text.IsFields.{none, more}
use Rattle.command.specs.Commands.{IsGood, IsMalformed, Says}
use Rattle.command.specs.Puts.{IsLine, AreLines, no_lines, line_then}
use Rattle.command.proofs.Facts.Text.{numeral_unique}
use Rattle.command.proofs.Facts.Numbers.{ends_last}
use Rattle.command.proofs.Facts.Fields.{IsFirst, fields_cases, ends_before}
use Rattle.command.specs.declared.Command.{Command}
use Rattle.command.specs.declared.Command.TheVariants.{Open, Add, Remove, Round}

-- Annex 12.25: one number has one text (and one text one number: `numeral_unique`)
pub numeral_text : {one other : List ℕ} {m n : ℕ} → IsNumeral one m → IsNumeral other n → m ≡ n → one ≡ other
numeral_text (digit d small) (digit e little) same = ap (λ (k : ℕ). (48 + k) ∷ []) same
numeral_text (digit d small) (further numeral some e little) same = absurd (lt_irrefl 0 (omega arith))
numeral_text (further numeral some d small) (digit e little) same = absurd (lt_irrefl 0 (omega arith))
numeral_text (further {bytes} {n} numeral some d small) (further {bytes = others} {n = m} numeral' some' e little) same =
    let tens : n ≡ m = omega arith in
    let last : d ≡ e = omega arith in
    let begun = numeral_text numeral numeral' tens in
    λ i. begun i ++ ((48 + last i) ∷ [])

-- the same numbers have the same fields ..
fields_text : {one other ns : List ℕ} → IsFields one ns → IsFields other ns → one ≡ other
fields_text none none = refl
fields_text (more numeral fields) (more numeral' fields') =
    let first = numeral_text numeral numeral' refl in
    let rest = fields_text fields fields' in
    λ i. 44 ∷ (first i ++ rest i)

-- .. and a numeral before fields is the whole of one that stands there too, so that ..
no_longer : (one other rest : List ℕ) {rest' ns : List ℕ} {n : ℕ} → IsNumeral one n → IsFields rest' ns → one ++ rest ≡ other ++ rest'
    → length one ≤ length other
no_longer one other rest {rest'} {n = n} numeral fields same =
    let whole : IsNumeral (take (length one) (other ++ rest')) n = rw (← same, take-append_seam one rest) numeral in
    ends_last (length one) (ends_before other fields) (omega (arith, length-append one rest, ap length same)) whole

same_seam : (one other : List ℕ) {rest rest' ns ms : List ℕ} {m n : ℕ} → IsNumeral one m → IsNumeral other n → IsFields rest ns → IsFields rest' ms
    → one ++ rest ≡ other ++ rest' → (one ≡ other) × (rest ≡ rest')
same_seam one other {rest} {rest'} numeral numeral' fields fields' same =
    let before = no_longer one other rest numeral fields' same in
    let after = no_longer other one rest' numeral' fields (sym same) in
    let long : length one ≡ length other = omega arith in (
      sym (take-append_seam one rest) ∙ (λ i. take (long i) (same i)) ∙ take-append_seam other rest',
      sym (drop-append_seam one rest) ∙ (λ i. drop (long i) (same i)) ∙ drop-append_seam other rest',
    )

-- .. the same fields have the same numbers
fields_numbers : {bytes ns : List ℕ} → IsFields bytes ns → (other ms : List ℕ) → bytes ≡ other → IsFields other ms → ns ≡ ms
fields_numbers none other ms same fields = go (fields_cases fields)
  where
    go : ((other ≡ []) × (ms ≡ [])) ⊎ IsFirst other ms → [] ≡ ms
    go (inl (_, nothing)) = sym nothing
    go (inr f) = absurd (nil≢cons (same ∙ f.split))
fields_numbers (more {bytes} {rest} {n} {ns} numeral further_fields) other ms same fields =
    go (fields_cases fields) (λ others ks e later. fields_numbers further_fields others ks e later)
  where
    go : ((other ≡ []) × (ms ≡ [])) ⊎ IsFirst other ms → ((others ks : List ℕ) → rest ≡ others → IsFields others ks → ns ≡ ks) → (n ∷ ns) ≡ ms
    go (inl (nothing, _)) later = absurd (nil≢cons (sym nothing ∙ sym same))
    go (inr f) later =
        let (first, left) = same_seam bytes f.numeral_bytes numeral f.numeral further_fields f.further (tail-eq_of_cons-eq (same ∙ f.split)) in
        let number : n ≡ f.number = numeral_unique numeral (rw first f.numeral) in
        let numbers = later f.rest f.others left f.further in
        (λ i. number i ∷ numbers i) ∙ sym f.numbers

-- Annex 12.25: a letter and numbers have one line with its end
pub line_text : {letter : ℕ} {ns one other : List ℕ} → IsLine letter ns one → IsLine letter ns other → one ≡ other
line_text {letter} is is' =
    let fields = fields_text is.written.numbers is'.written.numbers in
    let line : is.line ≡ is'.line = is.written.begins ∙ ap (λ (l : List ℕ). letter ∷ l) fields ∙ sym is'.written.begins in
    is.ended ∙ ap (λ (l : List ℕ). l ++ (10 ∷ [])) line ∙ sym is'.ended

-- Annex 12.25: so have lines one after the other
pub lines_text : {lines : List (ℕ × List ℕ)} {one other : List ℕ} → AreLines lines one → AreLines lines other → one ≡ other
lines_text no_lines no_lines = refl
lines_text (line_then is later) (line_then is' later') = λ i. line_text is is' i ++ lines_text later later' i

-- Annex 12.25: and a line with its end one letter and one list of numbers
pub line_numbers : {letter letter' : ℕ} {ns ms bytes : List ℕ} → IsLine letter ns bytes → IsLine letter' ms bytes → (letter ≡ letter') × (ns ≡ ms)
line_numbers {ms = ms} is is' =
    let line : is.line ≡ is'.line = append_cancel_right is.line is'.line (10 ∷ []) (sym is.ended ∙ is'.ended) in
    let same = sym is.written.begins ∙ line ∙ is'.written.begins in
    (head-eq_of_cons-eq same, fields_numbers is.written.numbers is'.written.fields ms (tail-eq_of_cons-eq same) is'.written.numbers)

-- a good line has one letter, and one list of numbers
pub good_unique : {letter letter' : ℕ} {ns ms line : List ℕ} → IsGood letter ns line → IsGood letter' ms line → (letter ≡ letter') × (ns ≡ ms)
good_unique {ms = ms} good good' =
    let same = sym good.written.begins ∙ good'.written.begins in
    (head-eq_of_cons-eq same, fields_numbers good.written.numbers good'.written.fields ms (tail-eq_of_cons-eq same) good'.written.numbers)

-- The command of a letter and numbers.
command_from : ℕ → List ℕ → Command
command_from letter ns =
    ite (ℕ_discrete letter letter_O) (Open (get_or ns 0 0) (get_or ns 1 0) (get_or ns 2 0) (get_or ns 3 0))
    (ite (ℕ_discrete letter letter_A) (Add (get_or ns 0 0) (get_or ns 1 0) (get_or ns 2 0) (get_or ns 3 0))
    (ite (ℕ_discrete letter letter_D) (Remove (get_or ns 0 0)) Round))

-- What is said by a good line that says a command.
record IsSaid (line : List ℕ) (c : Option Command) : Type 0 where
  letter : ℕ
  numbers : List ℕ
  good : IsGood letter numbers line
  command : Some (command_from letter numbers) ≡ c

said : (line : List ℕ) (c : Option Command) → Says line c → IsSaid line c ⊎ (IsMalformed line × (c ≡ None))
unfolding command_from ℕ_discrete
said line (Some (Open b f g t)) says = inl (record { letter = letter_O; numbers = b ∷ f ∷ g ∷ t ∷ []; good = says; command = refl })
said line (Some (Add id s p d)) says = inl (record { letter = letter_A; numbers = id ∷ s ∷ p ∷ d ∷ []; good = says; command = refl })
said line (Some (Remove id)) says = inl (record { letter = letter_D; numbers = id ∷ []; good = says; command = refl })
said line (Some Round) says = inl (record { letter = letter_R; numbers = []; good = says; command = refl })
said line None says = inr (says, refl)

-- a malformed line says nothing else
malformed_says_none : (line : List ℕ) → IsMalformed line → (c : Option Command) → Says line c → c ≡ None
malformed_says_none line bad (Some (Open b f g t)) says = absurd (bad.no_open b f g t says)
malformed_says_none line bad (Some (Add id s p d)) says = absurd (bad.no_add id s p d says)
malformed_says_none line bad (Some (Remove id)) says = absurd (bad.no_remove id says)
malformed_says_none line bad (Some Round) says = absurd (bad.no_round says)
malformed_says_none line bad None says = refl

-- Annex 12.25: a line says one command and no other, or is malformed and says none
pub says_one : (line : List ℕ) (c d : Option Command) → Says line c → Says line d → c ≡ d
says_one line c d says says' = go (said line c says) (said line d says')
  where
    go : IsSaid line c ⊎ (IsMalformed line × (c ≡ None)) → IsSaid line d ⊎ (IsMalformed line × (d ≡ None)) → c ≡ d
    go (inr (bad, none_said)) other = none_said ∙ sym (malformed_says_none line bad d says')
    go (inl a) (inr (bad, none_said)) = malformed_says_none line bad c says ∙ sym none_said
    go (inl a) (inl b) =
        let same = good_unique a.good b.good in
        sym a.command ∙ (λ i. Some (command_from (same.0 i) (same.1 i))) ∙ b.command
