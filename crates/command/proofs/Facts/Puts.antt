-- What is put into a buffer piece by piece, and what numerals, fields and lines are made of.
use Rattle.std.specs.Prelude.{◌≡◌, refl, List, [], ◌∷◌, ◌++◌, ℕ, zero, suc, ◌+◌, ◌-◌, ◌*◌, ◌/◌, ◌%◌, ◌^◌, ◌≤◌, ◌<◌, length, get_or, take, drop, set}
use Rattle.std.proofs.Common.{sym, ap, subst, ◌∙◌, append-nil, append_assoc, add-zero, mod-lt, add-one, arith, length-append, length-take}
use Rattle.std.proofs.Common.{length-drop, take-append-drop, length-take-le, take-suc, take_at, take_all, drop_at, drop-drop, drop_of_length-le}
use Rattle.std.proofs.Math.Path.{subst⁻¹}
use Rattle.std.proofs.lemmas.List.{set_split}
use borrow.Rule.Slice.PartMut.{put_mid}
use Rattle.command.specs.Text.{IsNumeral, IsFields, IsWritten}
use Rattle.command.specs.Text.IsNumeral.{digit, further}
use Rattle.command.specs.Text.IsFields.{none, more}
use Rattle.command.specs.Puts.{IsPut, IsLine, AreLines, no_lines, line_then}

-- A byte set at a place.
pub put_byte : (l : List ℕ) (at b : ℕ) → at < length l → IsPut (λ bytes. bytes ≡ b ∷ []) l (set l at b) at (at + 1)
put_byte l at b inside =
    record {
      bytes = b ∷ [];
      property = refl;
      ends = refl;
      content = set_split l at b inside ∙ ap (λ (n : ℕ). take at l ++ (b ∷ drop n l)) (sym (add-one at));
    }

-- Nothing put.
pub put_none : {P : List ℕ → Type 0} (l : List ℕ) (at : ℕ) → P [] → IsPut P l l at at
put_none l at nothing = record { bytes = []; property = nothing; ends = sym (add-zero at); content = sym (take-append-drop at l) }

-- A property that follows from another.
pub put_as : {P Q : List ℕ → Type 0} {before after : List ℕ} {at r : ℕ} → ((bytes : List ℕ) → P bytes → Q bytes)
    → IsPut P before after at r → IsPut Q before after at r
put_as follows put = record { bytes = put.bytes; property = follows put.bytes put.property; ends = put.ends; content = put.content }

-- Two pieces one after the other, the second from where the first ends.
put_then : {P Q R : List ℕ → Type 0} {before mid after : List ℕ} {at r₁ r₂ : ℕ} → at ≤ length before
    → ((p q : List ℕ) → P p → Q q → R (p ++ q))
    → IsPut P before mid at r₁ → IsPut Q mid after r₁ r₂ → IsPut R before after at r₂
put_then {before} {mid} {after} {at} {r₁} {r₂} inside together first second =
    let p = first.bytes in
    let q = second.bytes in
    let front = take at before ++ p in
    let long : length front ≡ r₁ = length-append (take at before) p ∙ ap (λ (n : ℕ). n + length p) (length-take-le at before inside) ∙ sym first.ends in
    let split : mid ≡ front ++ drop r₁ before = first.content ∙ sym (append_assoc (take at before) p (drop r₁ before)) in
    let kept : take r₁ mid ≡ front = ap (take r₁) split ∙ take_at front (drop r₁ before) r₁ long in
    let rest : drop r₁ mid ≡ drop r₁ before = ap (drop r₁) split ∙ drop_at front (drop r₁ before) r₁ long in
    let past : drop r₂ mid ≡ drop r₂ before =
    ap (λ (n : ℕ). drop n mid) second.ends ∙ sym (drop-drop (length q) r₁ mid)
    ∙ ap (drop (length q)) rest
    ∙ drop-drop (length q) r₁ before ∙ ap (λ (n : ℕ). drop n before) (sym second.ends) in
    record {
      bytes = p ++ q;
      property = together p q first.property second.property;
      ends = omega (arith, first.ends, second.ends, length-append p q);
      content =
          second.content
          ∙ ap (λ (l : List ℕ). l ++ (q ++ drop r₂ mid)) kept
          ∙ ap (λ (l : List ℕ). front ++ (q ++ l)) past
          ∙ append_assoc (take at before) p (q ++ drop r₂ before)
          ∙ ap (λ (l : List ℕ). take at before ++ l) (sym (append_assoc p q (drop r₂ before)));
    }

-- What is put at the front of the rest of a buffer stands in the buffer from where the rest begins.
pub put_in_rest : {P : List ℕ → Type 0} {before part : List ℕ} (at : ℕ) {n : ℕ} → at ≤ length before
    → IsPut P (take (length before - at) (drop at before)) part 0 n
    → IsPut P before (put_mid at (length before - at) before part) at (at + n)
put_in_rest {before = before} {part = part} at {n} inside put =
    let rest : take (length before - at) (drop at before) ≡ drop at before =
    take_all (length before - at) (drop at before) (omega (arith, length-drop at before)) in
    let behind : drop (length before - at) (drop at before) ≡ [] =
    drop_of_length-le (drop at before) {i = length before - at} (omega (arith, length-drop at before)) in
    record {
      bytes = put.bytes;
      property = put.property;
      ends = omega (arith, put.ends);
      content =
          ap (λ (l : List ℕ). take at before ++ (part ++ l)) behind
          ∙ ap (λ (l : List ℕ). take at before ++ l) (append-nil part ∙ put.content)
          ∙ ap (λ (l : List ℕ). take at before ++ (put.bytes ++ drop n l)) rest
          ∙ ap (λ (l : List ℕ). take at before ++ (put.bytes ++ l)) (drop-drop n at before);
    }

-- A number below 10 ^ k has at most k digits.
numeral_short : {bytes : List ℕ} {n : ℕ} → IsNumeral bytes n → (k : ℕ) → 1 ≤ k → n < 10 ^ k → length bytes ≤ k
numeral_short (digit d small) k some below = some
numeral_short (further num pos d small) zero some below = absurd (omega (arith, some))
numeral_short (further num pos d small) (suc zero) some below = absurd (omega (arith, pos, below))
numeral_short (further {bytes} {n} num pos d small) (suc (suc k)) some below =
    let tenth : n < 10 ^ suc k = omega (arith, below) in
    let ih = numeral_short num (suc k) (omega arith) tenth in
    omega (arith, ih, length-append bytes ((48 + d) ∷ []))

-- The digits of a tenth of a number, and its last digit.
last_digit : (bytes : List ℕ) (value : ℕ) → 10 ≤ value → IsNumeral bytes (value / 10) → IsNumeral (bytes ++ ((48 + value % 10) ∷ [])) value
last_digit bytes value high num =
    let longer = further num (omega (arith, high)) (value % 10) (mod-lt value (omega arith)) in
    subst (IsNumeral (bytes ++ ((48 + value % 10) ∷ []))) (omega arith) longer

-- A comma and a number are one field.
one_field : (bytes : List ℕ) (n : ℕ) → IsNumeral bytes n → IsFields (44 ∷ bytes) (n ∷ [])
one_field bytes n num = subst (λ (l : List ℕ). IsFields (44 ∷ l) (n ∷ [])) (append-nil bytes) (more num none)

-- Fields after fields.
fields_append : {bytes ns : List ℕ} → IsFields bytes ns → (after ms : List ℕ) → IsFields after ms → IsFields (bytes ++ after) (ns ++ ms)
fields_append none after ms later = later
fields_append (more {bytes} {rest} {n} {ns} num fields) after ms later =
    let all = more num (fields_append fields after ms later) in
    subst (λ (l : List ℕ). IsFields (44 ∷ l) (n ∷ (ns ++ ms))) (sym (append_assoc bytes rest after)) all

-- A number below 10 is its digit.
pub put_one_digit : {before after : List ℕ} {at r : ℕ} (value : ℕ) → value < 10
    → IsPut (λ bytes. bytes ≡ (48 + value) ∷ []) before after at r
    → IsPut (λ bytes. IsNumeral bytes value × (length bytes ≤ 20)) before after at r
put_one_digit value small =
    put_as λ bytes one. subst (λ (l : List ℕ). IsNumeral l value × (length l ≤ 20)) (sym one) (digit value small, omega arith)

-- A tenth of a 64-bit number has at most 19 digits.
pub tenth_ends : {before after : List ℕ} {at r : ℕ} (value : ℕ) → value < 2 ^ 64
    → IsPut (λ bytes. IsNumeral bytes (value / 10) × (length bytes ≤ 20)) before after at r → r ≤ at + 19
tenth_ends value fits put =
    let below : value / 10 < 10 ^ 19 = omega (arith, fits) in
    omega (arith, put.ends, numeral_short put.property.0 19 (omega arith) below)

-- The digits of a tenth, then the last digit.
pub put_last_digit : {before mid after : List ℕ} {at end r : ℕ} (value : ℕ) → value < 2 ^ 64 → 10 ≤ value → at ≤ length before
    → IsPut (λ bytes. IsNumeral bytes (value / 10) × (length bytes ≤ 20)) before mid at end
    → IsPut (λ bytes. bytes ≡ (48 + value % 10) ∷ []) mid after end r
    → IsPut (λ bytes. IsNumeral bytes value × (length bytes ≤ 20)) before after at r
put_last_digit value fits high inside tenth last =
    put_then inside (λ p q first one. subst (λ (l : List ℕ). IsNumeral (p ++ l) value × (length (p ++ l) ≤ 20)) (sym one) (
      last_digit p value high first.0,
      numeral_short (last_digit p value high first.0) 20 (omega arith) (omega (arith, fits)),
    )) tenth last

-- A comma, then a number.
pub put_field : {before mid after : List ℕ} {at end r : ℕ} (value : ℕ) → at ≤ length before
    → IsPut (λ bytes. bytes ≡ 44 ∷ []) before mid at end
    → IsPut (λ bytes. IsNumeral bytes value × (length bytes ≤ 20)) mid after end r
    → IsPut (λ bytes. IsFields bytes (value ∷ []) × (length bytes ≤ 21)) before after at r
put_field value inside =
    put_then inside λ p q comma number.
    subst (λ (l : List ℕ). IsFields (l ++ q) (value ∷ []) × (length (l ++ q) ≤ 21)) (sym comma)
    (one_field q value number.0, omega (arith, number.1))

-- One field more.
pub put_field_more : {before mid after : List ℕ} {at end r : ℕ} (values : List ℕ) (i : ℕ) → i < length values → at ≤ length before
    → IsPut (λ bytes. IsFields bytes (take i values) × (length bytes ≤ 21 * i)) before mid at end
    → IsPut (λ bytes. IsFields bytes (get_or values i 0 ∷ []) × (length bytes ≤ 21)) mid after end r
    → IsPut (λ bytes. IsFields bytes (take (i + 1) values) × (length bytes ≤ 21 * (i + 1))) before after at r
put_field_more values i in_values inside =
    let one_more = sym (take-suc values i 0 in_values) ∙ ap (λ (n : ℕ). take n values) (sym (add-one i)) in
    put_then inside λ p q fields field. (
      subst (IsFields (p ++ q)) one_more (fields_append fields.0 q (get_or values i 0 ∷ []) field.0),
      omega (arith, length-append p q, fields.1, field.1),
    )

-- A letter, fields and the byte 10 are a line.
pub put_line : {before lettered filled after : List ℕ} {at first end r : ℕ} (letter : ℕ) (ns : List ℕ) (room : ℕ) → at ≤ length before
    → IsPut (λ bytes. bytes ≡ letter ∷ []) before lettered at first
    → IsPut (λ bytes. IsFields bytes ns × (length bytes ≤ room)) lettered filled first end
    → IsPut (λ bytes. bytes ≡ 10 ∷ []) filled after end r
    → IsPut (IsLine letter ns) before after at r
put_line letter ns room inside begun fields ended =
    let written = put_then {R = IsWritten letter ns} inside
    (λ p q one numbers. record { fields = q; begins = ap (λ (l : List ℕ). l ++ q) one; numbers = numbers.0 })
    begun fields in
    put_then inside (λ p q line one. record { line = p; written = line; ended = ap (λ (l : List ℕ). p ++ l) one }) written ended

-- the buffer stays as long as it was
pub put_length : {P : List ℕ → Type 0} {before after : List ℕ} {at r : ℕ} → IsPut P before after at r → r ≤ length before → length after ≡ length before
put_length {before = before} {at = at} {r = r} put within =
    ap length put.content ∙ length-append (take at before) (put.bytes ++ drop r before)
    ∙ rw (length-append, length-take, length-drop) (omega (arith, put.ends, within))

-- up to the end of what was put stands what stood before it, and then the bytes put
pub put_written : {P : List ℕ → Type 0} {before after : List ℕ} {at r : ℕ} (put : IsPut P before after at r) → at ≤ length before
    → take r after ≡ take at before ++ put.bytes
put_written {before = before} {at = at} {r = r} put inside =
    let front = take at before ++ put.bytes in
    let long : length front ≡ r = length-append (take at before) put.bytes ∙ omega (arith, length-take-le at before inside, put.ends) in
    ap (take r) (put.content ∙ sym (append_assoc (take at before) put.bytes (drop r before))) ∙ take_at front (drop r before) r long

-- one line is lines
one_line : {letter : ℕ} {ns bytes : List ℕ} → IsLine letter ns bytes → AreLines ((letter, ns) ∷ []) bytes
one_line {letter} {ns} {bytes} is = subst (AreLines ((letter, ns) ∷ [])) (append-nil bytes) (line_then is no_lines)

-- so where one line is put, lines are
pub put_one_line : {letter : ℕ} {ns before after : List ℕ} {at r : ℕ} → IsPut (IsLine letter ns) before after at r
    → IsPut (AreLines ((letter, ns) ∷ [])) before after at r
put_one_line = put_as λ bytes. one_line

-- and lines that are one are it
pub only_line : {letter : ℕ} {ns bytes : List ℕ} → AreLines ((letter, ns) ∷ []) bytes → IsLine letter ns bytes
only_line {letter} {ns} (line_then {bytes} is no_lines) = subst⁻¹ (IsLine letter ns) (append-nil bytes) is
