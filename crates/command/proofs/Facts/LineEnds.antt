-- The first byte 10 of the rest of the bytes ends the line that begins there.
use Rattle.std.specs.Prelude.{◌≡◌, ◌==◌, Bool, true, false, Some, None, List, ℕ, ◌+◌, ◌-◌, ◌≤◌, ◌<◌, length, take, drop, get_or, position}
use Rattle.std.specs.List.{position_or_len}
use Rattle.std.proofs.Common.{sym, ap, subst, ◌∙◌, lt_irrefl, arith, take_all, length-drop}
use Rattle.std.proofs.lemmas.Grind.{common_steps}
use Rattle.std.proofs.lemmas.List.{get_or-drop}
use Rattle.std.proofs.lemmas.List.Quantifiers.{position-Some}
use Rattle.std.proofs.lemmas.List.Sums.{fails_before_first}
use Rattle.command.specs.Lines.{NoEnd, IsLineEnd}

-- a byte that ends a line, as it is looked for
abbrev pub is_end : ℕ → Bool
is_end byte = byte == 10

ends : (byte : ℕ) → is_end byte ≡ true → byte ≡ 10
ends byte is = grind (arith, common_steps)

no_end : (byte : ℕ) → is_end byte ≡ false → byte ≡ 10 → ⊥
no_end byte is ten = grind (arith, common_steps)

-- where no byte of the rest is found, none of them passes
none_found : (p : ℕ → Bool) (xs : List ℕ) → position p xs ≡ None → (k : ℕ) → k < length xs → p (get_or xs k 0) ≡ false
none_found p xs none k before =
    let past : length xs ≤ position_or_len p xs = grind (arith, common_steps) in
    fails_before_first p xs k 0 (omega (arith, past, before))

module _ (bytes : List ℕ) (from : ℕ) (inside : from ≤ length bytes) where
  rest : take (length bytes - from) (drop from bytes) ≡ drop from bytes
  rest = take_all (length bytes - from) (drop from bytes) (omega (arith, length-drop from bytes))

  -- none of the first bytes of the rest ends a line
  none_before : (n : ℕ) → ((k : ℕ) → k < n → is_end (get_or (drop from bytes) k 0) ≡ false) → NoEnd bytes from (from + n)
  none_before n others k on below is_ten =
      let place : from + (k - from) ≡ k = omega arith in
      let there = get_or-drop from bytes (k - from) 0 ∙ ap (λ (i : ℕ). get_or bytes i 0) place in
      no_end (get_or (drop from bytes) (k - from) 0) (others (k - from) (omega arith)) (there ∙ is_ten)

  -- the first byte 10 of the rest is the line's end ..
  pub first_end_is : {before : ℕ} → Some before ≡ position is_end (take (length bytes - from) (drop from bytes)) → IsLineEnd bytes from (from + before)
  first_end_is {before} found =
      let (less, is, others) = position-Some is_end (drop from bytes) before 0 (sym (found ∙ ap (position is_end) rest)) in
      record {
        after = omega arith;
        within = omega (arith, less, length-drop from bytes);
        before = none_before before others;
        ends = λ _. sym (get_or-drop from bytes before 0) ∙ ends (get_or (drop from bytes) before 0) is;
      }

  -- .. and without one it ends where the bytes do
  pub no_end_found : None ≡ position is_end (take (length bytes - from) (drop from bytes)) → IsLineEnd bytes from (length bytes)
  no_end_found none =
      let whole : from + length (drop from bytes) ≡ length bytes = omega (arith, length-drop from bytes) in
      let others = none_found is_end (drop from bytes) (sym (none ∙ ap (position is_end) rest)) in
      record {
        after = inside;
        within = omega arith;
        before = subst (NoEnd bytes from) whole (none_before (length (drop from bytes)) others);
        ends = λ past. absurd (lt_irrefl (length bytes) past);
      }
