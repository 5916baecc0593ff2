-- Bytes without a line end, and how a line end parts bytes.
use Rattle.std.specs.Prelude.{◌≡◌, refl, ℕ, suc, ◌+◌, ◌-◌, ◌<◌, length, drop, get_or}
use Rattle.std.proofs.Common.{sym, ap, ◌∙◌, add-one, arith, length-append, length-take, length-drop, take-append-drop, drop-drop, drop-cons, get_or-take, get_or-drop, get_or-append-add}
use mathlib.Core.List.{List, [], ◌∷◌, ◌++◌, head-eq_of_cons-eq, tail-eq_of_cons-eq}
use Rattle.std.proofs.Math.Decide.{dec_lt}
use Rattle.std.proofs.Math.ListN.{get_or-append}
use Rattle.command.specs.Lines.{IsLineEnd}
use Rattle.command.specs.Runs.{part_of}
use Rattle.console.specs.Transcript.{HasNoEnd}

-- bytes without a line end, piece by piece
pub no_end_first : (a b : List ℕ) → HasNoEnd (a ++ b) → HasNoEnd a
no_end_first a b none_there k low within ends =
    none_there k low (omega (arith, length-append a b)) (get_or-append a b 0 k within ∙ ends)

-- where the whole has no line end, its second part has none ..
pub no_end_second : (a b : List ℕ) → HasNoEnd (a ++ b) → HasNoEnd b
no_end_second a b none_there k low within ends =
    none_there (length a + k) (omega arith) (omega (arith, length-append a b)) (get_or-append-add a b k 0 ∙ ends)

-- .. and where neither part has one, the whole has none
pub no_end_both : (a b : List ℕ) → HasNoEnd a → HasNoEnd b → HasNoEnd (a ++ b)
no_end_both a b in_a in_b k low within ends = go (dec_lt k (length a))
  where
    go : Dec (k < length a) → ⊥
    go (yes first) = in_a k low first (sym (get_or-append a b 0 k first) ∙ ends)
    go (no second) =
        let e : k ≡ length a + (k - length a) = omega arith in
        in_b (k - length a) (omega arith) (omega (arith, length-append a b))
        (sym (get_or-append-add a b (k - length a) 0) ∙ ap (λ (j : ℕ). get_or (a ++ b) j 0) (sym e) ∙ ends)

-- a first part without a line end lies before the first line end
pub before_the_end : (a m line more : List ℕ) → HasNoEnd a → a ++ m ≡ line ++ (10 ∷ more) → (b : List ℕ) × ((line ≡ a ++ b) × (m ≡ b ++ (10 ∷ more)))
before_the_end [] m line more none_there same = (line, (refl, same))
before_the_end (x ∷ a) m [] more none_there same = absurd (none_there 0 (omega arith) (omega arith) (head-eq_of_cons-eq same))
before_the_end (x ∷ a) m (y ∷ line) more none_there same =
    let (b, (is_line, is_m)) = before_the_end a m line more (no_end_second (x ∷ []) a none_there) (tail-eq_of_cons-eq same) in
    (b, (ap (λ (l : List ℕ). y ∷ l) is_line ∙ ap (λ (z : ℕ). z ∷ (a ++ b)) (sym (head-eq_of_cons-eq same)), is_m))

-- the bytes from a place on, up to the next line end and behind it
pub split_line : (bytes : List ℕ) (from to : ℕ) → IsLineEnd bytes from to → to < length bytes
    → drop from bytes ≡ part_of bytes from to ++ (10 ∷ drop (to + 1) bytes)
split_line bytes from to line_end inside =
    let back : from + (to - from) ≡ to = omega (arith, line_end.after) in
    sym (take-append-drop (to - from) (drop from bytes))
    ∙ ap (λ (l : List ℕ). part_of bytes from to ++ l)
    (drop-drop (to - from) from bytes ∙ ap (λ (k : ℕ). drop k bytes) back ∙ drop-cons bytes to 0 inside
    ∙ ap (λ (x : ℕ). x ∷ drop (suc to) bytes) (line_end.ends inside) ∙ ap (λ (k : ℕ). 10 ∷ drop k bytes) (sym (add-one to)))

-- a line, up to its end, has no line end in it
pub line_no_end : (bytes : List ℕ) (from to : ℕ) → IsLineEnd bytes from to → HasNoEnd (part_of bytes from to)
line_no_end bytes from to line_end k low within ends =
    let near : k < to - from = omega (arith, within, length-take (to - from) (drop from bytes)) in
    line_end.before (from + k) (omega arith) (omega arith) (sym (get_or-drop from bytes k 0) ∙ sym (get_or-take (to - from) (drop from bytes) k 0 near) ∙ ends)

-- no whole line from a place on
pub rest_no_end : (bytes : List ℕ) (from : ℕ) → IsLineEnd bytes from (length bytes) → HasNoEnd (drop from bytes)
rest_no_end bytes from line_end k low within ends =
    line_end.before (from + k) (omega arith) (omega (arith, within, length-drop from bytes)) (sym (get_or-drop from bytes k 0) ∙ ends)
