-- First come, first out, of plain lists: what leaves with the rounds, whatever is sent between them.
use Rattle.std.specs.Prelude.{◌≡◌, List, [], ◌∷◌, ◌++◌, ℕ, zero, suc, ◌+◌, ◌≤◌, ◌<◌, min, take, drop, length}
use Rattle.std.proofs.Common.{sym, ap, ◌∙◌, append_assoc, append-nil, lt_irrefl, arith, take-append-drop, length-take, length-append, take_all, take_at}
use Rattle.std.proofs.Math.Path.{subst⁻¹}
use Rattle.std.proofs.Math.Decide.{dec_le}
use Rattle.std.proofs.lemmas.List.{take-append-le}
use Rattle.demands.specs.Mail.{joined}

-- From what waits at first: the numbers sent and accepted, in order, what has left with each held round, and what waits then.
pub data Mail (first : List ℕ) : List ℕ → List (List ℕ) → List ℕ → Type 0 where
  at_first : Mail first [] [] first
  joins : {numbers : List ℕ} {left : List (List ℕ)} {waiting : List ℕ} → Mail first numbers left waiting → (n : ℕ)
      → Mail first (numbers ++ (n ∷ [])) left (waiting ++ (n ∷ []))
  leave : {numbers : List ℕ} {left : List (List ℕ)} {waiting : List ℕ} → Mail first numbers left waiting → (free : ℕ) → 1 ≤ free
      → Mail first numbers (left ++ (take free waiting ∷ [])) (drop free waiting)

joined_snoc : (ls : List (List ℕ)) (l : List ℕ) → joined (ls ++ (l ∷ [])) ≡ joined ls ++ l
unfolding joined
joined_snoc [] l = append-nil l
joined_snoc (x ∷ ls) l = ap (λ (r : List ℕ). x ++ r) (joined_snoc ls l) ∙ sym (append_assoc x (joined ls) l)

-- all that left, in order, and all that waits, are all that waited and all that was sent, in order
pub in_turn : {first numbers : List ℕ} {left : List (List ℕ)} {waiting : List ℕ} → Mail first numbers left waiting
    → joined left ++ waiting ≡ first ++ numbers
unfolding joined
in_turn {first} at_first = sym (append-nil first)
in_turn {first} (joins {numbers} {left} {waiting} mail n) =
    sym (append_assoc (joined left) waiting (n ∷ [])) ∙ ap (λ (l : List ℕ). l ++ (n ∷ [])) (in_turn mail) ∙ append_assoc first numbers (n ∷ [])
in_turn (leave {left = left} {waiting = waiting} mail free some) =
    ap (λ (l : List ℕ). l ++ drop free waiting) (joined_snoc left (take free waiting)) ∙ append_assoc (joined left) (take free waiting) (drop free waiting)
    ∙ ap (λ (l : List ℕ). joined left ++ l) (take-append-drop free waiting) ∙ in_turn mail

-- at least one leaves with each round while any of the first waits
one_a_round : {first numbers : List ℕ} {left : List (List ℕ)} {waiting : List ℕ} → Mail first numbers left waiting
    → (q : ℕ) → q < length first → q < length left → q < length (joined left)
unfolding joined
one_a_round at_first q waits rounds = absurd (lt_irrefl q (omega arith))
one_a_round (joins mail n) q waits rounds = one_a_round mail q waits rounds
one_a_round {first} (leave {numbers} {left} {waiting} mail free some) q waits rounds =
    subst⁻¹ (λ (l : List ℕ). q < length l) (joined_snoc left (take free waiting))
    (rw (length-append (joined left) (take free waiting), length-take) (go q waits (rw length-append at rounds) (λ j low high. one_a_round mail j low high)))
  where
    all : length (joined left) + length waiting ≡ length first + length numbers
    all = sym (length-append (joined left) waiting) ∙ ap length (in_turn mail) ∙ length-append first numbers

    go : (q : ℕ) → q < length first → q < length left + 1 → ((j : ℕ) → j < length first → j < length left → j < length (joined left))
        → q < length (joined left) + min free (length waiting)
    go zero waits rounds earlier = omega (arith, all)
    go (suc q) waits rounds earlier = omega (arith, all, earlier q (omega arith) (omega arith))

-- up to the k-th of the rounds it is mail too
up_to : {first numbers : List ℕ} {left : List (List ℕ)} {waiting : List ℕ} → Mail first numbers left waiting → (k : ℕ) → k ≤ length left
    → (sent : List ℕ) × ((then : List ℕ) × Mail first sent (take k left) then)
up_to {first} at_first k few = ([], (first, subst⁻¹ (λ (l : List (List ℕ)). Mail first [] l first) (take_all k [] (omega arith)) at_first))
up_to (joins mail n) k few = up_to mail k few
up_to {first} (leave {numbers} {left} {waiting} mail free some) k few = go (dec_le k (length left)) (λ within. up_to mail k within)
  where
    all : List (List ℕ)
    all = left ++ (take free waiting ∷ [])

    go : Dec (k ≤ length left) → (k ≤ length left → (sent : List ℕ) × ((then : List ℕ) × Mail first sent (take k left) then))
        → (sent : List ℕ) × ((then : List ℕ) × Mail first sent (take k all) then)
    go (yes within) earlier =
        let (sent, (then, so_far)) = earlier within in
        (sent, (then, subst⁻¹ (λ (l : List (List ℕ)). Mail first sent l then) (take-append-le k left (take free waiting ∷ []) within) so_far))
    go (no beyond) earlier =
        let whole : take k all ≡ all = take_all k all (omega (arith, length-append left (take free waiting ∷ []))) in
        (numbers, (drop free waiting, subst⁻¹ (λ (l : List (List ℕ)). Mail first numbers l (drop free waiting)) whole (leave mail free some)))

-- one with q others ahead has left, behind them, with the first q + 1 rounds
pub out_in_turn : {first numbers : List ℕ} {left : List (List ℕ)} {waiting : List ℕ} → Mail first numbers left waiting
    → (ahead behind : List ℕ) (m : ℕ) → first ≡ ahead ++ m ∷ behind → length ahead < length left
    → take (length ahead + 1) (joined (take (length ahead + 1) left)) ≡ ahead ++ (m ∷ [])
out_in_turn {first} {left = left} mail ahead behind m waits rounds =
    let q = length ahead in
    let (numbers, (waiting, so_far)) = up_to mail (q + 1) (omega arith) in
    let gone = joined (take (q + 1) left) in
    let among : q < length first = rw waits (omega (arith, length-append ahead (m ∷ behind))) in
    let many : q < length gone = one_a_round so_far q among (rw length-take (omega arith)) in
    let order : gone ++ waiting ≡ (ahead ++ (m ∷ [])) ++ (behind ++ numbers) =
    in_turn so_far ∙ ap (λ (l : List ℕ). l ++ numbers) waits ∙ append_assoc ahead (m ∷ behind) numbers
    ∙ sym (append_assoc ahead (m ∷ []) (behind ++ numbers)) in
    sym (take-append-le (q + 1) gone waiting (omega (arith, many))) ∙ ap (take (q + 1)) order
    ∙ take_at (ahead ++ (m ∷ [])) (behind ++ numbers) (q + 1) (length-append ahead (m ∷ []))
