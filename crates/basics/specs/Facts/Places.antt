-- Where the numbers less than x end among 64 that rise, and where a number that stands among them is found.
use Rattle.std.specs.Prelude.{◌≡◌, true, false, List, ℕ, ◌≤◌, ◌<◌, ltb, length, get_or}
use Rattle.std.specs.List.Sorted.{IsPartitionedBy, IsPartitionPoint}
use Rattle.std.proofs.Common.{ap, lt_irrefl, arith, ltb-true, ltb-false}
use Rattle.std.proofs.lemmas.List.Sorted.{IsNonDecreasingBy-from_default, IsPartitionedBy-ltb}
use Rattle.std.proofs.Math.Decide.{dec_lt}
use Rattle.basics.specs.Places.{Rises, IsPlaceAmong}

-- where those less than x end among the first 63 of 64 that rise is the place of x
pub place_of_parts : (vs xs : List ℕ) (x r : ℕ) → r ≤ length xs
    → (IsPartitionedBy (λ y. ltb y x) xs → IsPartitionPoint (λ y. ltb y x ≡ true) (λ y. ltb y x ≡ false) xs r)
    → length xs ≡ 63 → ((j : ℕ) → j < 63 → get_or xs j 0 ≡ get_or vs j 0) → Rises vs → IsPlaceAmong vs x r
place_of_parts vs xs x r within parts all_but_one same rises =
    let (less, rest) = parts (IsPartitionedBy-ltb (λ (m : ℕ). m) xs x (IsNonDecreasingBy-from_default (λ (m : ℕ). m) xs 0 rise)) in
    record {
      within = omega (arith, all_but_one);
      less = λ j low. omega (arith, ltb-true _ x (less j 0 (omega arith) low), same j (omega (arith, all_but_one)));
      rest = λ j from low. omega (arith, ltb-false _ x (rest j 0 from (omega (arith, all_but_one))), same j low);
    }
  where
    rise : (i j : ℕ) → i ≤ j → j < length xs → get_or xs i 0 ≤ get_or xs j 0
    rise i j order inside = go (dec_lt i j)
      where
        below : j < 63
        below = omega (arith, all_but_one)

        go : Dec (i < j) → get_or xs i 0 ≤ get_or xs j 0
        go (yes less) = omega (arith, rises i j less (omega (arith, below)), same i (omega (arith, below)), same j below)
        go (no apart) = let e : i ≡ j = omega arith in omega (arith, ap (λ (k : ℕ). get_or xs k 0) e)

-- where the first n numbers rise strictly, the number of place k below n is found at k
pub place_found : {vs : List ℕ} {x r : ℕ} (n k : ℕ) → n ≤ 64 → ((i j : ℕ) → i < j → j < n → get_or vs i 0 < get_or vs j 0)
    → k < n → get_or vs k 0 ≡ x → IsPlaceAmong vs x r → r ≡ k
place_found {vs} {x} {r} n k few rises inside here place = go (dec_lt r k) (dec_lt k r)
  where
    go : Dec (r < k) → Dec (k < r) → r ≡ k
    go (yes before) other = absurd (lt_irrefl x (omega (arith, place.rest r (omega arith) (omega arith), rises r k before inside)))
    go (no not_before) (yes after) = absurd (lt_irrefl x (omega (arith, place.less k after)))
    go (no not_before) (no not_after) = omega arith
