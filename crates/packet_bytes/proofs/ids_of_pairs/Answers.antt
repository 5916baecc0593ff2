use Rattle.std.specs.Prelude.{◌≡◌, List, [], ◌∷◌, ℕ, zero, suc, ◌+◌, ◌*◌, ◌/◌, ◌≤◌, ◌<◌, length, get_or}
use Rattle.std.specs.List.{slice_index}
use Rattle.std.specs.Simd.{first_chunks}
use Rattle.std.proofs.Common.{arith, refl, ap, ◌∙◌}
use Rattle.packet_bytes.specs.Facts.Stores.{none_taken, one_more_pair}
use Rattle.packet_bytes.proofs.ids_of_pairs.Goals as goal

-- chunk k of two bytes has the bytes at 2×k and behind it
pair_at : (n k : ℕ) (p : List ℕ) → k < n → 2 * n ≤ length p → get_or (first_chunks 2 n p) k [] ≡ get_or p (2 * k) 0 ∷ get_or p (2 * k + 1) 0 ∷ []
pair_at zero k p inside long = absurd (omega (arith, inside))
pair_at (suc n) k [] inside long = absurd (omega (arith, long))
pair_at (suc n) k (a ∷ []) inside long = absurd (omega (arith, long))
pair_at (suc n) zero (a ∷ b ∷ rest) inside long = refl
pair_at (suc n) (suc k) (a ∷ b ∷ rest) inside long =
    let even : 2 * suc k ≡ suc (suc (2 * k)) = omega arith in
    let odd : 2 * suc k + 1 ≡ suc (suc (2 * k + 1)) = omega arith in
    rw (odd, even) (pair_at n k rest (omega (arith, inside)) (omega (arith, long)))

pub loop-k-init : goal.loop-k-init
loop-k-init c = none_taken _ _ refl

pub loop-k-preserved : goal.loop-k-preserved
loop-k-preserved c =
    let part = c.args.part.now in
    let k = c.loop-k.k in
    let inside = c.loop-k-test.true in
    let pairs = c.as_chunks.ensures in
    let pair = ap (λ (l : List (List ℕ)). get_or l k []) pairs.front ∙ pair_at (length part / 2) k part (omega (arith, inside, pairs.front_len)) (omega arith) in
    let number = c.from_be_bytes.ensures ∙ ap (λ (l : List ℕ). slice_index l 0 * 256 + slice_index l 1) pair in
    one_more_pair part k _ _ c.loop-k.invariant (omega (arith, inside, pairs.front_len)) (omega (arith, inside, pairs.front_len, c.requires)) number
