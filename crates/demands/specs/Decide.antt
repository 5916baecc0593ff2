-- Deciders of what calls are refused for.
use Rattle.std.specs.Prelude.{◌≡◌, refl, ℕ, ◌<◌}
use mathlib.Core.List.{List, [], ◌∷◌, cons≢nil}
use Rattle.std.proofs.Math.Decide.{dec_lt}
use Rattle.std.proofs.Common.{arith}
use Rattle.basics.specs.Limits.{longest_frame}
use Rattle.places.specs.Order.{Entry}
use Rattle.superframe.specs.Periods.{AllInRange, IsLcm}
use Rattle.superframe.specs.Decide.{lcm_exists}
use Rattle.superframe.specs.Facts.Periods.{lcm_unique}

-- whether there is no entry can be decided
pub decide_none : (es : List Entry) → Dec (es ≡ [])
decide_none [] = yes refl
decide_none (e ∷ es) = no (λ same. cons≢nil same)

-- whether the least common multiple of periods in range is above 5,040 can be decided
pub decide_above : (periods : List ℕ) → Dec (AllInRange periods) → Dec (AllInRange periods → (m : ℕ) → IsLcm periods m → longest_frame < m)
decide_above periods (no bad) = yes (λ good. absurd (bad good))
decide_above periods (yes good) = go (dec_lt longest_frame m)
  where
    m : ℕ
    m = (lcm_exists periods good).0

    go : Dec (longest_frame < m) → Dec (AllInRange periods → (n : ℕ) → IsLcm periods n → longest_frame < n)
    go (yes above) = yes (λ _ n is. omega (arith, above, lcm_unique periods m n (lcm_exists periods good).1 is))
    go (no within) = no (λ all. within (all good m (lcm_exists periods good).1))
