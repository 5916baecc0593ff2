-- What holds of one number more.
use Rattle.std.specs.Prelude.{◌≡◌, ℕ, ◌+◌, ◌<◌}
use Rattle.std.proofs.Math.Path.{subst⁻¹}
use Rattle.std.proofs.Math.Decide.{dec_lt}
use Rattle.std.proofs.Common.{arith}
use Rattle.basics.specs.Below.{Between}

-- one number more
pub between_more : {from x : ℕ} {P : ℕ → Type 0} → Between from x P → P x → Between from (x + 1) P
between_more {from} {x} {P} before here y low high = go (dec_lt y x)
  where
    go : Dec (y < x) → P y
    go (yes less) = before y low less
    go (no last) = let same : y ≡ x = omega arith in subst⁻¹ P same here
