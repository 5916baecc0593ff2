-- What a function that answers yes or no promises.
use Rattle.std.specs.Prelude.{◌≡◌, Bool, true, false}

-- b is true exactly if P holds.
pub record Decides (b : Bool) (P : Type 0) : Type 0 where
  pub if_true : b ≡ true → P
  pub if_false : b ≡ false → P → ⊥
