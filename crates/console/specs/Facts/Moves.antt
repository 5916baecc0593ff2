-- What stands at the front once bytes are moved there.
use Rattle.std.specs.Prelude.{◌≡◌, List, ℕ, ◌+◌, ◌-◌, ◌≤◌, min, length, take, drop}
use Rattle.std.proofs.Common.{ap, ◌∙◌, arith, length-take, length-take-le, take_all, drop_at, take-take, take-add}
use Rattle.std.proofs.Math.Decide.{dec_le}
use Rattle.console.specs.Transcript.{most_kept}

-- the first of the bytes at hand
module _ (l : List ℕ) (from have : ℕ) (in_hand : from ≤ have) (within : have ≤ length l) where
  hand_is : drop from (take have l) ≡ take (have - from) (drop from l)
  hand_is =
      let split : have ≡ from + (have - from) = omega arith in
      ap (λ (n : ℕ). drop from (take n l)) split ∙ ap (drop from) (take-add from (have - from) l)
      ∙ drop_at (take from l) (take (have - from) (drop from l)) from (length-take-le from l (omega arith))

  -- the first 64 bytes at hand are those from `from` on, as many as there are before `have`, at most 64
  pub first_kept : take most_kept (drop from (take have l)) ≡ take (min most_kept (have - from)) (drop from l)
  first_kept = ap (take most_kept) hand_is ∙ go (dec_le most_kept (have - from))
    where
      go : Dec (most_kept ≤ have - from) → take most_kept (take (have - from) (drop from l)) ≡ take (min most_kept (have - from)) (drop from l)
      go (yes long) =
          let least : most_kept ≡ min most_kept (have - from) = omega arith in
          take-take most_kept (have - from) (drop from l) long ∙ ap (λ (n : ℕ). take n (drop from l)) least
      go (no short) =
          let least : have - from ≡ min most_kept (have - from) = omega arith in
          take_all most_kept (take (have - from) (drop from l)) (omega (arith, length-take (have - from) (drop from l)))
          ∙ ap (λ (n : ℕ). take n (drop from l)) least
