-- The messages that wait, by their places and as a list.
use Rattle.std.specs.Prelude.{◌≡◌, ℕ, ◌≤◌, ◌<◌, get_or, length}
use Rattle.std.proofs.Common.{subst, arith, length-take-le, get_or-take}
use mathlib.Core.HLevel.{×_prop}
use mathlib.Core.List.{Mem}
use Rattle.std.proofs.Math.Bridge.{le_prop}
use Rattle.basics.specs.Facts.Members.{get_or_mem, holds_of_members}
use Rattle.basics.specs.Limits.{most_waiting}
use Rattle.messages.specs.Waiting.{IsMessage, waiting_of}
use Rattle.messages.specs.Needs.{WaitingInRange}
use Rattle.messages.specs.declared.Waiting.{Waiting}

-- what waits, by its places and as a list
module _ (w : Waiting) (long : length w.numbers ≡ most_waiting) where
  pub waiting_length : w.count ≤ most_waiting → length (waiting_of w) ≡ w.count
  waiting_length few = length-take-le w.count w.numbers (omega (arith, long))

  pub waiting_members : {most : ℕ} → WaitingInRange most w → (n : ℕ) → Mem n (waiting_of w) → IsMessage n
  waiting_members is n m = holds_of_members (λ (x : ℕ). IsMessage x) (λ x. ×_prop le_prop le_prop) (waiting_of w) range n m
    where
      range : (k : ℕ) → k < length (waiting_of w) → IsMessage (get_or (waiting_of w) k 0)
      range k low =
          let below : k < w.count = omega (arith, waiting_length is.count) in rw (get_or-take w.count w.numbers k 0 below) (is.range k below)

  pub waiting_from : {most : ℕ} → w.count ≤ most_waiting → length (waiting_of w) ≤ most → ((n : ℕ) → Mem n (waiting_of w) → IsMessage n)
      → WaitingInRange most w
  waiting_from few short each =
      record {
        count = few;
        few = omega (arith, waiting_length few, short);
        range = λ k below. subst (λ (x : ℕ). IsMessage x) (get_or-take w.count w.numbers k 0 below)
            (each (get_or (waiting_of w) k 0) (get_or_mem (waiting_of w) k 0 (omega (arith, waiting_length few, below))));
      }
