-- What the inner functions of the crate promise one another. No caller from outside sees these.
use Rattle.std.specs.Prelude.{List, Option, MatchOption, Result, Ok, Err, ℕ, ◌*◌, ◌≤◌, ◌<◌}
use Rattle.std.specs.Int.{◌∣◌}
use Rattle.basics.specs.Limits.{longest_frame}
use Rattle.basics.specs.Answers.{number_of}
use Rattle.basics.specs.declared.refusals.Refusal.{Refusal}
use Rattle.superframe.specs.Periods.{IsCommonMultiple, IsLcm}
use Rattle.superframe.specs.Superframe.{Answered, refused}

-- g divides a and b, and whatever divides k times each of them divides k times g; at k = 1, g is the greatest common divisor.
pub record IsGcd (a b g : ℕ) : Type 0 where
  pub divides_left : g ∣ a
  pub divides_right : g ∣ b
  pub greatest : (k n : ℕ) → n ∣ k * a → n ∣ k * b → n ∣ k * g

-- r is a multiple of both, is at most their product, and divides every multiple of both.
pub record IsLcmOfTwo (m p r : ℕ) : Type 0 where
  pub positive : 1 ≤ r
  pub small : r ≤ m * p
  pub left : m ∣ r
  pub right : p ∣ r
  pub least : (n : ℕ) → m ∣ n → p ∣ n → r ∣ n

-- The least common multiple of the periods, which is at most 5,040; none where every common multiple is above that.
abbrev pub IsLcmWithinLimit : List ℕ → Option ℕ → Type 0
IsLcmWithinLimit periods r =
    MatchOption r ((n : ℕ) → IsCommonMultiple periods n → longest_frame < n) (λ m. IsLcm periods m × (m ≤ longest_frame))

-- The answer and the value that an outcome stands for: 0 and the value of a success, the number of a refusal and 0.
abbrev pub answered_by : Result ℕ Refusal → Answered
answered_by (Ok value) = record { answer = 0; value = value }
answered_by (Err refusal) = refused (number_of refusal)
