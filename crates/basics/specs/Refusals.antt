-- Refusals in order: a call's answer is the number of the first one that applies, or 0.
use Rattle.std.proofs.Math.Logic.{ite}
use Rattle.std.specs.Prelude.{List, [], ◌∷◌, ℕ}

-- Annex 7.2: a refusal: its number, when it applies, and that this can be decided.
pub record Refusal : Type 1 where
  pub number : ℕ
  pub Applies : Type 0
  pub decided : Dec Applies

-- Annex 7.2: the answer: the number of the first refusal, in the order of the list, that applies; 0, which is success, if none does.
unfoldable pub answer_of : List Refusal → ℕ
answer_of [] = 0
answer_of (r ∷ rs) = ite r.decided r.number (answer_of rs)

-- Annex 7.2: n is that answer, said without deciding: the number of a refusal that applies where none before it does, or 0 where none applies at all.
pub data FirstOf : List Refusal → ℕ → Type 1 where
  none : FirstOf [] 0
  here : {r : Refusal} {rs : List Refusal} → r.Applies → FirstOf (r ∷ rs) r.number
  later : {r : Refusal} {rs : List Refusal} {n : ℕ} → (r.Applies → ⊥) → FirstOf rs n → FirstOf (r ∷ rs) n
