-- Planners that hold the same, and lists of any calls with all that they give. Annex, chapter 12.
use Rattle.std.specs.Prelude.{◌≡◌, List, [], ◌∷◌, ℕ}
use Rattle.state.specs.Content.{content}
use Rattle.state.specs.Sound.{Sound}
use Rattle.state.specs.Open.{IsOpened}
use Rattle.planner.specs.declared.Offer.{Offer}
use Rattle.planner.specs.AddRemove.{IsAdd, IsRemove}
use Rattle.planner.specs.Send.{IsSend}
use Rattle.planner.specs.Round.{IsRound}
use Rattle.state.specs.declared.Setting.{Setting}
use Rattle.state.specs.declared.Planner.{Planner}
use Rattle.state.specs.declared.Changed.{Changed}
use Rattle.planner.specs.declared.Rounded.{Rounded}

-- Annex 12.23: two planners are twins if both are sound and hold the same, or if neither is sound. Links of queues and unused places may differ.
pub data AreTwins (p q : Planner) : Type 0 where
  both_sound : Sound p → Sound q → content p ≡ content q → AreTwins p q
  neither_sound : (Sound p → ⊥) → (Sound q → ⊥) → AreTwins p q

-- Annex 12.24: a call as it is made, with any values and any buffer ..
pub data Call : Type 0 where
  opening : (s : Setting) (t : ℕ) → Call
  add : (o : Offer) → Call
  remove : (id : ℕ) → Call
  send : (number : ℕ) → Call
  round : (buffer : List ℕ) → Call

-- Annex 12.24: .. and all that a caller sees of it: the answer, and of a round its start, n and every place of the buffer when it returns.
pub data Outcome : Type 0 where
  change : (answer : ℕ) → Outcome
  round : (answer start n : ℕ) (buffer : List ℕ) → Outcome

-- Annex 12.24: a call made on p, whatever it answers: what it gives by its contract, and the planner that it hands back. A further call is a line here.
pub data Gives (p : Planner) : Call → Outcome → Planner → Type 0 where
  opens : (s : Setting) (t : ℕ) (r : Changed) → IsOpened s t r → Gives p (opening s t) (change r.answer) r.planner
  adds : (o : Offer) (r : Changed) → IsAdd p o r → Gives p (add o) (change r.answer) r.planner
  removes : (id : ℕ) (r : Changed) → IsRemove p id r → Gives p (remove id) (change r.answer) r.planner
  sends : (n : ℕ) (r : Changed) → IsSend p n r → Gives p (send n) (change r.answer) r.planner
  rounds : (before after : List ℕ) (r : Rounded) → IsRound p before after r
      → Gives p (round before) (round r.answer r.start r.n after) r.planner

-- Annex 12.24: calls made one after the other, each on the planner that the one before handed back: all that they give, and the planner that is left.
pub data Makes : Planner → List Call → List Outcome → Planner → Type 0 where
  none : {p : Planner} → Makes p [] [] p
  then : {p q r : Planner} {c : Call} {o : Outcome} {cs : List Call} {os : List Outcome} → Gives p c o q → Makes q cs os r → Makes p (c ∷ cs) (o ∷ os) r

-- Annex 3.13, 12.24: what two suppliers need: whatever calls are made on twins, the outcomes are the same, one by one, and twins are left.
abbrev pub SameOutcomes : Type 0
SameOutcomes =
    (p p' : Planner) → AreTwins p p' → (cs : List Call) (os os' : List Outcome) (q q' : Planner)
    → Makes p cs os q → Makes p' cs os' q' → (os ≡ os') × AreTwins q q'
