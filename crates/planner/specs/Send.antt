-- What send answers and leaves: Annex, chapter 7.
use Rattle.std.specs.Prelude.{◌≡◌, List, [], ◌∷◌, ◌++◌, ℕ, ◌≤◌, length}
use Rattle.std.proofs.Math.Logic.Dec.{and as Dec-and, not as Dec-not}
use Rattle.std.proofs.Math.Decide.{dec_le, ℕ_discrete}
use Rattle.basics.specs.Limits.{most_waiting}
use Rattle.basics.specs.Refusals.{Refusal}
use Rattle.messages.specs.Waiting.{IsMessage, decide_message}
use Rattle.state.specs.Content.{Content, content, with_waiting}
use Rattle.planner.specs.AddRemove.{unsound, IsChange}
use Rattle.state.specs.declared.Planner.{Planner}
use Rattle.state.specs.declared.Changed.{Changed}

-- Annex 7.43: 29 unless the number is that of a message and messages are on, so that with them off every number gets it.
abbrev pub no_message : ℕ → Content → Refusal
no_message n h =
    record {
      number = 29;
      Applies = (IsMessage n × (h.setting.messages ≡ 1)) → ⊥;
      decided = Dec-not (Dec-and (decide_message n) (ℕ_discrete h.setting.messages 1));
    }

-- Annex 7.44: 30 if 32 messages wait.
abbrev pub mail_full : Content → Refusal
mail_full h = record { number = 30; Applies = most_waiting ≤ length h.waiting; decided = dec_le most_waiting (length h.waiting) }

-- Annex 7.41, 7.42: the refusals of send in their order: 5, 29, 30.
abbrev pub send_refusals : Planner → ℕ → List Refusal
send_refusals p n = unsound p ∷ no_message n (content p) ∷ mail_full (content p) ∷ []

-- Annex 7.45: what a planner holds once the number waits, behind those that were sent before; the rest is as it was.
abbrev pub posted : Content → ℕ → Content
posted h n = with_waiting h (h.waiting ++ (n ∷ []))

-- Annex 7.45: what send does: it is refused by the refusals of send, or leaves a sound planner in which the number waits too.
abbrev pub IsSend : Planner → ℕ → Changed → Type 0
IsSend p n = IsChange (send_refusals p n) p (posted (content p) n)
