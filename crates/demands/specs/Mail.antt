-- Messages over lists of calls: first come first out, and how long one can wait. Annex, chapter 12.
use Rattle.std.specs.Prelude.{◌≡◌, List, [], ◌∷◌, ◌++◌, ℕ, ◌+◌, ◌<◌, length, take}
use Rattle.basics.specs.Refusals.{Refusal}
use Rattle.messages.specs.Numbers.{message_numbers}
use Rattle.state.specs.Content.{Content, content}
use Rattle.state.specs.Sound.{Sound}
use Rattle.planner.specs.AddRemove.{IsChange}
use Rattle.planner.specs.Send.{IsSend}
use Rattle.planner.specs.Round.{IsRound}
use Rattle.state.specs.declared.Planner.{Planner}
use Rattle.state.specs.declared.Changed.{Changed}
use Rattle.planner.specs.declared.Rounded.{Rounded}
use Rattle.demands.specs.CallLists.{Asked}

-- Annex 12.28: a list of add, remove, send and round calls from p, in any order, with any values, buffers and answers: each gets the planner that the one
-- before handed back, and no opening is among them. `left` has for each held round the messages among the buffer's first n elements, `accepted` the numbers
-- whose send was answered 0, both in their order; the last index is the planner that is left.
pub data MailCalls (p : Planner) : (left : List (List ℕ)) (accepted : List ℕ) → Planner → Type 1 where
  none : MailCalls p [] [] p
  asked : {left : List (List ℕ)} {accepted : List ℕ} {q : Planner} → MailCalls p left accepted q → {refusals : List Refusal} {h : Content}
      → Asked q refusals h → (r : Changed) → IsChange refusals q h r → MailCalls p left accepted r.planner
  not_sent : {left : List (List ℕ)} {accepted : List ℕ} {q : Planner} → MailCalls p left accepted q → (n : ℕ) (r : Changed)
      → IsSend q n r → (r.answer ≡ 0 → ⊥) → MailCalls p left accepted r.planner
  sent : {left : List (List ℕ)} {accepted : List ℕ} {q : Planner} → MailCalls p left accepted q → (n : ℕ) (r : Changed)
      → IsSend q n r → r.answer ≡ 0 → MailCalls p left (accepted ++ (n ∷ [])) r.planner
  not_held : {left : List (List ℕ)} {accepted : List ℕ} {q : Planner} → MailCalls p left accepted q → (before after : List ℕ) (r : Rounded)
      → IsRound q before after r → (r.answer ≡ 0 → ⊥) → MailCalls p left accepted r.planner
  held : {left : List (List ℕ)} {accepted : List ℕ} {q : Planner} → MailCalls p left accepted q → (before after : List ℕ) (r : Rounded)
      → IsRound q before after r → r.answer ≡ 0 → MailCalls p (left ++ (message_numbers (take r.n after) ∷ [])) accepted r.planner

-- Annex 12.28: what several rounds listed, one behind the other.
unfoldable pub joined : List (List ℕ) → List ℕ
joined [] = []
joined (l ∷ ls) = l ++ joined ls

-- Annex 12.28: first come first out: what left, round by round, and behind it what waits in the end, is what waited at first, and behind it what was
-- accepted. So none is lost, none comes twice, and none overtakes another.
abbrev pub FirstOut : Type 1
FirstOut =
    (p : Planner) → Sound p → (left : List (List ℕ)) (accepted : List ℕ) (q : Planner) → MailCalls p left accepted q
    → joined left ++ (content q).waiting ≡ (content p).waiting ++ accepted

-- Annex 12.29: a message with others ahead of it leaves no later than the held round whose number is one more than theirs: of what left with so many held
-- rounds, the first are those ahead, and the next is it.
abbrev pub LeavesInTurn : Type 1
LeavesInTurn =
    (p : Planner) → Sound p → (left : List (List ℕ)) (accepted : List ℕ) (q : Planner) → MailCalls p left accepted q
    → (ahead behind : List ℕ) (m : ℕ) → (content p).waiting ≡ ahead ++ m ∷ behind → length ahead < length left
    → take (length ahead + 1) (joined (take (length ahead + 1) left)) ≡ ahead ++ (m ∷ [])
