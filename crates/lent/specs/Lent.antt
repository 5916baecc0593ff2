-- What the forms over a lent planner promise: the same as the calls by value, with the planner behind the reference at exit.
use Rattle.std.specs.Prelude.{◌≡◌, List, ℕ}
use Rattle.state.specs.Open.{IsOpened}
use Rattle.planner.specs.declared.Offer.{Offer}
use Rattle.planner.specs.declared.Rounded.{Rounded}
use Rattle.planner.specs.AddRemove.{IsAdd, IsRemove}
use Rattle.planner.specs.Send.{IsSend}
use Rattle.planner.specs.Round.{IsRound}
use Rattle.state.specs.declared.Setting.{Setting}
use Rattle.state.specs.declared.Changed.{Changed}
use Rattle.state.specs.declared.Planner.{Planner}
use Rattle.checker.specs.Verdicts.{IsVerdict}
use Rattle.checker.specs.declared.Verdict.{Verdict}
use Rattle.lent.specs.declared.Held.{Held}

-- Annex 7.35: the answer, and the planner at exit, are those of open, whatever the planner was.
abbrev pub IsLentOpen : Setting → ℕ → Planner → ℕ → Type 0
IsLentOpen s t after r = IsOpened s t (record { answer = r; planner = after })

-- Annex 7.37, 13.6: the answer is that of the change, and its planner is stored where that is 0; refused, the planner stays as it was.
pub record IsKept (before : Planner) (change : Changed) (after : Planner) (r : ℕ) : Type 0 where
  pub same : r ≡ change.answer
  pub stored : change.answer ≡ 0 → after ≡ change.planner
  pub refused : (change.answer ≡ 0 → ⊥) → after ≡ before

-- Annex 7.35: the answer, and the planner at exit, are those of add for the planner at entry.
abbrev pub IsLentAdd : Planner → Offer → Planner → ℕ → Type 0
IsLentAdd before o after r = IsAdd before o (record { answer = r; planner = after })

-- Annex 7.35: the answer, and the planner at exit, are those of remove for the planner at entry.
abbrev pub IsLentRemove : Planner → ℕ → Planner → ℕ → Type 0
IsLentRemove before id after r = IsRemove before id (record { answer = r; planner = after })

-- Annex 7.35: the answer, and the planner at exit, are those of send for the planner at entry.
abbrev pub IsLentSend : Planner → ℕ → Planner → ℕ → Type 0
IsLentSend before n after r = IsSend before n (record { answer = r; planner = after })

-- Annex 7.28: a round's answer, start and n, without the planner.
abbrev pub held_of : Rounded → Held
held_of r = record { answer = r.answer; start = r.start; n = r.n }

-- Annex 7.35: the answer, start and n, and the planner and the buffer at exit, are those of round for the planner and the buffer at entry.
abbrev pub IsLentRound : Planner → List ℕ → List ℕ → Planner → Held → Type 0
IsLentRound before buffer written after r = IsRound before buffer written (record { answer = r.answer; planner = after; start = r.start; n = r.n })

-- Annex 14.16: the answer and the round are those of check for the planner and the plan, both lent to be read.
abbrev pub IsLentCheck : Planner → List ℕ → Verdict → Type 0
IsLentCheck p plan r = IsVerdict p plan r
