-- Demand 1: nothing on trust. Annex, chapter 12.
-- That calls end and stay inside their buffers is what the checker proves of every function, and no call of an interface has a `requires`.
use Rattle.std.specs.Prelude.{◌≡◌, List, [], ◌∷◌, ℕ}
use Rattle.basics.specs.Refusals.{Refusal, FirstOf}
use Rattle.state.specs.Content.{content}
use Rattle.state.specs.Sound.{Sound}
use Rattle.state.specs.Open.{zeros, open_refusals, opened, IsFresh, IsOpened}
use Rattle.planner.specs.declared.Offer.{Offer}
use Rattle.planner.specs.AddRemove.{unsound, add_refusals, remove_refusals, IsAdd, IsRemove}
use Rattle.planner.specs.Send.{send_refusals, IsSend}
use Rattle.planner.specs.Round.{round_refusals, IsRefusedRound, IsRound}
use Rattle.state.specs.declared.Setting.{Setting}
use Rattle.state.specs.declared.Planner.{Planner}
use Rattle.state.specs.declared.Changed.{Changed}
use Rattle.planner.specs.declared.Rounded.{Rounded}
use Rattle.lent.specs.Lent.{IsLentOpen, IsLentAdd, IsLentRemove, IsLentSend, IsLentRound, IsLentCheck}
use Rattle.lent.specs.declared.Held.{Held}
use Rattle.checker.specs.Verdicts.{verdict, IsVerdict, finding, IsFinding}
use Rattle.checker.specs.declared.Verdict.{Verdict}
use Rattle.checker.specs.declared.Finding.{Finding}
use Rattle.demands.specs.OtherCalls.{Meets, OtherCallsMeet}

-- Annex 12.2, 12.3: open gives the first number that applies, else 0; success gives a sound planner with what was passed, L = T and no stream, a
-- refusal the closed one, which is not sound.
pub record OpenMeets (s : Setting) (t : ℕ) (r : Changed) : Type 1 where
  pub answer : FirstOf (open_refusals s t) r.answer
  pub sound : r.answer ≡ 0 → Sound r.planner
  pub opened : r.answer ≡ 0 → content r.planner ≡ opened s t
  pub closed : (r.answer ≡ 0 → ⊥) → IsFresh zeros 0 r.planner
  pub not_sound : (r.answer ≡ 0 → ⊥) → Sound r.planner → ⊥

-- Annex 12.2, 12.3: add gives the first number that applies, else 0; a refusal changes nothing, and a sound planner stays sound.
pub record AddMeets (p : Planner) (o : Offer) (r : Changed) : Type 1 where
  pub answer : FirstOf (add_refusals p o) r.answer
  pub unchanged : (r.answer ≡ 0 → ⊥) → r.planner ≡ p
  pub sound : Sound p → Sound r.planner

-- Annex 12.2, 12.3: remove, the same.
pub record RemoveMeets (p : Planner) (id : ℕ) (r : Changed) : Type 1 where
  pub answer : FirstOf (remove_refusals p id) r.answer
  pub unchanged : (r.answer ≡ 0 → ⊥) → r.planner ≡ p
  pub sound : Sound p → Sound r.planner

-- Annex 12.2, 12.3: send, the same.
pub record SendMeets (p : Planner) (n : ℕ) (r : Changed) : Type 1 where
  pub answer : FirstOf (send_refusals p n) r.answer
  pub unchanged : (r.answer ≡ 0 → ⊥) → r.planner ≡ p
  pub sound : Sound p → Sound r.planner

-- Annex 12.2, 12.3: round, the same of planner and buffer; a refusal gives start 0 and n 0.
pub record RoundMeets (p : Planner) (before after : List ℕ) (r : Rounded) : Type 1 where
  pub answer : FirstOf (round_refusals p before) r.answer
  pub unchanged : (r.answer ≡ 0 → ⊥) → IsRefusedRound p before after r
  pub sound : Sound p → Sound r.planner

-- Annex 12.2, 14.12: check and find refuse 5 alone.
abbrev pub check_refusals : Planner → List Refusal
check_refusals p = unsound p ∷ []

-- Annex 12.2, 14.12: check gives the first number that applies, else 0; a refusal gives no round. It is handed nothing that it could change.
abbrev pub CheckMeets : Planner → Verdict → Type 1
CheckMeets p r = Meets (check_refusals p) r.answer (r ≡ verdict r.answer 0)

-- Annex 7.1, 11.10, 12.1, 12.3: all five calls, by value and over a lent planner, on any planner, sound or not, any numbers and any buffer, by the
-- contracts that their code is proved to meet; check, in both forms, and find, on any planner and any bytes; and the other calls likewise. Nothing is asked
-- of the caller.
pub record Demand1 : Type 1 where
  pub open_meets : (s : Setting) (t : ℕ) (r : Changed) → IsOpened s t r → OpenMeets s t r
  pub add_meets : (p : Planner) (o : Offer) (r : Changed) → IsAdd p o r → AddMeets p o r
  pub remove_meets : (p : Planner) (id : ℕ) (r : Changed) → IsRemove p id r → RemoveMeets p id r
  pub send_meets : (p : Planner) (n : ℕ) (r : Changed) → IsSend p n r → SendMeets p n r
  pub round_meets : (p : Planner) (before after : List ℕ) (r : Rounded) → IsRound p before after r → RoundMeets p before after r
  pub lent_open_meets : (s : Setting) (t : ℕ) (after : Planner) (r : ℕ) → IsLentOpen s t after r → OpenMeets s t (record { answer = r; planner = after })
  pub lent_add_meets : (before : Planner) (o : Offer) (after : Planner) (r : ℕ) → IsLentAdd before o after r
      → AddMeets before o (record { answer = r; planner = after })
  pub lent_remove_meets : (before : Planner) (id : ℕ) (after : Planner) (r : ℕ) → IsLentRemove before id after r
      → RemoveMeets before id (record { answer = r; planner = after })
  pub lent_send_meets : (before : Planner) (n : ℕ) (after : Planner) (r : ℕ) → IsLentSend before n after r
      → SendMeets before n (record { answer = r; planner = after })
  pub lent_round_meets : (before : Planner) (buffer written : List ℕ) (after : Planner) (r : Held) → IsLentRound before buffer written after r
      → RoundMeets before buffer written (record { answer = r.answer; planner = after; start = r.start; n = r.n })
  pub check_meets : (p : Planner) (plan : List ℕ) (r : Verdict) → IsVerdict p plan r → CheckMeets p r
  pub lent_check_meets : (p : Planner) (plan : List ℕ) (r : Verdict) → IsLentCheck p plan r → CheckMeets p r
  pub find_meets : (p : Planner) (plan : List ℕ) (r : Finding) → IsFinding p plan r → Meets (check_refusals p) r.answer (r ≡ finding r.answer 0 0 0)
  pub others : OtherCallsMeet
