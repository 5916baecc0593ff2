-- What the checker says of any bytes, from any planner. Annex, chapter 14.
use Rattle.std.specs.Prelude.{List, ℕ, length}
use Rattle.state.specs.Content.{content}
use Rattle.state.specs.Sound.{Sound}
use Rattle.state.specs.declared.Planner.{Planner}
use Rattle.checker.specs.Plans.{laid_out, IsSoundPlan, BreaksAt, BreaksRule}
use Rattle.checker.specs.declared.Verdict.{Verdict}
use Rattle.checker.specs.declared.Finding.{Finding}

-- Annex 14.12: an answer, and the number of a round.
abbrev pub verdict : ℕ → ℕ → Verdict
verdict answer round = record { answer = answer; round = round }

-- Annex 14.12: 5 and no round for a planner that is not sound; else 0, with no round for a sound plan, or the first round that breaks a rule.
pub data IsVerdict (p : Planner) (bytes : List ℕ) : Verdict → Type 0 where
  not_sound : (Sound p → ⊥) → IsVerdict p bytes (verdict 5 0)
  sound : Sound p → IsSoundPlan (content p) bytes → IsVerdict p bytes (verdict 0 0)
  breaks : Sound p → (k : ℕ) → BreaksAt (content p) bytes k → IsVerdict p bytes (verdict 0 k)

-- Annex 14.13: an answer, how many rounds pass, the number of a rule, and how many bytes the rounds that pass have.
abbrev pub finding : ℕ → ℕ → ℕ → ℕ → Finding
finding answer passed rule at = record { answer = answer; passed = passed; rule = rule; at = at }

-- Annex 14.13: 5 and zeros for a planner that is not sound; else 0, and all rounds of a sound plan with rule 0, or those before the first that breaks a
-- rule, with the first rule that it breaks; and the bytes that they have.
pub data IsFinding (p : Planner) (bytes : List ℕ) : Finding → Type 0 where
  refused : (Sound p → ⊥) → IsFinding p bytes (finding 5 0 0 0)
  all_pass : Sound p → (plan : IsSoundPlan (content p) bytes) → IsFinding p bytes (finding 0 (length plan.rounds) 0 (length bytes))
  one_breaks : Sound p → (k n : ℕ) → (broken : BreaksAt (content p) bytes k) → BreaksRule broken.left broken.rest n
      → IsFinding p bytes (finding 0 (length broken.rounds) n (length (laid_out broken.rounds)))
