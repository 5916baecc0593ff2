-- Twins answer a line with the same text.
use Rattle.std.specs.Prelude.{◌≡◌, refl, Option, Some, None, List, [], ◌∷◌, ◌++◌, ℕ, ◌+◌, length, take, drop}
use Rattle.std.proofs.Common.{sym, ap, subst, ◌∙◌}
use Rattle.std.proofs.Math.Path.{subst⁻¹}
use Rattle.std.proofs.Math.Decide.{ℕ_discrete}
use Rattle.state.specs.Content.{Content}
use Rattle.planner.specs.AddRemove.{offer, added, removed}
use Rattle.state.specs.declared.Planner.{Planner}
use Rattle.alike.specs.Twins.{AreTwins}
use Rattle.alike.proofs.Facts.Twins.{equal_are_twins, still_twins, same_opening, change_answers, change_twins, add_rest, remove_rest, IsSameRound, same_round}
use Rattle.command.specs.Commands.{Says}
use Rattle.command.specs.Answers.{Gives, IsAnswered}
use Rattle.command.specs.Step.{IsAnswer, IsStep}
use Rattle.command.specs.Puts.{AreLines, lines_of}
use Rattle.command.proofs.Facts.Unique.{says_one, lines_text}
use Rattle.command.specs.declared.Command.{Command}
use Rattle.command.specs.declared.Command.TheVariants.{Open, Add, Remove, Round}
use Rattle.command.specs.declared.answers.Answered.{Answered}
use Rattle.command.specs.declared.step.Step.{Step}

-- Two answers have the same lines, letter by letter and number by number, and leave twins.
pub record IsSameAnswer (r s : Answered) : Type 0 where
  pub lines : lines_of r.lines ≡ lines_of s.lines
  pub twins : AreTwins r.planner s.planner

-- what is given of twins, of a letter and the same numbers
same_given : {p q : Planner} {l : ℕ} {ns ms : List ℕ} {r s : Answered} → AreTwins p q → ns ≡ ms
    → Gives p ((l, ns) ∷ []) r → Gives q ((l, ms) ∷ []) s → IsSameAnswer r s
same_given {l = l} twins same given given' =
    record {
      lines = given.its_lines ∙ (λ i. (l, same i) ∷ []) ∙ sym given'.its_lines;
      twins = still_twins twins given.planner given'.planner;
    }

-- twins answer a command alike
same_answered : {p q : Planner} → AreTwins p q → (number : ℕ) (c : Option Command) (r s : Answered) → IsAnswered p number c r → IsAnswered q number c s
    → IsSameAnswer r s
same_answered twins number (Some (Open b f g t)) r s is is' =
    let same = same_opening is.by_contract is'.by_contract in
    same_given (equal_are_twins same.1) (ap (λ (n : ℕ). n ∷ []) same.0) is.given is'.given
same_answered twins number (Some (Add id start period deadline)) r s is is' =
    let o = offer id start period deadline in
    let holds : Content → Content = λ h. added h o in
    same_given (change_twins twins (add_rest o) holds is.by_contract is'.by_contract)
    (ap (λ (n : ℕ). id ∷ n ∷ []) (change_answers twins (add_rest o) holds is.by_contract is'.by_contract)) is.given is'.given
same_answered twins number (Some (Remove id)) r s is is' =
    let holds : Content → Content = λ h. removed h id in
    same_given (change_twins twins (remove_rest id) holds is.by_contract is'.by_contract)
    (ap (λ (n : ℕ). id ∷ n ∷ []) (change_answers twins (remove_rest id) holds is.by_contract is'.by_contract)) is.given is'.given
same_answered twins number (Some Round) r s is is' = go (ℕ_discrete is.done.answer 0)
  where
    same : IsSameRound is.before is'.before is.after is'.after is.done is'.done
    same = same_round twins (is.places ∙ sym is'.places) is.by_contract is'.by_contract

    go : Dec (is.done.answer ≡ 0) → IsSameAnswer r s
    go (yes zero) =
        same_given same.twins_after (λ i. 0 ∷ same.start i ∷ same.n i ∷ same.listed i) (is.held zero) (is'.held (sym same.answer ∙ zero))
    go (no some) =
        same_given same.twins_after (ap (λ (n : ℕ). n ∷ []) same.answer) (is.refused some) (is'.refused (λ zero. some (same.answer ∙ zero)))
same_answered twins number None r s is is' = same_given twins refl is is'

-- Annex 12.25: twins answer a line with the same bytes, and twins are left
pub same_text : {p q : Planner} → AreTwins p q → (number : ℕ) (line : List ℕ) (c d : Option Command) (r s : Answered) → Says line c → Says line d
    → IsAnswered p number c r → IsAnswered q number d s → (one other : List ℕ)
    → AreLines (lines_of r.lines) one → AreLines (lines_of s.lines) other → (one ≡ other) × AreTwins r.planner s.planner
same_text {p} {q} twins number line c d r s says says' is is' one other text text' =
    let command = says_one line d c says' says in
    let same = same_answered twins number c r s is (subst (λ (x : Option Command). IsAnswered q number x s) command is') in
    let text'' = subst⁻¹ (λ (lines : List (ℕ × List ℕ)). AreLines lines other) same.lines text' in
    (lines_text text text'', same.twins)

-- Annex 12.25: so that the answer to a line is the same
pub same_answer : {p p' after after' : Planner} {number number' : ℕ} {line line' bytes bytes' : List ℕ} → AreTwins p p' → number ≡ number' → line ≡ line'
    → IsAnswer p number line bytes after → IsAnswer p' number' line' bytes' after' → (bytes ≡ bytes') × AreTwins after after'
same_answer {p' = p'} {number = number} {line = line} {bytes = bytes} {bytes' = bytes'} twins numbers lines is is' =
    let says' = subst (λ (l : List ℕ). Says l is'.command) (sym lines) is'.says in
    let by' = subst (λ (n : ℕ). IsAnswered p' n is'.command is'.answered) (sym numbers) is'.by_contract in
    let (text, left) = same_text twins number line is.command is'.command is.answered is'.answered is.says says' is.by_contract by'
    bytes bytes' is.written is'.written in
    (text, still_twins left is.planner is'.planner)

-- Two steps, into buffers that may differ, end at the same place with the same bytes put, and leave twins.
pub record IsSameStep {p p' : Planner} {number number' : ℕ} {line line' before before' after after' : List ℕ} {at at' : ℕ} {r r' : Step}
    (is : IsStep p number line before after at r) (is' : IsStep p' number' line' before' after' at' r') : Type 0 where
  pub bytes : is.written.bytes ≡ is'.written.bytes
  pub end : r.end ≡ r'.end
  pub buffer : before ≡ before' → after ≡ after'
  pub twins : AreTwins r.planner r'.planner

-- twins take the same step on the same line
pub same_step : {p p' : Planner} {number number' : ℕ} {line line' before before' after after' : List ℕ} {at at' : ℕ} {r r' : Step}
    → AreTwins p p' → number ≡ number' → line ≡ line' → at ≡ at'
    → (is : IsStep p number line before after at r) (is' : IsStep p' number' line' before' after' at' r') → IsSameStep is is'
same_step {r = r} {r' = r'} twins numbers lines places is is' =
    let (bytes, left) = same_answer twins numbers lines is.written.property is'.written.property in
    let end : r.end ≡ r'.end = is.written.ends ∙ (λ i. places i + length (bytes i)) ∙ sym is'.written.ends in
    record {
      bytes = bytes;
      end = end;
      buffer = λ same.
          is.written.content ∙ (λ i. take (places i) (same i) ++ (bytes i ++ drop (end i) (same i))) ∙ sym is'.written.content;
      twins = left;
    }
