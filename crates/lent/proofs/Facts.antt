-- A change that is kept, where it was not refused, is that change of the lent planner.
use Rattle.std.specs.Prelude.{List, ℕ}
use Rattle.std.proofs.Common.{◌∙◌, sym}
use Rattle.std.proofs.Math.Path.{subst⁻¹}
use Rattle.basics.specs.Refusals.{Refusal}
use Rattle.state.specs.Content.{Content}
use Rattle.state.specs.declared.Changed.{Changed}
use Rattle.state.specs.declared.Planner.{Planner}
use Rattle.planner.specs.AddRemove.{IsChange, IsSoundWith}
use Rattle.lent.specs.Lent.{IsKept}

-- the answer is the same, and so is the planner: the new one, or the one it was
pub kept_change : {refusals : List Refusal} {before after : Planner} {h : Content} {change : Changed} {r : ℕ} → IsChange refusals before h change
    → IsKept before change after r → IsChange refusals before h (record { answer = r; planner = after })
kept_change is_change kept =
    record {
      answer = kept.same ∙ is_change.answer;
      refused = λ some. kept.refused (λ zero. some (sym is_change.answer ∙ zero));
      changed = λ zero. subst⁻¹ (IsSoundWith _) (kept.stored (is_change.answer ∙ zero)) (is_change.changed zero);
    }
