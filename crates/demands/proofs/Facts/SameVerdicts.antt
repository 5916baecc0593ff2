-- Planners that hold the same get the same verdict of a plan, and the same is found of it.
use Rattle.std.specs.Prelude.{◌≡◌, List, ℕ}
use Rattle.std.proofs.Common.{subst}
use Rattle.state.specs.Content.{Content}
use Rattle.state.specs.declared.Planner.{Planner}
use Rattle.alike.specs.Twins.{AreTwins, both_sound, neither_sound}
use Rattle.checker.specs.Plans.{Passed, IsSoundPlan, BreaksAt}
use Rattle.checker.specs.Verdicts.{IsVerdict, not_sound, sound, breaks, IsFinding, refused, all_pass, one_breaks}
use Rattle.checker.proofs.Facts.Verdicts.{one_verdict, one_finding}
use Rattle.checker.specs.declared.Verdict.{Verdict}
use Rattle.checker.specs.declared.Finding.{Finding}

module _ {h c : Content} (same : h ≡ c) {plan : List ℕ} where
  still_sound : IsSoundPlan h plan → IsSoundPlan c plan
  still_sound is =
      record {
        rounds = is.rounds;
        are = is.are;
        left = is.left;
        passed = subst (λ (d : Content). Passed d is.rounds is.left) same is.passed;
      }

  still_breaks : {k : ℕ} → BreaksAt h plan k → BreaksAt c plan k
  still_breaks is =
      record {
        rounds = is.rounds;
        rest = is.rest;
        are = is.are;
        left = is.left;
        passed = subst (λ (d : Content). Passed d is.rounds is.left) same is.passed;
        counted = is.counted;
        something = is.something;
        breaks = is.breaks;
      }

module _ {p q : Planner} (plan : List ℕ) where
  verdict_alike : {r : Verdict} → AreTwins p q → IsVerdict p plan r → IsVerdict q plan r
  verdict_alike (both_sound one other same) (not_sound bad) = absurd (bad one)
  verdict_alike (both_sound one other same) (sound _ is) = sound other (still_sound same is)
  verdict_alike (both_sound one other same) (breaks _ k is) = breaks other k (still_breaks same is)
  verdict_alike (neither_sound one other) (not_sound bad) = not_sound other
  verdict_alike (neither_sound one other) (sound holds is) = absurd (one holds)
  verdict_alike (neither_sound one other) (breaks holds k is) = absurd (one holds)

  finding_alike : {r : Finding} → AreTwins p q → IsFinding p plan r → IsFinding q plan r
  unfolding still_sound still_breaks
  finding_alike (both_sound one other same) (refused bad) = absurd (bad one)
  finding_alike (both_sound one other same) (all_pass _ is) = all_pass other (still_sound same is)
  finding_alike (both_sound one other same) (one_breaks _ k n is rule) = one_breaks other k n (still_breaks same is) rule
  finding_alike (neither_sound one other) (refused bad) = refused other
  finding_alike (neither_sound one other) (all_pass holds is) = absurd (one holds)
  finding_alike (neither_sound one other) (one_breaks holds k n is rule) = absurd (one holds)

  -- Annex 12.33: twins get the same verdict ..
  pub same_verdict : AreTwins p q → {a b : Verdict} → IsVerdict p plan a → IsVerdict q plan b → a ≡ b
  same_verdict twins is is' = one_verdict q plan (verdict_alike twins is) is'

  -- Annex 12.33: .. and of both the same is found
  pub same_finding : AreTwins p q → {a b : Finding} → IsFinding p plan a → IsFinding q plan b → a ≡ b
  same_finding twins is is' = one_finding q plan (finding_alike twins is) is'
