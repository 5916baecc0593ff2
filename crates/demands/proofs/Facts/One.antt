-- Demand 1 is met.
use Rattle.std.specs.Prelude.{◌≡◌, refl, List, ℕ}
use Rattle.std.proofs.Common.{sym, ◌∙◌}
use Rattle.basics.specs.Refusals.{none, here, later}
use Rattle.state.specs.Open.{zeros, IsFresh, IsOpened}
use Rattle.planner.specs.AddRemove.{unsound, IsAdd, IsRemove}
use Rattle.planner.specs.Send.{IsSend}
use Rattle.planner.specs.Round.{IsRound}
use Rattle.state.proofs.Facts.Open.{open_success_is_sound, closed_is_not_sound}
use Rattle.planner.proofs.Facts.Calls.{answers_first, refused_change, change_keeps_sound, refused_round, round_keeps_sound}
use Rattle.state.specs.declared.Setting.{Setting}
use Rattle.state.specs.declared.Planner.{Planner}
use Rattle.planner.specs.declared.Offer.{Offer}
use Rattle.state.specs.declared.Changed.{Changed}
use Rattle.planner.specs.declared.Rounded.{Rounded}
use Rattle.checker.specs.Verdicts.{IsVerdict, not_sound, sound, breaks, finding, IsFinding, refused, all_pass, one_breaks}
use Rattle.checker.specs.declared.Verdict.{Verdict}
use Rattle.checker.specs.declared.Finding.{Finding}
use Rattle.demands.specs.OtherCalls.{Meets}
use Rattle.demands.specs.One.{OpenMeets, AddMeets, RemoveMeets, SendMeets, RoundMeets, CheckMeets, check_refusals, Demand1}
use Rattle.demands.proofs.Facts.OtherCalls.{other_calls_meet}

-- open, of what it hands back
open_meets_it : (s : Setting) (t : ℕ) (r : Changed) → IsOpened s t r → OpenMeets s t r
open_meets_it s t r is =
    let refused : (r.answer ≡ 0 → ⊥) → IsFresh zeros 0 r.planner = λ nonzero. is.closed (λ zero. nonzero (is.answer ∙ zero)) in
    record {
      answer = answers_first is.answer;
      sound = open_success_is_sound s t r is;
      opened = λ zero. (is.opened (sym is.answer ∙ zero)).holds;
      closed = refused;
      not_sound = λ nonzero. closed_is_not_sound r.planner (refused nonzero);
    }

-- add, remove, send and round likewise
add_meets_it : (p : Planner) (o : Offer) (r : Changed) → IsAdd p o r → AddMeets p o r
add_meets_it p o r is = record { answer = answers_first is.answer; unchanged = refused_change is; sound = change_keeps_sound is }

remove_meets_it : (p : Planner) (id : ℕ) (r : Changed) → IsRemove p id r → RemoveMeets p id r
remove_meets_it p id r is = record { answer = answers_first is.answer; unchanged = refused_change is; sound = change_keeps_sound is }

send_meets_it : (p : Planner) (n : ℕ) (r : Changed) → IsSend p n r → SendMeets p n r
send_meets_it p n r is = record { answer = answers_first is.answer; unchanged = refused_change is; sound = change_keeps_sound is }

round_meets_it : (p : Planner) (before after : List ℕ) (r : Rounded) → IsRound p before after r → RoundMeets p before after r
round_meets_it p before after r is = record { answer = answers_first is.answer; unchanged = refused_round is; sound = round_keeps_sound is }

-- check, and find, refuse 5 alone, and then tell nothing
check_meets_it : (p : Planner) (plan : List ℕ) (r : Verdict) → IsVerdict p plan r → CheckMeets p r
check_meets_it p plan r (not_sound bad) = record { first = here bad; refused = λ _. refl }
check_meets_it p plan r (sound holds _) = record { first = later {r = unsound p} (λ bad. bad holds) none; refused = λ _. refl }
check_meets_it p plan r (breaks holds _ _) = record { first = later {r = unsound p} (λ bad. bad holds) none; refused = λ nonzero. absurd (nonzero refl) }

find_meets_it : (p : Planner) (plan : List ℕ) (r : Finding) → IsFinding p plan r → Meets (check_refusals p) r.answer (r ≡ finding r.answer 0 0 0)
find_meets_it p plan r (refused bad) = record { first = here bad; refused = λ _. refl }
find_meets_it p plan r (all_pass holds _) = record { first = later {r = unsound p} (λ bad. bad holds) none; refused = λ nonzero. absurd (nonzero refl) }
find_meets_it p plan r (one_breaks holds _ _ _ _) =
    record { first = later {r = unsound p} (λ bad. bad holds) none; refused = λ nonzero. absurd (nonzero refl) }

-- Annex 12.2, 12.3: the contracts of all calls meet demand 1: of the five, over a lent planner the same, and of the others
pub demand_1 : Demand1
demand_1 =
    record {
      open_meets = open_meets_it;
      add_meets = add_meets_it;
      remove_meets = remove_meets_it;
      send_meets = send_meets_it;
      round_meets = round_meets_it;
      lent_open_meets = λ s t after r is. open_meets_it s t (record { answer = r; planner = after }) is;
      lent_add_meets = λ before o after r is. add_meets_it before o (record { answer = r; planner = after }) is;
      lent_remove_meets = λ before id after r is. remove_meets_it before id (record { answer = r; planner = after }) is;
      lent_send_meets = λ before n after r is. send_meets_it before n (record { answer = r; planner = after }) is;
      lent_round_meets = λ before buffer written after r is.
          round_meets_it before buffer written (record { answer = r.answer; planner = after; start = r.start; n = r.n }) is;
      check_meets = check_meets_it;
      lent_check_meets = check_meets_it;
      find_meets = find_meets_it;
      others = other_calls_meet;
    }
