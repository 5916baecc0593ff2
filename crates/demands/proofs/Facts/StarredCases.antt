-- The cases hold, by computing.
use Rattle.std.specs.Prelude.{◌≡◌, refl, Bool, true, ◌&&◌, ℕ, eqb}
use Rattle.std.proofs.Common.{ap, ◌∙◌, eqb-true}
use Rattle.std.proofs.Math.Path.{subst⁻¹}
use Rattle.std.proofs.Math.Bool.{So, So-prop}
use mathlib.Core.List.{List, [], ◌∷◌, Mem, not-mem-nil, forall_mem-cons}
use Rattle.basics.specs.Refusals.{Refusal}
use Rattle.rules.specs.Slots.{after_round}
use Rattle.rules.proofs.Facts.Tests.{both}
use Rattle.table.specs.Changes.{without_id}
use Rattle.superframe.specs.Superframe.{packed}
use Rattle.superframe.specs.Facts.SuperframeTests.{superframe_test, tested_superframe}
use Rattle.state.specs.Content.{Content, content}
use Rattle.state.specs.Sound.{Sound}
use Rattle.state.specs.Open.{opened}
use Rattle.state.proofs.Facts.Open.{open_success_is_sound}
use Rattle.planner.specs.AddRemove.{added, removed, IsChange}
use Rattle.planner.specs.Send.{posted}
use Rattle.planner.specs.Round.{left_at}
use Rattle.planner.proofs.Facts.Calls.{change_keeps_sound, round_keeps_sound}
use Rattle.state.specs.declared.Planner.{Planner}
use Rattle.state.specs.declared.Changed.{Changed}
use Rattle.demands.proofs.Facts.TestedCases.{open_test, open_succeeds, add_test, add_answered, remove_test, remove_answered}
use Rattle.demands.proofs.Facts.TestedCases.{send_test, send_answered, after_change, change_leaves}
use Rattle.demands.proofs.Facts.TestedCases.{held_test, late_test, round_held, round_late}
use Rattle.demands.specs.Cases.{Line, add_gives, remove_gives, send_gives, round_gives, round_refused, Answers}
use Rattle.demands.specs.Cases.{Case, planner_case, superframe_case, Holds, starred, later, with_messages}

-- a test of the lines, by what the planner holds
unfoldable lines_test : Content → List Line → Bool
unfolding add_test remove_test without_id send_test held_test late_test after_round
lines_test h [] = true
lines_test h (add_gives o answer ∷ lines) = add_test h o answer && lines_test (after_change h (added h o) answer) lines
lines_test h (remove_gives id answer ∷ lines) = remove_test h id answer && lines_test (after_change h (removed h id) answer) lines
lines_test h (send_gives n answer ∷ lines) = send_test h n answer && lines_test (after_change h (posted h n) answer) lines
lines_test h (round_gives start n numbers ∷ lines) = held_test h start n numbers && lines_test (left_at h start) lines
lines_test h (round_refused answer ∷ lines) = (eqb 17 answer && late_test h) && lines_test h lines

-- after a change with this answer the other lines go on from what it leaves
go_on : {refusals : List Refusal} {p : Planner} {changed : Content} {r : Changed} (lines : List Line)
    → ((q : Planner) → Sound q → So (lines_test (content q) lines) → Answers q lines)
    → Sound p → IsChange refusals p changed r → (answer : ℕ) → r.answer ≡ answer
    → So (lines_test (after_change (content p) changed answer) lines) → (r.answer ≡ answer) × Answers r.planner lines
go_on {r = r} lines others sound is answer answered tested =
    (answered, others r.planner (change_keeps_sound is sound) (subst⁻¹ (λ (h : Content). So (lines_test h lines)) (change_leaves is answer answered) tested))

tested_lines : (lines : List Line) (p : Planner) → Sound p → So (lines_test (content p) lines) → Answers p lines
unfolding lines_test Answers
tested_lines [] p sound tested = tt
tested_lines (add_gives o answer ∷ lines) p sound tested =
    let left = after_change (content p) (added (content p) o) answer in
    let split : So (add_test (content p) o answer) × So (lines_test left lines) = both tested in
    λ r is. go_on lines (tested_lines lines) sound is answer (add_answered p sound o answer split.0 r is) split.1
tested_lines (remove_gives id answer ∷ lines) p sound tested =
    let left = after_change (content p) (removed (content p) id) answer in
    let split : So (remove_test (content p) id answer) × So (lines_test left lines) = both tested in
    λ r is. go_on lines (tested_lines lines) sound is answer (remove_answered p sound id answer split.0 r is) split.1
tested_lines (send_gives n answer ∷ lines) p sound tested =
    let left = after_change (content p) (posted (content p) n) answer in
    let split : So (send_test (content p) n answer) × So (lines_test left lines) = both tested in
    λ r is. go_on lines (tested_lines lines) sound is answer (send_answered p sound n answer split.0 r is) split.1
tested_lines (round_gives start n numbers ∷ lines) p sound tested =
    let split : So (held_test (content p) start n numbers) × So (lines_test (left_at (content p) start) lines) = both tested in
    λ before after r long is.
    let (answers, leaves) = round_held p sound before after r long is start n numbers split.0 in
    (answers, tested_lines lines r.planner (round_keeps_sound is sound) (subst⁻¹ (λ (h : Content). So (lines_test h lines)) leaves split.1))
tested_lines (round_refused answer ∷ lines) p sound tested =
    let split : So (eqb 17 answer && late_test (content p)) × So (lines_test (content p) lines) = both tested in
    let late : So (eqb 17 answer) × So (late_test (content p)) = both split.0 in
    λ before after r long is.
    let (seventeen, same) = round_late p sound before after r long is late.1 in
    let others = subst⁻¹ (λ (q : Planner). So (lines_test (content q) lines)) same split.1 in
    (seventeen ∙ eqb-true 17 answer late.0, tested_lines lines r.planner (round_keeps_sound is sound) others)

-- a test of a case
unfoldable case_test : Case → Bool
unfolding open_test lines_test superframe_test
case_test (planner_case s t lines) = open_test s t && lines_test (opened s t) lines
case_test (superframe_case periods answer value) = superframe_test periods answer value

tested_case : (c : Case) → So (case_test c) → Holds c
unfolding case_test Holds
tested_case (planner_case s t lines) tested =
    let split : So (open_test s t) × So (lines_test (opened s t) lines) = both tested in
    let none = open_succeeds s t split.0 in
    λ r is.
    let zero = is.answer ∙ none in (
      zero,
      tested_lines lines r.planner (open_success_is_sound s t r is zero)
          (subst⁻¹ (λ (h : Content). So (lines_test h lines)) (is.opened none).holds split.1),
    )
tested_case (superframe_case periods answer value) tested = λ r is. is ∙ ap packed (tested_superframe periods answer value tested)

-- a test of all cases of a list
unfoldable all_test : List Case → Bool
unfolding case_test
all_test [] = true
all_test (c ∷ cs) = case_test c && all_test cs

tested_cases : (cs : List Case) → So (all_test cs) → (c : Case) → Mem c cs → So (case_test c)
unfolding all_test
tested_cases [] tested = λ c m. absurd (not-mem-nil m)
tested_cases (x ∷ cs) tested =
    let split : So (case_test x) × So (all_test cs) = both tested in
    (forall_mem-cons (λ c. So-prop (case_test c))).1 (split.0, tested_cases cs split.1)

-- Annex 12.21: each case of the first table holds.
pub starred_hold : (c : Case) → Mem c starred → Holds c
unfolding starred all_test
starred_hold c m = tested_case c (tested_cases starred refl c m)

-- Annex 12.21: each case of the second table holds.
pub later_hold : (c : Case) → Mem c later → Holds c
unfolding later all_test
later_hold c m = tested_case c (tested_cases later refl c m)

-- Annex 12.21: each case of the third table holds.
pub with_messages_hold : (c : Case) → Mem c with_messages → Holds c
unfolding with_messages all_test
with_messages_hold c m = tested_case c (tested_cases with_messages refl c m)
