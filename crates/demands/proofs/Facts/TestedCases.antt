-- One call of a worked case: the checker computes a test on what the planner holds, and the call's contract then gives the answer.
use Rattle.std.specs.Prelude.{◌≡◌, true, false, cond, not, ◌&&◌, List, [], ◌∷◌, eqb, take}
use Rattle.std.proofs.Math.Path.{refl, ap, subst}
use Rattle.std.proofs.Common.{sym, ◌∙◌, true≢false, arith}
use Rattle.std.proofs.Math.Bool.{Bool, So, decide, decide_iff, and-eq-true_iff}
use Rattle.std.proofs.Math.Logic.Dec.{and as Dec-and, not as Dec-not}
use Prim.Native.Nat.{ℕ, zero, suc, ◌+◌, ◌-◌, ◌*◌, ◌≤◌}
use Rattle.std.proofs.Math.Decide.{dec_le, dec_lt, dec_dvd, ℕ_discrete}
use Rattle.std.proofs.Math.Dec.{leb, ltb}
use Rattle.std.proofs.Math.ListN.{length}
use borrow.Author.Tests.{leb-true, ltb-true, eqb-true, eqb-false, not-true, le-leb}
use Rattle.basics.specs.Refusals.{Refusal, answer_of}
use Rattle.basics.specs.Facts.Refusals.{answer_first, answer_later, AllPass, answer_after}
use Rattle.basics.specs.Limits.{last_start}
use Rattle.rules.specs.Demand.{packets_by, demand, future, DemandRule, StartRule}
use Rattle.rules.specs.Slots.{riders, goes_before, put_in_order, in_order, slots}
use Rattle.rules.proofs.Facts.LazyStart.{least_of, latest, lazy_start, lazy_start_is_lazy, lazy_unique, first_due, first_due_is_first}
use Rattle.rules.proofs.Facts.Tests.{both, all_below, is_table, is_busy, keeps_demand, keeps_start, is_ready, tested_demand, tested_ready}
use Rattle.table.specs.Table.{as_streams}
use Rattle.table.specs.Changes.{put_by_id}
use Rattle.state.specs.Content.{Content, content, now_of, cap_of, slots_of, frame_of, streams_in}
use Rattle.state.specs.Sound.{ContentSound, Sound}
use Rattle.state.proofs.Facts.Sound.{all_formed, fits_now, frame_is_busy}
use Rattle.state.specs.Open.{open_refusals}
use Rattle.planner.specs.declared.Offer.{Offer}
use Rattle.planner.specs.AddRemove.{added, unsound, offer_refusals, breaks_demand, breaks_start, not_held, IsChange, IsAdd, IsRemove}
use Rattle.planner.specs.Send.{no_message, mail_full, IsSend}
use Rattle.planner.specs.Round.{listed_at, left_at, IsRound}
use Rattle.state.specs.Start.{IsStart}
use Rattle.planner.proofs.Facts.Calls.{refused_change, success_change, refused_round, success_round, held_exactly, seventeen_exactly}
use Rattle.state.specs.declared.Setting.{Setting}
use Rattle.state.specs.declared.Planner.{Planner}
use Rattle.state.specs.declared.Changed.{Changed}
use Rattle.planner.specs.declared.Rounded.{Rounded}
use Rattle.demands.proofs.Facts.Written.{written}

all_so : {a b : Bool} → So a → So b → So (a && b)
all_so {a} {b} one other = (and-eq-true_iff a b).1 (one, other)

-- none of the refusals applies, by their decisions
unfoldable pub passes : List Refusal → Bool
unfolding decide
passes [] = true
passes (r ∷ rs) = not (decide r.decided) && passes rs

tested_pass : (rs : List Refusal) → So (passes rs) → AllPass rs
unfolding passes AllPass
tested_pass [] tested = tt
tested_pass (r ∷ rs) tested =
    let split : So (not (decide r.decided)) × So (passes rs) = both tested in
    (λ applies. true≢false (sym ((decide_iff r.decided).1 applies) ∙ not-true (decide r.decided) split.0), tested_pass rs split.1)

-- the numbers passed to open are in range
unfoldable pub open_test : Setting → ℕ → Bool
unfolding passes dec_le dec_lt Dec-and Dec-not
open_test s t = passes (open_refusals s t)

-- numbers that pass the test are answered 0 by open
pub open_succeeds : (s : Setting) (t : ℕ) → So (open_test s t) → answer_of (open_refusals s t) ≡ 0
unfolding open_test answer_of
open_succeeds s t tested = answer_after (open_refusals s t) [] (tested_pass (open_refusals s t) tested)

all_pass_below : (f : ℕ → Bool) (n : ℕ) → ((k : ℕ) → So (f k)) → So (all_below f n)
unfolding all_below
all_pass_below f zero each = refl
all_pass_below f (suc n) each = (and-eq-true_iff (f n) (all_below f n)).1 (each n, all_pass_below f n each)

-- a table of which one frame of lengths tells whether it keeps the two rules
unfoldable pub is_askable : Content → Bool
unfolding is_table is_busy first_due as_streams
is_askable h = is_table (streams_in h) && (is_busy (slots_of h) (streams_in h) (frame_of h) && ltb (now_of h) (first_due (streams_in h)))

-- what the two rules answer to it
unfoldable pub rules_answer : Content → ℕ
unfolding keeps_demand keeps_start as_streams
rules_answer h = cond (keeps_demand (slots_of h) (streams_in h) (frame_of h)) (cond (keeps_start (slots_of h) (now_of h) (streams_in h) (frame_of h)) 0 13) 12

module _ (h : Content) where
  demand_is_kept : DemandRule (slots_of h) (streams_in h) → So (keeps_demand (slots_of h) (streams_in h) (frame_of h))
  unfolding keeps_demand
  demand_is_kept rule =
      all_pass_below (λ t. leb (demand (streams_in h) (t + 1)) (slots_of h * (t + 1))) (frame_of h)
      (λ k. le-leb (demand (streams_in h) (k + 1)) (slots_of h * (k + 1)) (rule (k + 1) (omega arith)))

  start_is_kept : So (ltb (now_of h) (first_due (streams_in h))) → StartRule (slots_of h) (now_of h) (streams_in h)
      → So (keeps_start (slots_of h) (now_of h) (streams_in h) (frame_of h))
  unfolding keeps_start
  start_is_kept after rule =
      let first = first_due (streams_in h) in
      let later = ltb-true (now_of h) first after in
      let fits : ℕ → Bool = λ t. leb (future (streams_in h) (first + t)) (slots_of h * (first + t - now_of h)) in
      (and-eq-true_iff (ltb (now_of h) first) (all_below fits (frame_of h))).1 (
        after,
        all_pass_below fits (frame_of h)
            (λ k. le-leb (future (streams_in h) (first + k)) (slots_of h * (first + k - now_of h)) (rule (first + k) (omega (arith, later)))),
      )

  rules_answered : So (is_askable h) → answer_of (breaks_demand h ∷ breaks_start h ∷ []) ≡ rules_answer h
  unfolding is_askable rules_answer answer_of is_ready
  rules_answered tested = go (keeps_demand (slots_of h) (streams_in h) (frame_of h)) (keeps_start (slots_of h) (now_of h) (streams_in h) (frame_of h)) refl refl
    where
      formed : So (is_table (streams_in h)) × So (is_busy (slots_of h) (streams_in h) (frame_of h) && ltb (now_of h) (first_due (streams_in h)))
      formed = both tested

      busy : So (is_busy (slots_of h) (streams_in h) (frame_of h)) × So (ltb (now_of h) (first_due (streams_in h)))
      busy = both formed.1

      go : (demand_kept start_kept : Bool)
          → keeps_demand (slots_of h) (streams_in h) (frame_of h) ≡ demand_kept
          → keeps_start (slots_of h) (now_of h) (streams_in h) (frame_of h) ≡ start_kept
          → answer_of (breaks_demand h ∷ breaks_start h ∷ []) ≡ cond demand_kept (cond start_kept 0 13) 12
      go false start_kept breaks later =
          answer_first (breaks_demand h) (breaks_start h ∷ []) (λ rule. true≢false (sym (demand_is_kept rule) ∙ breaks))
      go true false keeps breaks =
          let rule = tested_demand (slots_of h) (frame_of h) (streams_in h) formed.0 busy.0 keeps in
          answer_later (breaks_demand h) (breaks_start h ∷ []) (λ fails. fails rule)
          ∙ answer_first (breaks_start h) [] (λ rule. true≢false (sym (start_is_kept busy.1 rule) ∙ breaks))
      go true true keeps keeps_too =
          let ready = tested_ready (slots_of h) (now_of h) (frame_of h) (streams_in h) (all_so formed.0 (all_so busy.0 (all_so keeps keeps_too))) in
          answer_later (breaks_demand h) (breaks_start h ∷ []) (λ fails. fails ready.demand_rule)
          ∙ answer_later (breaks_start h) [] (λ fails. fails ready.start_rule)

-- a well-formed stream, offered where a place is free, gets this answer
unfoldable pub add_test : Content → Offer → ℕ → Bool
unfolding passes dec_le dec_lt dec_dvd ℕ_discrete Dec-and Dec-not put_by_id is_askable rules_answer
add_test h o answer = passes (offer_refusals h o) && (is_askable (added h o) && eqb (rules_answer (added h o)) answer)

-- where the test is passed, add on a sound planner gives the answer that was tested
pub add_answered : (p : Planner) → Sound p → (o : Offer) (answer : ℕ) → So (add_test (content p) o answer) → (r : Changed) → IsAdd p o r → r.answer ≡ answer
unfolding add_test AllPass
add_answered p sound o answer tested r is =
    let with_it = added (content p) o in
    let offer_passes : So (passes (offer_refusals (content p) o)) × So (is_askable with_it && eqb (rules_answer with_it) answer) = both tested in
    let rules : So (is_askable with_it) × So (eqb (rules_answer with_it) answer) = both offer_passes.1 in
    is.answer
    ∙ answer_after (unsound p ∷ offer_refusals (content p) o) (breaks_demand with_it ∷ breaks_start with_it ∷ [])
    (λ fails. fails sound, tested_pass (offer_refusals (content p) o) offer_passes.0)
    ∙ rules_answered with_it rules.0
    ∙ eqb-true (rules_answer with_it) answer rules.1

-- a removal gets this answer
unfoldable pub remove_test : Content → ℕ → ℕ → Bool
unfolding answer_of ℕ_discrete Dec-not
remove_test h id answer = eqb (answer_of (not_held id h ∷ [])) answer

-- where the test is passed, remove on a sound planner gives the answer that was tested
pub remove_answered : (p : Planner) → Sound p → (id answer : ℕ) → So (remove_test (content p) id answer) → (r : Changed) → IsRemove p id r → r.answer ≡ answer
unfolding remove_test
remove_answered p sound id answer tested r is =
    is.answer
    ∙ answer_later (unsound p) (not_held id (content p) ∷ []) (λ fails. fails sound)
    ∙ eqb-true (answer_of (not_held id (content p) ∷ [])) answer tested

-- a send gets this answer
unfoldable pub send_test : Content → ℕ → ℕ → Bool
unfolding answer_of dec_le ℕ_discrete Dec-and Dec-not
send_test h n answer = eqb (answer_of (no_message n h ∷ mail_full h ∷ [])) answer

-- where the test is passed, send on a sound planner gives the answer that was tested
pub send_answered : (p : Planner) → Sound p → (n answer : ℕ) → So (send_test (content p) n answer) → (r : Changed) → IsSend p n r → r.answer ≡ answer
unfolding send_test
send_answered p sound n answer tested r is =
    is.answer
    ∙ answer_later (unsound p) (no_message n (content p) ∷ mail_full (content p) ∷ []) (λ fails. fails sound)
    ∙ eqb-true (answer_of (no_message n (content p) ∷ mail_full (content p) ∷ [])) answer tested

-- what a planner that held h holds after this answer to a change that would have left `changed`
abbrev pub after_change : Content → Content → ℕ → Content
after_change h changed answer = cond (eqb answer 0) changed h

-- after a change the planner holds what was to be left where the answer is 0, and else what it held
pub change_leaves : {refusals : List Refusal} {p : Planner} {changed : Content} {r : Changed} → IsChange refusals p changed r
    → (answer : ℕ) → r.answer ≡ answer
    → content r.planner ≡ after_change (content p) changed answer
change_leaves {refusals} {p} {changed} {r} is answer answered = go (eqb answer 0) refl
  where
    go : (zero : Bool) → eqb answer 0 ≡ zero → content r.planner ≡ cond zero changed (content p)
    go true e = (success_change is (answered ∙ eqb-true answer 0 e)).holds
    go false e = ap content (refused_change is (λ zero. eqb-false answer 0 e (sym answered ∙ zero)))

-- the start, looked for in one frame of lengths
unfoldable pub start_in : Content → ℕ
unfolding lazy_start least_of latest first_due future packets_by dec_le dec_lt as_streams
start_in h = lazy_start (slots_of h) (cap_of h) (streams_in h) (first_due (streams_in h)) (frame_of h)

start_in_is_start : (h : Content) → ContentSound h → IsStart h (start_in h)
unfolding start_in
start_in_is_start h sound =
    lazy_start_is_lazy (slots_of h) (cap_of h) (streams_in h) (now_of h) (fits_now h sound) sound.in_range.setting.slots.0 (frame_of h)
    (first_due (streams_in h)) (all_formed h sound) (frame_is_busy h sound) (first_due_is_first (streams_in h) (all_formed h sound))

-- the same numbers in the same order
unfoldable pub same_numbers : List ℕ → List ℕ → Bool
same_numbers [] [] = true
same_numbers [] (y ∷ ys) = false
same_numbers (x ∷ xs) [] = false
same_numbers (x ∷ xs) (y ∷ ys) = eqb x y && same_numbers xs ys

tested_numbers : (xs ys : List ℕ) → So (same_numbers xs ys) → xs ≡ ys
unfolding same_numbers
tested_numbers [] [] tested = refl
tested_numbers [] (y ∷ ys) tested = absurd (true≢false (sym tested))
tested_numbers (x ∷ xs) [] tested = absurd (true≢false (sym tested))
tested_numbers (x ∷ xs) (y ∷ ys) tested =
    let split : So (eqb x y) × So (same_numbers xs ys) = both tested in
    λ i. eqb-true x y split.0 i ∷ tested_numbers xs ys split.1 i

-- the start is s, the clock reaches it, and these n numbers are listed
unfoldable pub held_test : Content → ℕ → ℕ → List ℕ → Bool
unfolding start_in same_numbers slots in_order put_in_order goes_before riders Dec-and as_streams
held_test h s n ids = (eqb (start_in h) s && leb s last_start) && (eqb (length ids) n && same_numbers (listed_at h s) ids)

-- the start is after the last one
unfoldable pub late_test : Content → Bool
unfolding start_in
late_test h = ltb last_start (start_in h)

module _ (p : Planner) (sound : Sound p) (before after : List ℕ) (r : Rounded) (long : p.setting.slots ≤ length before) (is : IsRound p before after r) where
  -- where the test is passed, a round on a sound planner is held at s with these n numbers, and the planner then holds what a round at s leaves
  pub round_held : (s n : ℕ) (ids : List ℕ) → So (held_test (content p) s n ids)
      → ((r.answer ≡ 0) × (r.start ≡ s) × (r.n ≡ n) × (take r.n after ≡ ids)) × (content r.planner ≡ left_at (content p) s)
  unfolding held_test
  round_held s n ids tested =
      let h = content p in
      let split : So (eqb (start_in h) s && leb s last_start) × So (eqb (length ids) n && same_numbers (listed_at h s) ids) = both tested in
      let at : So (eqb (start_in h) s) × So (leb s last_start) = both split.0 in
      let places : So (eqb (length ids) n) × So (same_numbers (listed_at h s) ids) = both split.1 in
      let start : IsStart h s = subst (IsStart h) (eqb-true (start_in h) s at.0) (start_in_is_start h sound.content_sound) in
      let zero = is.answer ∙ (held_exactly p before sound long s start).1 (leb-true s last_start at.1) in
      let w = success_round is zero in
      let same : r.start ≡ s = lazy_unique (slots_of h) (cap_of h) (streams_in h) r.start s w.start start in
      let listed : listed_at h r.start ≡ ids = ap (listed_at h) same ∙ tested_numbers (listed_at h s) ids places.1 in (
        (zero, same, w.n ∙ ap length listed ∙ eqb-true (length ids) n places.0, written p before after r w ∙ listed),
        w.planner.holds ∙ ap (left_at h) same,
      )

  -- where the test of a late start is passed, it is answered 17, and the planner stays as it was
  pub round_late : So (late_test (content p)) → (r.answer ≡ 17) × (r.planner ≡ p)
  unfolding late_test
  round_late tested =
      let h = content p in
      let exactly = seventeen_exactly p before sound long (start_in h) (start_in_is_start h sound.content_sound) in
      let seventeen : r.answer ≡ 17 = is.answer ∙ exactly.1 (ltb-true last_start (start_in h) tested) in
      (seventeen, (refused_round is (λ zero. omega (arith, seventeen, zero))).planner)
