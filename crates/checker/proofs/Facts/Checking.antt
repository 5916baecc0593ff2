-- The loop over a plan: the rounds before the place reached have passed, and these are the records that they leave.
use Rattle.std.specs.Prelude.{◌≡◌, refl, List, [], ◌∷◌, ◌++◌, map, ℕ, ◌+◌, ◌-◌, ◌≤◌, ◌<◌, length, take, drop}
use Rattle.std.proofs.Math.Path.{sym, subst⁻¹}
use Rattle.std.proofs.Common.{ap, subst, ◌∙◌, lt_irrefl, arith, length-append, length-drop, take-append-drop, take_all, take_at, take-add, length-take-le}
use Rattle.basics.specs.Limits.{last_start}
use Rattle.messages.specs.Numbers.{stream_ids}
use Rattle.table.specs.Table.{records_of}
use Rattle.table.specs.declared.Record.{Record}
use Rattle.packet_bytes.specs.Layout.{Values, bytes_of}
use Rattle.packet_bytes.specs.Facts.Layout.{length_bytes}
use Rattle.state.specs.Content.{content}
use Rattle.state.specs.Sound.{Sound}
use Rattle.state.specs.declared.Planner.{Planner}
use Rattle.checker.specs.Plans.{sent_for, Passed, none, laid_out, IsSoundPlan, BreaksAt, BreaksRule}
use Rattle.checker.specs.Verdicts.{finding, IsFinding, all_pass, one_breaks}
use Rattle.checker.specs.Needs.{CanShow, reached, IsFront}
use Rattle.checker.proofs.Facts.Passing.{passed_more, laid_out_more, passed_rise, passed_by_last, rule_stops}
use Rattle.checker.specs.declared.rounds.Passed.{Passed as Round}

-- Part of the way: the rounds before the place, so many, have passed and led to this last start and to these records.
pub record Checking (p : Planner) (plan : List ℕ) (rs : List Record) (last passed at : ℕ) : Type 0 where
  pub sound : Sound p
  pub rounds : List Values
  pub are : take at plan ≡ laid_out rounds
  pub passing : Passed (content p) rounds (reached p.setting last (content p).waiting rs)
  pub counted : passed ≡ length rounds
  pub within : at ≤ length plan

module _ (p : Planner) (sound : Sound p) where
  -- the records of a sound planner can stand in columns
  pub can_show : CanShow p.table
  can_show =
      let in_range = sound.content_sound.in_range in
      let each = in_range.records.each in
      record {
        count = sound.count;
        regular = record {
          ascending = in_range.records.ascending;
          ids = λ r m. (each r m).id.1;
          periods = λ r m. (each r m).period.1;
          deadlines = λ r m. omega (arith, (each r m).deadline.1, (each r m).period.1);
        };
        small = λ r m.
            omega (arith, sound.content_sound.near.released r m, (each r m).deadline.1, (each r m).period.1, in_range.last);
      }

  -- at first nothing has been checked
  pub none_checked : {plan : List ℕ} → Checking p plan (records_of p.table) p.last 0 0
  unfolding laid_out
  none_checked = record { sound = sound; rounds = []; are = refl; passing = none; counted = refl; within = omega arith }

module _ {p : Planner} {plan : List ℕ} {rs : List Record} {last passed at : ℕ} (so_far : Checking p plan rs last passed at) where
  -- as starts rise, there are no more rounds than the last start says
  pub rounds_fit : passed ≤ last_start
  rounds_fit =
      omega (arith, so_far.counted, passed_rise so_far.passing, passed_by_last so_far.passing so_far.sound.content_sound.in_range.last)

  -- what is left of the plan, as the code takes it
  abbrev rest : List ℕ
  rest = take (length plan - at) (drop at plan)

  rest_is : rest ≡ drop at plan
  rest_is = take_all (length plan - at) (drop at plan) (simp length-drop (omega arith))

  cut : plan ≡ laid_out so_far.rounds ++ rest
  cut =
      sym (take-append-drop at plan)
      ∙ ap (λ (l : List ℕ). l ++ drop at plan) so_far.are
      ∙ ap (λ (l : List ℕ). laid_out so_far.rounds ++ l) (sym rest_is)

  as_long : length rest ≡ length plan - at
  as_long = ap (length {A = ℕ}) rest_is ∙ length-drop at plan

  bytes_so_far : at ≡ length (laid_out so_far.rounds)
  bytes_so_far = sym (length-take-le at plan so_far.within) ∙ ap (length {A = ℕ}) so_far.are

  -- a rule broken here is what is found
  pub breaks_here : {n : ℕ} → at < length plan → BreaksRule (reached p.setting last (content p).waiting rs) rest n
      → IsFinding p plan (finding 0 passed n at)
  breaks_here {n} more rule =
      subst⁻¹ (λ (k : ℕ). IsFinding p plan (finding 0 k n at)) so_far.counted
      (subst⁻¹ (λ (b : ℕ). IsFinding p plan (finding 0 (length so_far.rounds) n b)) bytes_so_far
      (one_breaks so_far.sound (length so_far.rounds + 1) n broken rule))
    where
      broken : BreaksAt (content p) plan (length so_far.rounds + 1)
      broken = record {
        rounds = so_far.rounds;
        rest = rest;
        are = cut;
        left = reached p.setting last (content p).waiting rs;
        passed = so_far.passing;
        counted = refl;
        something = λ empty. lt_irrefl 0 (omega (arith, ap (length {A = ℕ}) empty, as_long));
        breaks = rule_stops rule;
      }

  -- at the end all rounds have passed
  pub plan_passes : length plan ≤ at → IsFinding p plan (finding 0 passed 0 at)
  plan_passes done =
      subst⁻¹ (λ (k : ℕ). IsFinding p plan (finding 0 k 0 at)) so_far.counted
      (subst (λ (b : ℕ). IsFinding p plan (finding 0 (length so_far.rounds) 0 b)) end (all_pass so_far.sound whole))
    where
      end : length plan ≡ at
      end = omega (arith, so_far.within)

      whole : IsSoundPlan (content p) plan
      whole = record {
        rounds = so_far.rounds;
        are = sym (take_all at plan done) ∙ so_far.are;
        left = reached p.setting last (content p).waiting rs;
        passed = so_far.passing;
      }

  module _ {after : List Record} {r : Round} (is : IsFront (reached p.setting last (content p).waiting rs) rest after r) where
    -- the round's packet is within the plan, and not empty
    pub front_within : at + r.length ≤ length plan
    front_within =
        let long = ap (length {A = ℕ}) is.are ∙ length-append (bytes_of is.round) (drop r.length rest) in
        omega (arith, long, as_long, is.long, so_far.within)

    -- .. and it has a byte at least
    pub front_some : 1 ≤ r.length
    front_some = omega (arith, is.long, length_bytes is.round)

    -- one round more has passed
    pub one_more_checked : Checking p plan after r.start (passed + 1) (at + r.length)
    one_more_checked = record {
      sound = so_far.sound;
      rounds = so_far.rounds ++ (is.round ∷ []);
      are =
          take-add at r.length plan
          ∙ ap (λ (l : List ℕ). l ++ take r.length (drop at plan)) so_far.are
          ∙ ap (λ (l : List ℕ). laid_out so_far.rounds ++ l)
          (ap (take r.length) (sym rest_is ∙ is.are) ∙ take_at (bytes_of is.round) (drop r.length rest) r.length (sym is.long))
          ∙ sym (laid_out_more so_far.rounds is.round);
      passing =
          subst⁻¹ (λ (l : List Record). Passed (content p) (so_far.rounds ++ (is.round ∷ [])) (reached p.setting r.start (content p).waiting l)) is.left
          (subst⁻¹
          (λ (t : ℕ). Passed (content p) (so_far.rounds ++ (is.round ∷ []))
          (reached p.setting t (content p).waiting (map (sent_for (stream_ids is.round.ids)) rs)))
          is.start
          (passed_more so_far.passing is.round is.passes));
      counted = ap (λ (n : ℕ). n + 1) so_far.counted ∙ sym (length-append so_far.rounds (is.round ∷ []));
      within = front_within;
    }
