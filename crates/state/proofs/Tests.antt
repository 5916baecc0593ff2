-- What the tests of a setting and of a planner rest on, test by test.
use Rattle.std.specs.Prelude.{◌≡◌, Bool, true, false, not, eqb, Result, Ok, Err, ℕ, ◌*◌, ◌≤◌, ◌<◌, length}
use Rattle.std.specs.Result.{is_ok}
use mir.Val.{bool_byte}
use Rattle.std.proofs.Common.{sym, ◌∙◌, true≢false, lt_irrefl, arith}
use Rattle.std.proofs.lemmas.Bool.{false≢true}
use Rattle.std.proofs.lemmas.Grind.{common_steps}
use Rattle.basics.specs.Answers.{answer, number_of}
use Rattle.basics.specs.Decides.{Decides}
use Rattle.basics.specs.Facts.Decides.{decides_no, same_as}
use Rattle.basics.specs.declared.refusals.Refusal.{Refusal}
use Rattle.basics.specs.Limits.{last_start, longest_frame, longest_gap, most_waiting}
use Rattle.basics.specs.OneTo.{OneTo}
use Rattle.basics.specs.Refusals.{answer_of, none, here, later}
use Rattle.basics.specs.Facts.Refusals.{first_is_answer}
use Rattle.messages.specs.Needs.{WaitingInRange}
use Rattle.messages.specs.Facts.Waiting.{waiting_length, waiting_members, waiting_from}
use Rattle.state.specs.Open.{bad_slots, flag_of, open_refusals}
use Rattle.state.proofs.Facts.Open.{open_exact}
use Rattle.state.specs.Sound.{HasSlots}
use Rattle.state.specs.Needs.{NumbersInRange, HasNumbers}
use Rattle.state.specs.declared.Planner.{Planner}
use Rattle.state.specs.declared.Setting.{Setting}

module _ (s : Setting) (t : ℕ) where
  -- each test of a setting is for one refusal of open, in their order
  pub has_bad_slots : (HasSlots s → ⊥) → 1 ≡ answer_of (open_refusals s t)
  has_bad_slots bad = first_is_answer (here bad)

  module _ (slots : HasSlots s) where
    pub has_bad_frame : (OneTo longest_frame s.frame → ⊥) → 2 ≡ answer_of (open_refusals s t)
    has_bad_frame bad = first_is_answer (later {r = bad_slots s} (λ no. no slots) (here bad))

    module _ (frame : OneTo longest_frame s.frame) where
      pub has_bad_gap : (OneTo longest_gap s.gap → ⊥) → 3 ≡ answer_of (open_refusals s t)
      has_bad_gap bad = first_is_answer (later {r = bad_slots s} (λ no. no slots) (later (λ no. no frame) (here bad)))

      module _ (gap : OneTo longest_gap s.gap) where
        pub has_bad_last : last_start < t → 4 ≡ answer_of (open_refusals s t)
        has_bad_last late = first_is_answer (later {r = bad_slots s} (λ no. no slots) (later (λ no. no frame) (later (λ no. no gap) (here late))))

        pub has_no_bad : t ≤ last_start → 0 ≡ answer_of (open_refusals s t)
        has_no_bad early =
            first_is_answer
            (later {r = bad_slots s} (λ no. no slots) (later (λ no. no frame) (later (λ no. no gap)
            (later (λ late. lt_irrefl last_start (omega (arith, late, early))) none))))

pub ruleset open_tests = (has_bad_slots, has_bad_frame, has_bad_gap, has_bad_last, has_no_bad)

-- the flag that is kept is 1 just where the number is not 0
pub flag_is : (messages : ℕ) → bool_byte (not (eqb messages 0)) ≡ flag_of messages
flag_is messages = grind (arith, common_steps)

-- no refusal has the number 0
pub some_number : (refusal : Refusal) → number_of refusal ≡ 0 → ⊥
some_number refusal = grind arith

-- what open does not refuse is in range ..
not_refused : {A : Type 0} (r : Result A Refusal) {s : Setting} {t : ℕ} → answer r ≡ answer_of (open_refusals s t) → true ≡ is_ok r → NumbersInRange s t
not_refused (Ok _) is ok = open_exact.0 (sym is)
not_refused (Err _) is ok = absurd (true≢false ok)

-- .. and what it refuses is not
refused : {A : Type 0} (r : Result A Refusal) {s : Setting} {t : ℕ} → answer r ≡ answer_of (open_refusals s t) → false ≡ is_ok r → NumbersInRange s t → ⊥
refused (Ok _) is err = absurd (false≢true err)
refused (Err refusal) is err = λ numbers. some_number refusal (is ∙ open_exact.1 numbers)

module _ {A : Type 0} (p : Planner) (r : Result A Refusal) (is : answer r ≡ answer_of (open_refusals p.setting p.last)) where
  -- the bound on what waits fits a number ..
  pub flag_in_range : true ≡ is_ok r → p.setting.messages ≤ 1
  flag_in_range ok = (not_refused r is ok).setting.flag

  -- .. and then the test of what waits decides
  pub waiting_decides : true ≡ is_ok r → length p.waiting.numbers ≡ most_waiting → {b : Bool}
      → Decides b (WaitingInRange (most_waiting * p.setting.messages) p.waiting) → Decides b (HasNumbers p)
  waiting_decides ok long =
      let numbers = not_refused r is ok in
      same_as
      (λ is. record {
        numbers = numbers;
        mail = record { few = omega (arith, waiting_length p.waiting long is.count, is.few); range = waiting_members p.waiting long is };
        waiting_count = is.count;
      })
      (λ has. waiting_from p.waiting long has.waiting_count has.mail.few has.mail.range)

  pub refused_decides : false ≡ is_ok r → Decides false (HasNumbers p)
  refused_decides err = decides_no (λ has. refused r is err has.numbers)

pub ruleset number_tests = (flag_in_range, waiting_decides, refused_decides)
