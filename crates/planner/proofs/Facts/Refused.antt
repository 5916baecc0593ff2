-- Each test that add, remove, send and round make is for one refusal of their lists, in its order; behind the last none applies.
use Rattle.std.specs.Prelude.{◌≡◌, List, ◌∷◌, ℕ, ◌+◌, ◌≤◌, ◌<◌, ◌%◌, length}
use Rattle.std.specs.Int.{◌∣◌}
use Rattle.std.proofs.Common.{sym, ◌∙◌, lt_irrefl, arith}
use Rattle.std.proofs.Math.Nat.{dvd_of_mod-eq-zero, mod-eq-zero_of_dvd}
use Rattle.basics.specs.Limits.{last_start, places, largest_id, longest_period, furthest_release, most_waiting}
use Rattle.basics.specs.OneTo.{OneTo}
use Rattle.basics.specs.Refusals.{Refusal, answer_of, FirstOf, none, here, later}
use Rattle.basics.specs.Facts.Refusals.{answer_later, first_is_answer}
use Rattle.messages.specs.Waiting.{IsMessage}
use Rattle.messages.specs.Facts.Waiting.{waiting_length}
use Rattle.table.specs.Changes.{HasId}
use Rattle.table.specs.Facts.Changes.{records_count}
use Rattle.state.specs.Content.{content}
use Rattle.state.specs.Sound.{Sound}
use Rattle.state.specs.declared.Planner.{Planner}
use Rattle.planner.specs.declared.Offer.{Offer}
use Rattle.planner.specs.AddRemove.{unsound, bad_id, id_held, full, offer_refusals, remove_refusals}
use Rattle.planner.specs.Send.{send_refusals}
use Rattle.planner.specs.Round.{round_refusals}
use Rattle.planner.specs.Needs.{CanSend, CanTest}
use Rattle.state.specs.Start.{IsStart}
use Rattle.planner.proofs.Facts.Calls.{starts_late_iff}

-- what a planner that is not sound gets ..
pub not_sound : {p : Planner} (rs : List Refusal) → (Sound p → ⊥) → 5 ≡ answer_of (unsound p ∷ rs)
not_sound rs fails = first_is_answer (here fails)

-- .. and a sound one
pub is_sound : {p : Planner} (rs : List Refusal) {n : ℕ} → Sound p → n ≡ answer_of rs → n ≡ answer_of (unsound p ∷ rs)
is_sound {p} rs sound is = is ∙ sym (answer_later (unsound p) rs (λ fails. fails sound))

module _ {p : Planner} (sound : Sound p) (o : Offer) where
  -- the tests of an offer by itself
  pub has_bad_id : (OneTo largest_id o.id → ⊥) → 6 ≡ answer_of (offer_refusals (content p) o)
  has_bad_id bad = first_is_answer (here bad)

  module _ (id : OneTo largest_id o.id) where
    pub has_taken_id : HasId o.id (content p).table → 7 ≡ answer_of (offer_refusals (content p) o)
    has_taken_id taken = first_is_answer (later {r = bad_id o.id} (λ bad. bad id) (here taken))

    module _ (new : HasId o.id (content p).table → ⊥) (long : length p.table.streams ≡ 64) where
      held : length (content p).table ≡ p.table.count
      held = records_count p.table (omega (arith, long, sound.count))

      pub is_full : p.table.count ≡ places → 8 ≡ answer_of (offer_refusals (content p) o)
      is_full full = first_is_answer (later {r = bad_id o.id} (λ bad. bad id) (later new (here (omega (arith, held, full)))))

      module _ (room : p.table.count ≡ places → ⊥) where
        not_full : places ≤ length (content p).table → ⊥
        not_full many = room (omega (arith, held, sound.count, many))

        -- where 6 to 8 do not apply, the others give the answer
        by_others : {n : ℕ} {rs : List Refusal} → FirstOf rs n → FirstOf (bad_id o.id ∷ id_held o.id (content p) ∷ full (content p) ∷ rs) n
        by_others others = later {r = bad_id o.id} (λ bad. bad id) (later new (later not_full others))

        pub has_bad_period : (OneTo longest_period o.period → ⊥) → 9 ≡ answer_of (offer_refusals (content p) o)
        has_bad_period bad = first_is_answer (by_others (here (λ fine. bad fine.0)))

        pub has_undivided_frame : (p.setting.frame % o.period ≡ 0 → ⊥) → 9 ≡ answer_of (offer_refusals (content p) o)
        has_undivided_frame bad = first_is_answer (by_others (here (λ fine. bad (mod-eq-zero_of_dvd _ fine.1))))

        module _ (period : OneTo longest_period o.period) (divides : p.setting.frame % o.period ≡ 0) where
          period_fine : ((OneTo longest_period o.period × (o.period ∣ p.setting.frame)) → ⊥) → ⊥
          period_fine bad = bad (period, dvd_of_mod-eq-zero _ divides)

          pub has_bad_deadline : (OneTo o.period o.deadline → ⊥) → 10 ≡ answer_of (offer_refusals (content p) o)
          has_bad_deadline bad = first_is_answer (by_others (later period_fine (here bad)))

          module _ (deadline : OneTo o.period o.deadline) where
            pub has_early_start : o.start < p.last + 1 → 11 ≡ answer_of (offer_refusals (content p) o)
            has_early_start early =
                first_is_answer (by_others (later period_fine (later (λ bad. bad deadline) (here (λ near. lt_irrefl o.start (omega (arith, near.0, early)))))))

            pub has_late_start : p.last + 1 + furthest_release < o.start → 11 ≡ answer_of (offer_refusals (content p) o)
            has_late_start late =
                first_is_answer (by_others (later period_fine (later (λ bad. bad deadline) (here (λ near. lt_irrefl o.start (omega (arith, near.1, late)))))))

            pub is_fine : p.last + 1 ≤ o.start → o.start ≤ p.last + 1 + furthest_release → 0 ≡ answer_of (offer_refusals (content p) o)
            is_fine from to =
                first_is_answer (by_others (later period_fine (later (λ bad. bad deadline) (later (λ bad. bad (from, to)) none))))

            pub can_test_offer : p.last + 1 ≤ o.start → o.start ≤ p.last + 1 + furthest_release → CanTest p o
            can_test_offer from to =
                record {
                  sound = sound;
                  formed =
                      record {
                        id = id;
                        new = new;
                        place_free = omega (arith, held, sound.count, room);
                        period_range = period;
                        divides = dvd_of_mod-eq-zero _ divides;
                        deadline_range = deadline;
                        start_range = (from, to);
                      };
                }

pub ruleset offer_tests = (has_bad_id, has_taken_id, is_full, has_bad_period, has_undivided_frame, has_bad_deadline, has_early_start, has_late_start, is_fine, can_test_offer)

module _ {p : Planner} (sound : Sound p) (id : ℕ) where
  -- the test of an id that is to be removed
  pub no_stream : (HasId id (content p).table → ⊥) → 14 ≡ answer_of (remove_refusals p id)
  no_stream absent = first_is_answer (later (λ fails. fails sound) (here absent))

  pub can_remove : HasId id (content p).table → 0 ≡ answer_of (remove_refusals p id)
  can_remove held = first_is_answer (later (λ fails. fails sound) (later (λ absent. absent held) none))

pub ruleset remove_tests = (not_sound, no_stream, can_remove)

module _ {p : Planner} (sound : Sound p) (n : ℕ) where
  -- the tests of a number that is to be sent
  pub is_no_message : (IsMessage n → ⊥) → 29 ≡ answer_of (send_refusals p n)
  is_no_message other = first_is_answer (later (λ fails. fails sound) (here (λ is. other is.0)))

  pub messages_are_off : p.setting.messages ≡ 0 → 29 ≡ answer_of (send_refusals p n)
  messages_are_off off = first_is_answer (later (λ fails. fails sound) (here (λ is. lt_irrefl 0 (omega (arith, is.1, off)))))

  module _ (is : IsMessage n) (on : p.setting.messages ≡ 0 → ⊥) where
    messages_are_on : p.setting.messages ≡ 1
    messages_are_on = omega (arith, on, sound.content_sound.in_range.setting.flag)

    pub mail_is_full : length p.waiting.numbers ≡ most_waiting → p.waiting.count ≡ most_waiting → 30 ≡ answer_of (send_refusals p n)
    mail_is_full long full =
        first_is_answer
        (later (λ fails. fails sound) (later (λ off. off (is, messages_are_on))
        (here (omega (arith, waiting_length p.waiting long sound.waiting_count, full)))))

    module _ (room : p.waiting.count ≡ most_waiting → ⊥) where
      place_free : p.waiting.count < most_waiting
      place_free = omega (arith, room, sound.waiting_count)

      pub is_sent : length p.waiting.numbers ≡ most_waiting → 0 ≡ answer_of (send_refusals p n)
      is_sent long =
          first_is_answer
          (later (λ fails. fails sound) (later (λ off. off (is, messages_are_on))
          (later (λ many. lt_irrefl most_waiting (omega (arith, waiting_length p.waiting long sound.waiting_count, place_free, many))) none)))

      pub can_send : CanSend p n
      can_send = record { sound = sound; message = is; on = messages_are_on; place_free = place_free }

pub ruleset send_tests = (not_sound, is_no_message, messages_are_off, mail_is_full, is_sent, can_send)

module _ {p : Planner} (sound : Sound p) (buffer : List ℕ) where
  -- the tests of a round, once the start is known
  pub is_too_short : length buffer < p.setting.slots → 16 ≡ answer_of (round_refusals p buffer)
  is_too_short short = first_is_answer (later (λ fails. fails sound) (here short))

  module _ (long : p.setting.slots ≤ length buffer) {start : ℕ} (lazy : IsStart (content p) start) where
    not_short : length buffer < p.setting.slots → ⊥
    not_short short = lt_irrefl (length buffer) (omega (arith, short, long))

    pub is_too_late : last_start < start → 17 ≡ answer_of (round_refusals p buffer)
    is_too_late late =
        first_is_answer (later (λ fails. fails sound) (later not_short (here ((starts_late_iff p sound start lazy).1 late))))

    pub is_held : start ≤ last_start → 0 ≡ answer_of (round_refusals p buffer)
    is_held early =
        first_is_answer (later (λ fails. fails sound) (later not_short
        (later (λ late. lt_irrefl last_start (omega (arith, early, late sound start lazy))) none)))

pub ruleset round_tests = (not_sound, is_too_short)
