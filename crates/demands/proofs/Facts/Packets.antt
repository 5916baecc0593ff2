-- A held round is a good packet.
use Rattle.std.specs.Prelude.{◌≡◌, List, ℕ, ◌+◌, ◌*◌, ◌≤◌, ◌<◌, length, take}
use Rattle.std.proofs.Common.{sym, ap, ◌∙◌, arith}
use Rattle.std.proofs.Math.Path.{subst⁻¹}
use Rattle.std.proofs.Math.Decide.{dec_lt}
use Rattle.basics.specs.Refusals.{answer_of}
use Rattle.basics.specs.Limits.{last_start}
use Rattle.rules.specs.Slots.{slots}
use Rattle.rules.proofs.Facts.Slots.{choice_differ}
use Rattle.state.specs.Content.{Content, content, slots_of, streams_in}
use Rattle.state.specs.Sound.{Sound}
use Rattle.state.proofs.Facts.Sound.{content_ready}
use Rattle.planner.specs.Round.{ids_at, free_at, listed_at, IsHeldRound, IsRound}
use Rattle.planner.proofs.Facts.Listed.{few_listed, listed_messages, is_choice, listed_ids}
use Rattle.planner.proofs.Facts.Calls.{success_round, held_is_not_late, starts_late_iff}
use Rattle.state.specs.declared.Planner.{Planner}
use Rattle.planner.specs.declared.Rounded.{Rounded}
use Rattle.packet_bytes.specs.Layout.{Values}
use Rattle.packets.specs.Good.{IdsGood, NumbersGood, IsGood}
use Rattle.packets.specs.Facts.Numbers.{numbers_good}
use Rattle.packet_bytes.specs.Facts.Layout.{length_bytes}
use Rattle.packets.specs.Writing.{write_refusals}
use Rattle.packets.specs.Facts.Writing.{good_is_written, refuses_28}
use Rattle.demands.proofs.Facts.Written.{written}
use Rattle.demands.specs.Packets.{round_values, IsPacketOfRound}

module _ (p : Planner) (sound : Sound p) (before after : List ℕ) (r : Rounded) (is : IsRound p before after r) (zero : r.answer ≡ 0) where
  abbrev held : IsHeldRound p before after r
  held = success_round is zero

  abbrev h : Content
  h = content p

  not_late : r.start ≤ last_start
  not_late = go (dec_lt last_start r.start)
    where
      go : Dec (last_start < r.start) → r.start ≤ last_start
      go (yes late) = absurd (held_is_not_late p before (sym is.answer ∙ zero) ((starts_late_iff p sound r.start held.start).1 late))
      go (no early) = omega arith

  ids_good : IdsGood (ids_at h r.start)
  ids_good =
      record {
        range = listed_ids h sound.content_sound r.start held.start;
        once =
            choice_differ (slots_of h) r.start (streams_in h) (slots (slots_of h) r.start (streams_in h))
            (content_ready h sound.content_sound).table (is_choice h sound.content_sound r.start held.start);
      }

  -- the numbers in the buffer are the ids of the slots, and behind them messages
  is_listed : take r.n after ≡ listed_at h r.start
  is_listed = written p before after r held

  same_n : length (take r.n after) ≡ r.n
  same_n = ap (length {A = ℕ}) is_listed ∙ sym held.n

  is_good : IsGood (round_values p after r)
  is_good =
      let setting = sound.content_sound.in_range.setting in
      record {
        start = not_late;
        slots = (omega (arith, setting.slots), setting.slots.1);
        count = omega (arith, same_n, held.n, few_listed h r.start);
        ids = subst⁻¹ NumbersGood is_listed (numbers_good ids_good (listed_messages sound.content_sound.in_range.mail (free_at h r.start)));
      }

  -- Annex 12.16: a round of a sound planner that answered 0 is a good packet.
  pub held_round_is_good : IsPacketOfRound p after r
  held_round_is_good =
      record {
        good = is_good;
        n = same_n;
        slots = ap (λ (h : Content). h.setting.slots) held.planner.holds;
        written = λ packet left answer wrote. enough packet wrote.answers;
        short = λ packet left answer wrote. short packet wrote.answers;
        never_27 = λ packet left answer wrote e. go packet wrote.answers e (dec_lt (length packet) (6 + 2 * r.n));
      }
    where
      v : Values
      v = round_values p after r

      enough : (packet : List ℕ) {answer : ℕ} → answer ≡ answer_of (write_refusals v packet) → 6 + 2 * r.n ≤ length packet → answer ≡ 0
      enough packet is_answer room = is_answer ∙ good_is_written v packet is_good (omega (arith, length_bytes v, same_n, room))

      short : (packet : List ℕ) {answer : ℕ} → answer ≡ answer_of (write_refusals v packet) → length packet < 6 + 2 * r.n → answer ≡ 28
      short packet is_answer few = is_answer ∙ sym (refuses_28 v packet is_good (omega (arith, same_n, few))).answers

      go : (packet : List ℕ) {answer : ℕ} → answer ≡ answer_of (write_refusals v packet) → answer ≡ 27 → Dec (length packet < 6 + 2 * r.n) → ⊥
      go packet is_answer e (yes few) = omega (arith, short packet is_answer few, e)
      go packet is_answer e (no room) = omega (arith, enough packet is_answer (omega arith), e)
