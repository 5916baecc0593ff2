-- A successful opening gives a sound planner, and the closed planner is not sound.
use Rattle.std.specs.Prelude.{◌≡◌, ◌↔◌, ℕ, ◌-◌, ◌≤◌, ◌<◌, length}
use Rattle.std.proofs.Common.{sym, subst, ◌∙◌, lt_irrefl, lt_of_lt_of_le, arith}
use Rattle.std.proofs.Math.Path.{subst⁻¹}
use Rattle.std.proofs.Math.Logic.{∥∥₁_elim}
use Rattle.std.proofs.Math.Logic.Dec.{not-not as Dec-not_not}
use mathlib.Core.List.Pairwise
use mathlib.Core.List.{List, Mem, Mem-prop, not-mem-nil}
use Rattle.std.proofs.Math.Decide.{dec_le}
use Rattle.basics.specs.Limits.{last_start, places, most_slots, longest_frame, longest_gap}
use Rattle.basics.specs.OneTo.{OneTo}
use Rattle.basics.specs.Facts.OneTo.{in_limit}
use Rattle.basics.specs.Refusals.{answer_of, none, later}
use Rattle.basics.specs.Facts.Refusals.{AllPass, AllNumbered, zero_all_pass, first_is_answer}
use Rattle.rules.specs.Demand.{demand, future}
use Rattle.table.specs.Range.{RecordsInRange}
use Rattle.table.specs.Facts.Streams.{none_seen}
use Rattle.queue.specs.Interface.{Entry}
use Rattle.queue.specs.InterfaceLaws.{empty_has_none}
use Rattle.state.specs.Content.{Content, slots_of, frame_of}
use Rattle.state.specs.Sound.{HasSlots, decide_has_slots, MailInRange, InRange, ContentSound, Sound}
use Rattle.state.specs.Needs.{NumbersInRange}
use Rattle.state.specs.Open.{flag_of, setting, zeros, open_refusals, opened, IsFresh, IsOpened}
use Rattle.state.specs.declared.Planner.{Planner}
use Rattle.state.specs.declared.Setting.{Setting}
use Rattle.state.specs.declared.Changed.{Changed}

-- the numbers of what is in range
pub range_numbers : {h : Content} → InRange h → NumbersInRange h.setting h.last
range_numbers range = record { setting = range.setting; last = range.last }

-- with its numbers and its records in range, what a planner holds is
pub in_range_by_numbers : {h : Content} → NumbersInRange h.setting h.last → length h.table ≤ places → RecordsInRange (frame_of h) h.table
    → MailInRange h.setting.messages h.waiting → InRange h
in_range_by_numbers numbers few records mail = record { setting = numbers.setting; last = numbers.last; at_most = few; records = records; mail = mail }

opened_sound : (s : Setting) (t : ℕ) → NumbersInRange s t → ContentSound (opened s t)
unfolding demand future
opened_sound s t numbers =
    record {
      in_range = in_range_by_numbers numbers (omega arith) (record { each = λ s m. absurd (not-mem-nil m); ascending = Pairwise.nil })
          (record { few = omega arith; range = λ n m. absurd (not-mem-nil m) });
      near = record { due_after = λ s m. absurd (not-mem-nil m); released = λ s m. absurd (not-mem-nil m) };
      demand_rule = λ u some. rw none_seen (omega arith);
      start_rule = λ u after. rw none_seen (omega arith);
    }

-- a fresh planner with its numbers in range is sound
fresh_is_sound : (s : Setting) (t : ℕ) → NumbersInRange s t → (p : Planner) → IsFresh s t p → Sound p
fresh_is_sound s t numbers p is =
    subst⁻¹ Sound is.whole
    (record {
      count = omega arith;
      waiting_count = omega arith;
      content_sound = opened_sound s t numbers;
      queue_sound = empty_has_none.sound;
      files = λ e. (
        λ m. absurd (not-mem-nil (subst (λ (es : List Entry). Mem e es) empty_has_none.content m)),
        λ some. ∥∥₁_elim some Mem-prop (λ w. absurd (not-mem-nil w.1)),
      );
    })

-- Annex 3.12: the closed planner is not sound, since its B is 0
pub closed_is_not_sound : (p : Planner) → IsFresh zeros 0 p → Sound p → ⊥
closed_is_not_sound p fresh sound =
    lt_irrefl 0 (subst (λ (h : Content). 1 ≤ slots_of h) fresh.holds sound.content_sound.in_range.setting.slots.0)

-- open answers 0 exactly if the numbers are in range
pub open_exact : {s : Setting} {t : ℕ} → (answer_of (open_refusals s t) ≡ 0) ↔ NumbersInRange s t
unfolding AllNumbered AllPass
open_exact {s} {t} = (
  λ zero.
      let pass = zero_all_pass (open_refusals s t) (omega arith, (omega arith, (omega arith, (omega arith, tt)))) zero in
      let has_slots = (Dec-not_not (decide_has_slots s)).0 pass.0 in
      record {
        setting =
            record {
              flag = has_slots.0;
              slots = has_slots.1;
              frame = in_limit longest_frame s.frame pass.1.0;
              gap = in_limit longest_gap s.gap pass.1.1.0;
            };
        last = not_late t pass.1.1.1.0;
      },
  λ numbers.
      let set = numbers.setting in
      let in_time : last_start < t → ⊥ = λ late. lt_irrefl last_start (lt_of_lt_of_le late numbers.last) in
      sym (first_is_answer (later (λ bad. bad (set.flag, set.slots)) (later (λ bad. bad set.frame) (later (λ bad. bad set.gap) (later in_time none))))),
)
  where
    not_late : (n : ℕ) → (last_start < n → ⊥) → n ≤ last_start
    not_late n early = omega arith

-- Annex 7.6: of a setting that open makes, the flag is never what is refused: 1 is given exactly unless B is 1 to 64, and above 1 with messages on
pub one_exactly : (slots frame gap messages : ℕ) → HasSlots (setting slots frame gap messages) ↔ (OneTo most_slots slots × (1 ≤ messages → 1 < slots))
one_exactly slots frame gap messages = (
  λ has. ((omega (arith, has), has.1.1), λ on. omega (arith, has, on)),
  λ is. (omega arith, (above (dec_le 1 messages) is, is.0.1)),
)
  where
    above : Dec (1 ≤ messages) → OneTo most_slots slots × (1 ≤ messages → 1 < slots) → 1 ≤ slots - flag_of messages
    above (yes on) is = omega (arith, on, is.1 on)
    above (no off) is = omega (arith, off, is.0)

-- Annex 7.9: the planner that a successful open hands back is sound
pub open_success_is_sound : (s : Setting) (t : ℕ) (r : Changed) → IsOpened s t r → r.answer ≡ 0 → Sound r.planner
open_success_is_sound s t r is zero = let none = sym is.answer ∙ zero in fresh_is_sound s t (open_exact.0 none) r.planner (is.opened none)
