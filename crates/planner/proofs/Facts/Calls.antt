-- What follows from a call's contract in terms of its answer: a refused call changes nothing, and a sound planner stays sound.
use Rattle.std.specs.Prelude.{◌≡◌, ◌↔◌, ℕ, ◌≤◌, ◌<◌, length}
use Rattle.std.proofs.Math.Path.{refl, sym, subst⁻¹}
use Rattle.std.proofs.Common.{subst, ◌∙◌}
use Rattle.std.proofs.Math.Logic.Dec.{not-not as Dec-not_not}
use mathlib.Core.List.{List, [], ◌∷◌}
use Rattle.std.proofs.Math.Decide.{ℕ_discrete}
use native.Mathlib.Omega.{arith}
use Rattle.std.proofs.Math.Seq.{take-nil}
use Rattle.basics.specs.Refusals.{Refusal, answer_of, FirstOf}
use Rattle.basics.specs.Facts.Refusals.{answer_is_first, answer_first, answer_later, answer_zero, answer_other, AllPass, answer_after}
use Rattle.basics.specs.Limits.{last_start}
use Rattle.rules.specs.Streams.{Stream}
use Rattle.rules.specs.Demand.{future}
use Rattle.rules.specs.Slots.{riders, in_order, slots}
use Rattle.rules.proofs.Facts.LazyStart.{lazy_unique}
use Rattle.table.specs.Facts.Streams.{none_seen}
use Rattle.table.specs.Facts.Start.{nothing_due}
use Rattle.state.specs.Content.{Content, content, now_of, cap_of, slots_of, streams_in}
use Rattle.state.specs.Sound.{ContentSound, Sound}
use Rattle.state.proofs.Decide.{decide_sound, decide_late}
use Rattle.planner.specs.AddRemove.{unsound, IsSoundWith, IsChange}
use Rattle.planner.specs.Round.{short_buffer, late_start, round_refusals, ids_at, IsRefusedRound, IsHeldRound, IsRound}
use Rattle.state.specs.Start.{IsStart, StartsLate}
use Rattle.state.specs.declared.Planner.{Planner}
use Rattle.state.specs.declared.Changed.{Changed}
use Rattle.planner.specs.declared.Rounded.{Rounded}

-- an answer given by the refusals is the first number that applies
pub answers_first : {refusals : List Refusal} {n : ℕ} → n ≡ answer_of refusals → FirstOf refusals n
answers_first {refusals} answer = subst⁻¹ (FirstOf refusals) answer (answer_is_first refusals)

-- a planner is sound after a call that hands a sound one back if refused, and a sound one if not
sound_either_way : (n : ℕ) (p q : Planner) → ((n ≡ 0 → ⊥) → q ≡ p) → (n ≡ 0 → Sound q) → Sound p → Sound q
sound_either_way n p q refused succeeded sound = go (ℕ_discrete n 0)
  where
    go : Dec (n ≡ 0) → Sound q
    go (yes zero) = succeeded zero
    go (no other) = subst⁻¹ Sound (refused other) sound

module _ {refusals : List Refusal} {p : Planner} {h : Content} {r : Changed} (is : IsChange refusals p h r) where
  -- a change whose answer is not 0 hands back the planner just as it was ..
  pub refused_change : (r.answer ≡ 0 → ⊥) → r.planner ≡ p
  refused_change nonzero = is.refused (λ zero. nonzero (is.answer ∙ zero))

  -- .. and one whose answer is 0 a sound planner that holds h
  pub success_change : r.answer ≡ 0 → IsSoundWith h r.planner
  success_change zero = is.changed (sym is.answer ∙ zero)

  -- so a change leaves a sound planner sound, refused or not
  pub change_keeps_sound : Sound p → Sound r.planner
  change_keeps_sound = sound_either_way r.answer p r.planner refused_change (λ zero. (success_change zero).sound)

module _ {p : Planner} {before after : List ℕ} {r : Rounded} (is : IsRound p before after r) where
  -- a round whose answer is not 0 gives start 0 and n 0, and leaves planner and buffer as they were ..
  pub refused_round : (r.answer ≡ 0 → ⊥) → IsRefusedRound p before after r
  refused_round nonzero = is.refused (λ zero. nonzero (is.answer ∙ zero))

  -- .. and one whose answer is 0 is held: at the lazy start, with the ids of its slots in the buffer
  pub success_round : r.answer ≡ 0 → IsHeldRound p before after r
  success_round zero = is.held (sym is.answer ∙ zero)

  -- so a round leaves a sound planner sound, refused or held
  pub round_keeps_sound : Sound p → Sound r.planner
  round_keeps_sound = sound_either_way r.answer p r.planner (λ nonzero. (refused_round nonzero).planner) (λ zero. (success_round zero).planner.sound)

-- the start of a sound planner tells whether it starts late
pub starts_late_iff : (p : Planner) → Sound p → (s : ℕ) → IsStart (content p) s → StartsLate p ↔ (last_start < s)
starts_late_iff p sound s start = (
  λ late. late sound s start,
  λ late _ x other.
      let h = content p in
      subst (λ (y : ℕ). last_start < y) (lazy_unique (slots_of h) (cap_of h) (streams_in h) s x start other) late,
)

module _ (p : Planner) (buffer : List ℕ) where
  -- an answer other than 5 and 16 is that of the last refusal
  by_last_refusal : (n : ℕ) → (5 ≡ n → ⊥) → (16 ≡ n → ⊥) → answer_of (round_refusals p buffer) ≡ n → answer_of (late_start p ∷ []) ≡ n
  by_last_refusal n not_5 not_16 given =
      let sound = answer_other n (unsound p) (short_buffer (content p) buffer ∷ late_start p ∷ []) not_5 given in
      (answer_other n (short_buffer (content p) buffer) (late_start p ∷ []) not_16 sound.1).1

  -- a round that is held is held by a sound planner ..
  pub held_is_sound : answer_of (round_refusals p buffer) ≡ 0 → Sound p
  held_is_sound none =
      (Dec-not_not (decide_sound p)).0
      (answer_zero (unsound p) (short_buffer (content p) buffer ∷ late_start p ∷ []) (λ e. omega (arith, e)) none).0

  -- .. that does not start late
  pub held_is_not_late : answer_of (round_refusals p buffer) ≡ 0 → StartsLate p → ⊥
  held_is_not_late none = (answer_zero (late_start p) [] (λ e. omega (arith, e)) (by_last_refusal 0 (λ e. omega (arith, e)) (λ e. omega (arith, e)) none)).0

  -- a planner whose round answers 17 starts late: its lazy start is after 1,000,000,000
  pub seventeen_is_late : answer_of (round_refusals p buffer) ≡ 17 → StartsLate p
  unfolding answer_of
  seventeen_is_late given = go (decide_late p (decide_sound p))
    where
      go : Dec (StartsLate p) → StartsLate p
      go (yes late) = late
      go (no early) =
          let asked_last = by_last_refusal 17 (λ e. omega (arith, e)) (λ e. omega (arith, e)) given in
          let last : answer_of [] ≡ 17 = sym (answer_later (late_start p) [] early) ∙ asked_last in
          absurd (omega (arith, last))

  module _ (sound : Sound p) (long : (content p).setting.slots ≤ length buffer) (s : ℕ) (start : IsStart (content p) s) where
    -- on a sound planner with a long enough buffer only 17 is left to be asked
    only_17_left : answer_of (round_refusals p buffer) ≡ answer_of (late_start p ∷ [])
    unfolding AllPass
    only_17_left =
        answer_after (unsound p ∷ short_buffer (content p) buffer ∷ []) (late_start p ∷ [])
        (λ fails. fails sound, (λ short. omega arith, tt))

    -- so a round is refused with 17 exactly if the start is after the last one ..
    pub seventeen_exactly : (answer_of (round_refusals p buffer) ≡ 17) ↔ (last_start < s)
    seventeen_exactly = (
      λ given. (starts_late_iff p sound s start).0 (seventeen_is_late given),
      λ late. only_17_left ∙ answer_first (late_start p) [] ((starts_late_iff p sound s start).1 late),
    )

    -- .. and held exactly if not
    pub held_exactly : (answer_of (round_refusals p buffer) ≡ 0) ↔ (s ≤ last_start)
    unfolding answer_of
    held_exactly = (
      λ none. in_time (λ late. held_is_not_late none ((starts_late_iff p sound s start).1 late)),
      λ early. only_17_left ∙ answer_later (late_start p) [] (λ late. let after_the_last = (starts_late_iff p sound s start).0 late in omega arith),
    )
      where
        in_time : (last_start < s → ⊥) → s ≤ last_start
        in_time not_late = omega arith

module _ (h : Content) (empty : h.table ≡ []) where
  -- Annex 4.14: with no stream the lazy rule is left with the cap ..
  pub empty_start : ContentSound h → IsStart h (cap_of h)
  unfolding future
  empty_start sound =
      let gap = sound.in_range.setting.gap.0 in
      (nothing_due (slots_of h) (now_of h) (cap_of h) (streams_in h) (omega arith) (omega arith) (λ t. rw (empty, none_seen) refl)).lazy

  -- .. and the slots with nothing
  pub empty_slots : (s : ℕ) → ids_at h s ≡ []
  unfolding slots in_order riders
  empty_slots s = rw (empty, none_seen, take-nil {A = Stream} (slots_of h)) refl
