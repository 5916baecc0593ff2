-- The planner's own lazy rounds, held for ever, are a rival: fewest rounds speaks of some plan.
use Rattle.std.specs.Prelude.{ℕ}
use Rattle.std.proofs.Common.{arith}
use Rattle.rules.specs.Plans.{Round}
use Rattle.rules.specs.Runs.{State, IsLazyRun, run_plan}
use Rattle.rules.specs.Ready.{IsReadyState}
use Rattle.rules.proofs.Facts.LazyRun.{lazy_starts, lazy_run_exists}
use Rattle.rules.proofs.Facts.LazyServes.{lazy_is_plan, lazy_serves, lazy_keeps_gap}
use Rattle.state.specs.Content.{Content, content, now_of, cap_of, slots_of, frame_of, start_gap_of, streams_in}
use Rattle.state.specs.Sound.{ContentSound, Sound}
use Rattle.state.proofs.Facts.Sound.{content_ready, frame_is_busy}
use Rattle.state.specs.declared.Planner.{Planner}
use Rattle.demands.specs.Rivals.{IsRivalOf}

-- What the rules start from, of what a planner holds: now, the cap, and its streams.
abbrev pub state_of : Content → State
state_of h = record { now = now_of h; cap = cap_of h; table = streams_in h }

-- The starts of the lazy rounds of what a planner holds, for ever; they are found up to its superframe ..
abbrev pub own_starts : Content → ℕ → ℕ
own_starts h = lazy_starts (slots_of h) (start_gap_of h) (frame_of h) (state_of h)

-- .. and those rounds as a plan.
abbrev pub own_rounds : Content → ℕ → Round
own_rounds h = run_plan (slots_of h) (start_gap_of h) (state_of h) (own_starts h)

module _ (h : Content) (sound : ContentSound h) where
  ready : IsReadyState (slots_of h) (state_of h)
  ready = record { ready = content_ready h sound; open_cap = omega arith }

  -- its own rounds are lazy
  pub own_lazy : IsLazyRun (slots_of h) (start_gap_of h) (state_of h) (own_starts h)
  own_lazy =
      lazy_run_exists (slots_of h) (start_gap_of h) (frame_of h) sound.in_range.setting.slots.0 (omega arith) (state_of h) ready (frame_is_busy h sound)

  -- a sound planner's own rounds are a rival ..
  pub own_is_rival : IsRivalOf h (own_rounds h)
  own_is_rival =
      let positive = sound.in_range.setting.slots.0 in
      record {
        is_plan = lazy_is_plan (slots_of h) (start_gap_of h) positive (omega arith) (state_of h) ready (own_starts h) own_lazy;
        serves = lazy_serves (slots_of h) (start_gap_of h) positive (omega arith) (state_of h) ready (own_starts h) own_lazy;
        keeps_gap = lazy_keeps_gap (slots_of h) (start_gap_of h) positive (omega arith) (state_of h) ready (own_starts h) own_lazy;
      }

-- Annex 12.22: .. so that every sound planner has one
pub has_rival : (p : Planner) → Sound p → (plan : ℕ → Round) × IsRivalOf (content p) plan
has_rival p sound = (own_rounds (content p), own_is_rival (content p) sound.content_sound)
