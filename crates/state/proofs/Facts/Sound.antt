-- What follows from soundness in the rules' words: the table is ready, and it has a start.
use Rattle.std.specs.Prelude.{ℕ, ◌<◌}
use Rattle.std.specs.Int.{◌∣◌}
use Rattle.std.proofs.Math.Nat.{∣_prop}
use Rattle.std.proofs.Math.Bridge.{le_prop}
use Rattle.rules.specs.Streams.{Stream, due, WellFormed, IsTable}
use Rattle.rules.specs.Demand.{DueAfter, IsLazyStart}
use Rattle.rules.proofs.Facts.Sums.{well_formed_prop, start_rule_fits}
use Rattle.rules.specs.Ready.{AllWellFormed, Fits, IsBusy, IsReady}
use Rattle.rules.proofs.Facts.Busy.{frame_busy_under_rule}
use Rattle.rules.proofs.Facts.LazyStart.{lazy_exists}
use Rattle.table.specs.Needs.{CanSearch}
use Rattle.table.specs.Facts.Streams.{all_streams}
use Rattle.state.specs.Content.{Content, content, slots_of, streams_in, now_of, cap_of}
use Rattle.state.specs.Sound.{ContentSound, Sound}
use Rattle.state.proofs.Facts.Table.{ascending_is_table}
use Rattle.state.specs.declared.Planner.{Planner}

module _ (h : Content) (sound : ContentSound h) where
  -- every stream of a sound planner is well formed ..
  pub all_formed : AllWellFormed (streams_in h)
  all_formed = all_streams WellFormed well_formed_prop h.table (λ r m. (sound.in_range.records.each r m).deadline)

  -- .. and its unserved packet is due after now
  pub due_after_now : DueAfter (now_of h) (streams_in h)
  due_after_now = all_streams (λ (s : Stream). now_of h < due s) (λ s. le_prop) h.table sound.near.due_after

  -- everything fits at now: h(t) is at most B × (t - now) for every t, the difference cut off at 0
  pub fits_now : Fits (slots_of h) (now_of h) (streams_in h)
  fits_now = start_rule_fits (slots_of h) (now_of h) (streams_in h) all_formed sound.start_rule due_after_now

  -- the streams of a sound planner are a table: well formed, and no number twice
  pub content_table : IsTable (streams_in h)
  content_table = ascending_is_table h.table all_formed sound.in_range.records.ascending

  -- the table is ready for a round
  pub content_ready : IsReady (slots_of h) (now_of h) (streams_in h)
  content_ready = record { table = content_table; demand_rule = sound.demand_rule; start_rule = sound.start_rule; due_after = due_after_now }

  -- Annex 4.12: the frame is a busy length
  pub frame_is_busy : IsBusy (slots_of h) (streams_in h) h.setting.frame
  frame_is_busy =
      frame_busy_under_rule h.setting.frame sound.in_range.setting.frame.0 (slots_of h) (streams_in h) all_formed
      (all_streams (λ (s : Stream). s.period ∣ h.setting.frame) (λ s. ∣_prop s.period h.setting.frame) h.table
      (λ r m. (sound.in_range.records.each r m).divides))
      sound.demand_rule

  -- what a sound planner holds has a start
  content_start : (s : ℕ) × IsLazyStart (slots_of h) (cap_of h) (streams_in h) s
  content_start =
      lazy_exists (slots_of h) (cap_of h) h.setting.frame (now_of h) (streams_in h) sound.in_range.setting.slots.0 all_formed frame_is_busy fits_now

-- Annex 4.8: a sound planner has a lazy start
pub sound_start : (p : Planner) → Sound p → (s : ℕ) × IsLazyStart (slots_of (content p)) (cap_of (content p)) (streams_in (content p)) s
sound_start p sound = content_start (content p) sound.content_sound

-- the ids of a sound planner's table can be searched by halving
pub can_search : {p : Planner} → Sound p → CanSearch p.table
can_search sound =
    let records = sound.content_sound.in_range.records in
    record { count = sound.count; ascending = records.ascending; small = λ r m. (records.each r m).id.1 }
