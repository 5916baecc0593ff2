-- Demand 3 is met.
use Rattle.std.specs.Prelude.{◌≡◌, List, [], ℕ, ◌≤◌, ◌<◌, length}
use Rattle.std.proofs.Math.Path.{subst⁻¹}
use Rattle.std.proofs.Common.{arith}
use Rattle.rules.specs.Streams.{packet}
use Rattle.rules.specs.Plans.{Round, IsPlan}
use Rattle.rules.proofs.Facts.LazyStart.{lazy_fits}
use Rattle.state.specs.Content.{content, now_of, cap_of, slots_of, streams_in}
use Rattle.state.specs.Sound.{Sound}
use Rattle.state.proofs.Facts.Sound.{fits_now, sound_start}
use Rattle.state.specs.declared.Planner.{Planner}
use Rattle.demands.specs.CallLists.{HeldRound, Calls, start_of}
use Rattle.demands.specs.Rivals.{KeepsGapOf}
use Rattle.demands.proofs.Facts.ForcedRounds.{rival_without_streams}
use Rattle.demands.proofs.Facts.Held.{quiet, quiet_sound, calls_follow, clock_stays}
use Rattle.demands.proofs.Facts.Kept.{sent_unless_later, now_is_end, rival_never_later}
use Rattle.demands.specs.Three.{Demand3}

-- Annex 12.10, 12.11, 12.12, 12.13: the contracts of add, remove, send and round meet demand 3.
pub demand_3 : Demand3
demand_3 p sound rounds q calls =
    let (sound_after, follows) = calls_follow p sound calls in
    let sent = sent_unless_later (quiet (content p)) rounds (quiet (content q)) follows (quiet_sound sound_after.content_sound) in
    record {
      by_the_end = λ s there m early.
          sent (now_of (content q)) (fits_now (content q) sound_after.content_sound) s there m
          (subst⁻¹ (λ (x : ℕ). (packet s m).due ≤ x) (now_is_end (quiet (content p)) rounds (quiet (content q)) follows) early);
      by_the_clock = λ ended s there m early.
          let (start, lazy) = sound_start q sound_after in
          let late = clock_stays calls ended sound_after start lazy in
          let positive = sound_after.content_sound.in_range.setting.slots.0 in
          let left = content q in
          sent start (lazy_fits (slots_of left) (cap_of left) (streams_in left) positive start lazy) s there m (omega (arith, early, late));
      fewest = rival_never_later (quiet (content p)) rounds (quiet (content q)) follows (quiet_sound sound.content_sound);
      none_wasted = follows.in_time;
      of_streams = follows.of_streams;
    }

-- Annex 12.14: with no stream every plan from now that keeps the gap limit is a rival, so none of them holds its k-th round later.
pub fewest_without_streams : (p : Planner) → Sound p → (content p).table ≡ [] → (rounds : List HeldRound) (q : Planner) → Calls p rounds q → (plan : ℕ → Round)
    → IsPlan (slots_of (content p)) (now_of (content p)) plan → KeepsGapOf (content p) plan → (k : ℕ) → k < length rounds → (plan k).start ≤ start_of rounds k
fewest_without_streams p sound empty rounds q calls plan is_plan keeps_gap =
    (demand_3 p sound rounds q calls).fewest plan (rival_without_streams (content p) empty plan is_plan keeps_gap)
