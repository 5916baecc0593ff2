-- The planner's own held rounds, as packets laid end to end, are a sound plan.
use Rattle.std.specs.Prelude.{◌≡◌, refl, ℕ, ◌+◌, ◌≤◌, ◌<◌, length}
use Rattle.std.proofs.Common.{sym, ap, subst, ◌∙◌, arith}
use Rattle.std.proofs.Math.Path.{subst⁻¹}
use Rattle.std.proofs.Math.Logic.{ite, ∥∥₁_elim, ∥∥₁_prop}
use mathlib.Core.List.{List, [], ◌∷◌, ◌++◌, Mem, Nodup, map, map_congr_left, mem-map, mem-map_of_mem, dec_mem}
use Rattle.std.proofs.Math.Decide.{ℕ_discrete}
use Rattle.std.proofs.lemmas.List.{length-map}
use Rattle.basics.specs.Counts.{times_in}
use Rattle.rules.specs.Streams.{Stream, packet, MayRide}
use Rattle.rules.specs.Slots.{slots}
use Rattle.rules.proofs.Facts.Slots.{IsChoice, choice_differ}
use Rattle.rules.proofs.Facts.RoundKept.{served_iff}
use Rattle.table.specs.Table.{stream_of, due_of, with_release}
use Rattle.table.specs.Changes
use Rattle.table.specs.Range.{AreNear}
use Rattle.table.specs.Facts.Streams.{seen, numbers}
use Rattle.table.specs.declared.Record.{Record}
use Rattle.messages.specs.Numbers.{stream_ids}
use Rattle.packet_bytes.specs.Layout.{Values}
use Rattle.state.specs.Content.{Content, content, now_of, slots_of, streams_in, with_table, with_last, with_waiting}
use Rattle.state.specs.Sound.{Sound}
use Rattle.state.proofs.Facts.Sound.{content_ready}
use Rattle.planner.proofs.Facts.Kept.{start_from_now}
use Rattle.planner.proofs.Facts.Listed.{is_choice}
use Rattle.planner.proofs.Facts.Calls.{refused_change, success_change, refused_round, success_round}
use Rattle.planner.specs.Round.{ids_at, sent_in, IsRound, IsHeldRound}
use Rattle.state.specs.declared.Planner.{Planner}
use Rattle.planner.specs.declared.Rounded.{Rounded}
use Rattle.checker.specs.Plans.{sent_for, after_foreign, of_packet, of_start, of_room, of_slots, of_rest, MaySend, Passes}
use Rattle.checker.specs.Plans.{Passed, laid_out, IsSoundPlan}
use Rattle.checker.specs.Plans
use Rattle.checker.proofs.Facts.Passing.{passed_more}
use Rattle.demands.specs.CallLists.{HeldRound, Calls, none, asked, sent, refused, held}
use Rattle.demands.specs.Packets.{round_values}
use Rattle.demands.specs.Foreign.{packets_of}
use Rattle.demands.proofs.Facts.CallLists.{stands_once, stands_never}
use Rattle.demands.proofs.Facts.Held.{calls_follow}
use Rattle.demands.proofs.Facts.Packets.{held_round_is_good}
use Rattle.demands.proofs.Facts.Written.{ids_written}

-- of ids none of which stands twice, the checker's step and the planner's are the same
sent_alike : (ids : List ℕ) → Nodup ids → (r : Record) → sent_for ids r ≡ sent_in ids r
sent_alike ids differ r = go (dec_mem ℕ_discrete r.id ids)
  where
    go : (d : Dec (Mem r.id ids)) → sent_for ids r ≡ ite d (Changes.sent r) r
    go (yes there) = ap (with_release r) (rw (stands_once r.id ids differ there) (omega arith))
    go (no absent) = ap (with_release r) (rw (stands_never r.id ids differ absent) (omega arith))

-- a held round of a sound planner, whatever waits
module _ (q : Planner) (sound : Sound q) (before after : List ℕ) (r : Rounded) (is : IsRound q before after r) (zero : r.answer ≡ 0) where
  abbrev h : Content
  h = content q

  abbrev v : Values
  v = round_values q after r

  it : IsHeldRound q before after r
  it = success_round is zero

  same_ids : stream_ids v.ids ≡ ids_at h r.start
  same_ids = ids_written q sound before after r it

  abbrev chosen : List Stream
  chosen = slots (slots_of h) r.start (streams_in h)

  choice : IsChoice (slots_of h) r.start (streams_in h) chosen
  choice = is_choice h sound.content_sound r.start it.start

  differ : Nodup (ids_at h r.start)
  differ = choice_differ (slots_of h) r.start (streams_in h) chosen (content_ready h sound.content_sound).table choice

  -- it sends what the planner sends ..
  same_sent : (x : Record) → sent_for (stream_ids v.ids) x ≡ sent_in (ids_at h r.start) x
  same_sent x = ap (λ (ids : List ℕ). sent_for ids x) same_ids ∙ sent_alike (ids_at h r.start) differ x

  -- .. so it leaves what the planner then holds, but for the messages
  own_leaves : (waiting : List ℕ) → after_foreign (with_waiting h waiting) v ≡ with_waiting (content r.planner) waiting
  own_leaves waiting =
      ap (with_table (with_last (with_waiting h waiting) r.start)) (map_congr_left {l = h.table} (λ x m. same_sent x))
      ∙ ap (λ (c : Content). with_waiting c waiting) (sym it.planner.holds)

  own_held : (id : ℕ) → Mem id (ids_at h r.start) → Changes.HasId id h.table
  own_held id m =
      subst (Mem id) (numbers h.table)
      (∥∥₁_elim (mem-map.0 m) ∥∥₁_prop
      (λ w. subst (λ (n : ℕ). Mem n (map (λ (x : Stream). x.number) (streams_in h))) w.2
      (mem-map_of_mem (λ (x : Stream). x.number) (choice.inside w.0 w.1))))

  own_ride : (x : Record) → Mem x h.table → (m : ℕ) → m < times_in x.id (ids_at h r.start) → MayRide (packet (stream_of x) m) r.start
  own_ride x there m low = go (dec_mem ℕ_discrete x.id (ids_at h r.start))
    where
      go : Dec (Mem x.id (ids_at h r.start)) → MayRide (packet (stream_of x) m) r.start
      go (no absent) = absurd (omega (arith, low, stands_never x.id (ids_at h r.start) differ absent))
      go (yes here) =
          let slot : Mem (stream_of x) chosen =
          (served_iff (streams_in h) chosen (content_ready h sound.content_sound).table choice.inside (stream_of x) (seen there)).0 here in
          let only : 0 ≡ m = omega (arith, low, stands_once x.id (ids_at h r.start) differ here) in
          subst (λ (k : ℕ). MayRide (packet (stream_of x) k) r.start) only (choice.ride (stream_of x) slot)

  -- it breaks no rule
  own_passes : (waiting : List ℕ) → Passes (with_waiting h waiting) v
  own_passes waiting of_packet = ((held_round_is_good q sound before after r is zero).good, refl)
  own_passes waiting of_start = (omega (arith, start_from_now h sound.content_sound r.start it.start), it.start.by_cap)
  own_passes waiting of_room =
      subst⁻¹ (λ (ids : List ℕ). length ids ≤ slots_of h) same_ids (omega (arith, choice.few, length-map chosen (λ (x : Stream). x.number)))
  own_passes waiting of_slots =
      subst⁻¹ (λ (ids : List ℕ). MaySend h.table ids r.start) same_ids (record { held = own_held; ride = own_ride })
  own_passes waiting of_rest = λ x m.
      let near = subst (λ (c : Content). AreNear (now_of c) c.table) it.planner.holds it.planner.sound.content_sound.near in
      subst⁻¹ (λ (y : Record). r.start + 1 < due_of y) (same_sent x)
      (near.due_after (sent_in (ids_at h r.start) x) (mem-map_of_mem (sent_in (ids_at h r.start)) m))

-- what the planner has come to, with the messages that waited at first: the checker leaves them
abbrev Reaches : Planner → List Values → Planner → Type 0
Reaches p packets q = Passed (content p) packets (with_waiting (content q) (content p).waiting)

-- the held rounds pass one after the other, and lead to what the planner then holds, but for the messages
pub own_rounds_passed : (p : Planner) → Sound p → {rounds : List HeldRound} {q : Planner} → (calls : Calls p rounds q)
    → Passed (content p) (packets_of calls) (with_waiting (content q) (content p).waiting)
unfolding packets_of
own_rounds_passed p sound none = Plans.none
own_rounds_passed p sound (asked calls call r is nonzero) =
    subst⁻¹ (Reaches p (packets_of calls)) (refused_change is nonzero) (own_rounds_passed p sound calls)
own_rounds_passed p sound (sent {q = q} calls n r is) = go (own_rounds_passed p sound calls) (ℕ_discrete r.answer 0)
  where
    go : Reaches p (packets_of calls) q → Dec (r.answer ≡ 0) → Reaches p (packets_of calls) r.planner
    go so_far (no nonzero) = subst⁻¹ (Reaches p (packets_of calls)) (refused_change is nonzero) so_far
    go so_far (yes zero) =
        subst⁻¹ (λ (c : Content). Passed (content p) (packets_of calls) (with_waiting c (content p).waiting)) (success_change is zero).holds so_far
own_rounds_passed p sound (refused calls before after r is nonzero) =
    subst⁻¹ (Reaches p (packets_of calls)) (refused_round is nonzero).planner (own_rounds_passed p sound calls)
own_rounds_passed p sound (held {q = q} calls before after r is zero) =
    let sound_then = (calls_follow p sound calls).0 in
    let waiting = (content p).waiting in
    subst (Passed (content p) (packets_of calls ++ (round_values q after r ∷ []))) (own_leaves q sound_then before after r is zero waiting)
    (passed_more (own_rounds_passed p sound calls) (round_values q after r) (own_passes q sound_then before after r is zero waiting))

-- Annex 12.32: the planner's own held rounds, as packets laid end to end, are a sound plan
pub own_rounds_pass : (p : Planner) → Sound p → {rounds : List HeldRound} {q : Planner} → (calls : Calls p rounds q)
    → IsSoundPlan (content p) (laid_out (packets_of calls))
own_rounds_pass p sound {q = q} calls =
    record {
      rounds = packets_of calls;
      are = refl;
      left = with_waiting (content q) (content p).waiting;
      passed = own_rounds_passed p sound calls;
    }
