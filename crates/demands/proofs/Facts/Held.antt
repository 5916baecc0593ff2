-- What a list of calls comes to: lazy rounds one after the other, after which the planner holds what the ids in the buffers say.
use Rattle.std.specs.Prelude.{◌≡◌, refl, ℕ, ◌+◌, ◌*◌, ◌≤◌, ◌<◌}
use Rattle.std.proofs.Common.{sym, ap, subst, ◌∙◌, ⊎_elim, arith}
use Rattle.std.proofs.Math.Path.{subst⁻¹}
use Rattle.std.proofs.Math.Logic.Or
use Rattle.std.proofs.Math.Logic.{∥∥₁_map, ∥∥₁_elim}
use mathlib.Core.List.{List, [], ◌∷◌, ◌++◌, append_assoc, map, map-id, map-map, map-append, map_congr_left}
use mathlib.Core.List.{Mem, Mem-prop, Nodup, mem-map, mem-map_of_mem, mem-append, eq-or-mem_of_mem-cons, not-mem-nil}
use Rattle.std.proofs.Math.Decide.{dec_lt, ℕ_discrete}
use Rattle.rules.specs.Streams.{Stream, Packet, packet, MayRide}
use Rattle.rules.specs.Slots.{slots, served, Served}
use Rattle.rules.specs.Plans.{Round}
use Rattle.rules.specs.Runs.{Held, none, then, round_at, after}
use Rattle.rules.proofs.Facts.Slots.{IsChoice, choice_differ}
use Rattle.rules.proofs.Facts.RoundKept.{round_choice, served_iff}
use Rattle.rules.proofs.Facts.Packets.{advanced, advanced_none, packet_advanced}
use Rattle.table.specs.Table.{stream_of, with_release}
use Rattle.table.specs.Facts.Streams.{seen_changed, numbers}
use Rattle.table.specs.Changes.{HasId}
use Rattle.table.specs.declared.Record.{Record}
use Rattle.state.specs.Content.{Content, content, slots_of, streams_in, now_of, cap_of, start_gap_of, with_table, with_last, with_waiting}
use Rattle.state.specs.Sound.{ContentSound, Sound}
use Rattle.state.proofs.Facts.Sound.{content_ready}
use Rattle.planner.proofs.Facts.Kept.{sent_at, seen_sent_at, rounded_streams, sent_at_release}
use Rattle.planner.specs.Round.{ids_at, rounded, IsHeldRound}
use Rattle.state.specs.Start.{IsStart, StartsLate}
use Rattle.planner.proofs.Facts.Mail.{waits_sound, sent_is_sound}
use Rattle.planner.proofs.Facts.Calls.{refused_change, success_change, refused_round, success_round, held_is_not_late, seventeen_is_late}
use Rattle.state.specs.declared.Planner.{Planner}
use Rattle.planner.specs.declared.Rounded.{Rounded}
use Rattle.demands.specs.CallLists.{Calls, none, asked, sent, refused, held, ClockEnded}
use Rattle.basics.specs.Counts.{times_in}
use Rattle.demands.specs.CallLists.{HeldRound, held_round, times_sent, IsSentInTime}
use Rattle.demands.proofs.Facts.CallLists.{stands_once, stands_never, times_sent_snoc, passes_as_sent, last_of, last_snoc}
use Rattle.demands.proofs.Facts.EndlessRounds.{state_of}
use Rattle.demands.proofs.Facts.Written.{ids_written}

-- a stream with the packets sent that the rounds say
abbrev pub sent_in : List HeldRound → Stream → Stream
sent_in rounds s = advanced (times_sent s.number rounds) s

-- the same of a record
abbrev pub record_sent : List HeldRound → Record → Record
record_sent rounds r = with_release r (r.release + times_sent r.id rounds * r.period)

-- what a planner that held h holds after these rounds
abbrev pub after_rounds : Content → List HeldRound → Content
after_rounds h rounds = with_table (with_last h (last_of h.last rounds)) (map (record_sent rounds) h.table)

-- and what the rules see of it
pub seen_after : (h : Content) (rounds : List HeldRound) → streams_in (after_rounds h rounds) ≡ map (sent_in rounds) (streams_in h)
seen_after h rounds = seen_changed (record_sent rounds) (sent_in rounds) h.table (λ r. refl)

-- the round at s of the lazy rule's slots
abbrev pub slots_round : Content → ℕ → HeldRound
slots_round h s = record { start = s; ids = ids_at h s }

-- c is what h has become by these rounds, each of them lazy; whatever they sent was in time, and every id in them is that of a record of h
pub record Follows (h : Content) (rounds : List HeldRound) (c : Content) : Type 0 where
  pub holds : c ≡ after_rounds h rounds
  pub played : List Round
  pub lazy : Held (slots_of h) (start_gap_of h) (state_of h) played (state_of c)
  pub starts : map (λ (r : Round). r.start) played ≡ map (λ (r : HeldRound). r.start) rounds
  pub in_time : (s : Stream) → Mem s (streams_in h) → (m : ℕ) → m < times_sent s.number rounds → IsSentInTime rounds s m
  pub of_streams : (r : HeldRound) → Mem r rounds → (id : ℕ) → Mem id r.ids → HasId id h.table

-- before the first round
no_rounds : (h : Content) → Follows h [] h
unfolding last_of times_sent
no_rounds h =
    record {
      holds =
          let table : map (record_sent []) h.table ≡ h.table =
          map_congr_left {l = h.table} (λ r m. ap (with_release r) (ap (λ (x : Stream). x.release) (advanced_none (stream_of r)))) ∙ map-id h.table in
          ap (with_table h) (sym table);
      played = [];
      lazy = none;
      starts = refl;
      in_time = λ s m k below. absurd (omega arith);
      of_streams = λ r there. absurd (not-mem-nil there);
    }

module _ (h : Content) (rounds : List HeldRound) (sound : ContentSound (after_rounds h rounds)) (s : ℕ) (start : IsStart (after_rounds h rounds) s) where
  abbrev so_far : Content
  so_far = after_rounds h rounds

  abbrev chosen : List Stream
  chosen = slots (slots_of h) s (streams_in so_far)

  is_choice : IsChoice (slots_of h) s (streams_in so_far) chosen
  is_choice =
      round_choice (slots_of h) (now_of so_far) (streams_in so_far) (content_ready so_far sound) sound.in_range.setting.slots.0 (cap_of so_far)
      s s start (omega arith)

  ids_differ : Nodup (ids_at so_far s)
  ids_differ = choice_differ (slots_of h) s (streams_in so_far) chosen (content_ready so_far sound).table is_choice

  -- a round leaves what the rounds with it leave
  one_more_holds : rounded so_far s ≡ after_rounds h (rounds ++ (slots_round so_far s ∷ []))
  one_more_holds =
      let last : s ≡ last_of h.last (rounds ++ (slots_round so_far s ∷ [])) = sym (last_snoc h.last rounds (slots_round so_far s)) in
      let table : (rounded so_far s).table ≡ map (record_sent (rounds ++ (slots_round so_far s ∷ []))) h.table =
      map-map (sent_at so_far s) (record_sent rounds) h.table ∙ map_congr_left {l = h.table}
      (λ r m. sent_at_release so_far s (record_sent rounds r) ∙ ap (with_release r) (ap (λ (x : Stream). x.release) (one_sent r))) in
      λ i. with_table (with_last h (last i)) (table i)
    where
      one_sent : (r : Record) → stream_of (sent_at so_far s (record_sent rounds r)) ≡ sent_in (rounds ++ (slots_round so_far s ∷ [])) (stream_of r)
      one_sent r =
          let x = stream_of r in
          seen_sent_at so_far s (record_sent rounds r) ∙ passes_as_sent chosen ids_differ (times_sent x.number rounds) x
          ∙ ap (λ (k : ℕ). advanced k x) (sym (times_sent_snoc x.number rounds (slots_round so_far s)))

  still_there : (x : Stream) → Mem x (streams_in h) → Mem (sent_in rounds x) (streams_in so_far)
  still_there x there = subst⁻¹ (Mem (sent_in rounds x)) (seen_after h rounds) (mem-map_of_mem (sent_in rounds) there)

  -- every id in the round is that of a record where the list began
  ids_are_held : (id : ℕ) → Mem id (ids_at so_far s) → HasId id h.table
  ids_are_held id listed =
      let same_ids : map (λ (x : Stream). x.number) (streams_in so_far) ≡ map (λ (r : Record). r.id) h.table =
      numbers so_far.table ∙ map-map (λ (r : Record). r.id) (record_sent rounds) h.table in
      subst (Mem id) same_ids
      (∥∥₁_elim (mem-map.0 listed) Mem-prop (λ (x, slot, same).
      subst (λ (n : ℕ). Mem n (map (λ (x : Stream). x.number) (streams_in so_far))) same
      (mem-map_of_mem (λ (x : Stream). x.number) (is_choice.inside x slot))))

  -- what an id in the round sends may ride
  sent_rides : (x : Stream) → Mem x (streams_in h) → (m : ℕ) → times_sent x.number rounds ≤ m
      → m < times_sent x.number rounds + times_in x.number (ids_at so_far s) → MayRide (packet x m) s
  sent_rides x there m from below = go (served chosen x)
    where
      go : Dec (Served chosen x) → MayRide (packet x m) s
      go (no absent) = absurd (omega (arith, from, below, stands_never x.number (ids_at so_far s) ids_differ absent))
      go (yes here) =
          let y = sent_in rounds x in
          let slot : Mem y chosen =
          (served_iff (streams_in so_far) chosen (content_ready so_far sound).table is_choice.inside y (still_there x there)).0 here in
          let m_th : times_sent x.number rounds + 0 ≡ m = omega (arith, from, below, stands_once x.number (ids_at so_far s) ids_differ here) in
          subst (λ (q : Packet). MayRide q s) (packet_advanced x (times_sent x.number rounds) 0 ∙ ap (packet x) m_th) (is_choice.ride y slot)

  -- the cap of the theory's next state, counted from the round's start, is the planner's, counted from its end
  state_after : after (slots_of h) (start_gap_of h) (state_of so_far) s ≡ state_of (rounded so_far s)
  state_after =
      let cap : s + start_gap_of h ≡ cap_of (rounded so_far s) = omega arith in
      let table = sym (rounded_streams so_far sound s) in
      λ i. record { now = s + 1; cap = cap i; table = table i }

  -- the round follows those before it
  one_more : Follows h rounds so_far → Follows h (rounds ++ (slots_round so_far s ∷ [])) (rounded so_far s)
  one_more follows =
      record {
        holds = one_more_holds;
        played = follows.played ++ (round_at (slots_of h) (state_of so_far) s ∷ []);
        lazy =
            subst (Held (slots_of h) (start_gap_of h) (state_of h) (follows.played ++ (round_at (slots_of h) (state_of so_far) s ∷ []))) state_after
            (then follows.lazy s start);
        starts =
            map-append (λ (r : Round). r.start) follows.played (round_at (slots_of h) (state_of so_far) s ∷ [])
            ∙ ap (λ (xs : List ℕ). xs ++ (s ∷ [])) follows.starts
            ∙ sym (map-append (λ (r : HeldRound). r.start) rounds (slots_round so_far s ∷ []));
        in_time = λ x there m below.
            go x there m (rw (times_sent_snoc x.number rounds (slots_round so_far s)) at below) (dec_lt m (times_sent x.number rounds));
        of_streams = λ r there id listed.
            Or.elim Mem-prop (mem-append.0 there) (λ earlier. follows.of_streams r earlier id listed)
            (λ last. Or.elim Mem-prop (eq-or-mem_of_mem-cons last)
            (λ same. ids_are_held id (subst (λ (x : HeldRound). Mem id x.ids) same listed)) (λ none. absurd (not-mem-nil none)));
      }
    where
      go : (x : Stream) → Mem x (streams_in h) → (m : ℕ) → m < times_sent x.number rounds + times_in x.number (ids_at so_far s)
          → Dec (m < times_sent x.number rounds) → IsSentInTime (rounds ++ (slots_round so_far s ∷ [])) x m
      go x there m below (yes earlier) =
          let one = slots_round so_far s ∷ [] in
          ∥∥₁_map (follows.in_time x there m earlier)
          (λ (earlier, (r, (later, (split, goes)))). (
            earlier,
            (r, (later ++ one, (ap (λ (xs : List HeldRound). xs ++ one) split ∙ append_assoc earlier (r ∷ later) one, goes))),
          ))
      go x there m below (no now) =
          let rides = sent_rides x there m (omega arith) below in
          ∣ (rounds, (slots_round so_far s, ([], (refl, record { not_before = omega arith; here = below; in_time = rides })))) ∣₁

-- a held round of the contract is the lazy round
held_is_lazy : (q : Planner) → Sound q → (before after : List ℕ) (r : Rounded) → IsHeldRound q before after r
    → held_round r after ≡ slots_round (content q) r.start
held_is_lazy q sound before after r is = λ i. record { start = r.start; ids = ids_written q sound before after r is i }

-- one round more, said of what the planner holds
one_round : (h : Content) (rounds : List HeldRound) (c : Content) → Follows h rounds c → ContentSound c → (s : ℕ) → IsStart c s
    → Follows h (rounds ++ (slots_round c s ∷ [])) (rounded c s)
one_round h rounds c follows sound s start =
    subst⁻¹ (λ (d : Content). Follows h rounds d → ContentSound d → IsStart d s → Follows h (rounds ++ (slots_round d s ∷ [])) (rounded d s)) follows.holds
    (λ so_far is_sound is_start. one_more h rounds is_sound s is_start so_far) follows sound start

-- what is held, but for the messages: with none waiting
abbrev pub quiet : Content → Content
quiet h = with_waiting h []

-- which is sound too
pub quiet_sound : {h : Content} → ContentSound h → ContentSound (quiet h)
quiet_sound sound = waits_sound sound (record { few = omega arith; range = λ n m. absurd (not-mem-nil m) })

abbrev pub AfterCalls : Planner → List HeldRound → Planner → Type 0
AfterCalls p rounds q = Sound q × Follows (quiet (content p)) rounds (quiet (content q))

-- after a list of calls the planner is sound and holds what its held rounds leave, but for the messages
pub calls_follow : (p : Planner) → Sound p → {rounds : List HeldRound} {q : Planner} → Calls p rounds q → AfterCalls p rounds q
calls_follow p sound none = (sound, no_rounds (quiet (content p)))
calls_follow p sound (asked {rounds} calls call r is nonzero) = subst⁻¹ (AfterCalls p rounds) (refused_change is nonzero) (calls_follow p sound calls)
calls_follow p sound (sent {rounds} {q} calls n r is) = go (calls_follow p sound calls) (ℕ_discrete r.answer 0)
  where
    go : AfterCalls p rounds q → Dec (r.answer ≡ 0) → AfterCalls p rounds r.planner
    go before (no nonzero) = subst⁻¹ (AfterCalls p rounds) (refused_change is nonzero) before
    go before (yes zero) =
        let w = success_change is zero in
        (w.sound, subst⁻¹ (λ (c : Content). Follows (quiet (content p)) rounds (quiet c)) w.holds before.1)
calls_follow p sound (refused {rounds} calls before after r is nonzero) =
    subst⁻¹ (AfterCalls p rounds) (refused_round is nonzero).planner (calls_follow p sound calls)
calls_follow p sound (held {rounds} {q} calls before after r is zero) =
    let w = success_round is zero in
    let ih = calls_follow p sound calls in
    let h = quiet (content q) in (
      w.planner.sound,
      subst⁻¹ (λ (c : Content). Follows (quiet (content p)) (rounds ++ (held_round r after ∷ [])) (quiet c)) w.planner.holds
          (subst⁻¹ (λ (x : HeldRound). Follows (quiet (content p)) (rounds ++ (x ∷ [])) (rounded h r.start)) (held_is_lazy q ih.0 before after r w)
          (one_round (quiet (content p)) rounds h ih.1 (quiet_sound ih.0.content_sound) r.start w.start)),
    )

-- once a round was refused with 17, the start stays late: nothing but sends changes the planner any more, and these bring no round forward
pub clock_stays : {p : Planner} {rounds : List HeldRound} {q : Planner} → (calls : Calls p rounds q) → ClockEnded calls → StartsLate q
unfolding ClockEnded
clock_stays none ended = absurd ended
clock_stays (asked calls call r is nonzero) ended = subst⁻¹ StartsLate (refused_change is nonzero) (clock_stays calls ended)
clock_stays (sent {q = q} calls n r is) ended = go (clock_stays calls ended) (ℕ_discrete r.answer 0)
  where
    go : StartsLate q → Dec (r.answer ≡ 0) → StartsLate r.planner
    go late (no nonzero) = subst⁻¹ StartsLate (refused_change is nonzero) late
    go late (yes zero) =
        let was_sound = sent_is_sound q n (sym is.answer ∙ zero) in
        λ _ x start. late was_sound x (subst (λ (h : Content). IsStart h x) (success_change is zero).holds start)
clock_stays (refused {q} calls before after r is nonzero) ended =
    subst⁻¹ StartsLate (refused_round is nonzero).planner
    (⊎_elim (λ seventeen. seventeen_is_late q before (sym is.answer ∙ seventeen)) (λ earlier. clock_stays calls earlier) ended)
clock_stays (held {q} calls before after r is zero) ended = absurd (held_is_not_late q before (sym is.answer ∙ zero) (clock_stays calls ended))
