-- A round that passes, laid in front of a rival of what it leaves, makes a rival of what was held before it.
use Rattle.std.specs.Prelude.{◌≡◌, refl, length}
use Rattle.std.proofs.Common.{sym, ap, subst, ◌∙◌, arith}
use Rattle.std.proofs.Math.Path.{subst⁻¹}
use Rattle.std.proofs.Math.Logic.{∥∥₁_elim, ∥∥₁_map}
use Rattle.std.proofs.Math.Logic.Dec.{not as Dec-not}
use mathlib.Core.HLevel.{×_prop, Π_prop}
use mathlib.Core.List.Pairwise
use mathlib.Core.List.{List, Mem, Nodup, map, map-map, filter, filter-map, dec_mem}
use mathlib.Core.List.{mem-filter, mem-map, mem-map_of_mem}
use mathlib.Mathlib.Data.List.Nodup.{of_map}
use Prim.Native.Nat.{ℕ, zero, suc, ◌+◌, ◌-◌, ◌≤◌, ◌<◌}
use Rattle.std.proofs.Math.Bridge.{le_prop}
use Rattle.std.proofs.Math.Decide.{dec_lt, ℕ_discrete}
use Rattle.std.proofs.lemmas.List.{length-map}
use Rattle.basics.specs.Counts.{times_in}
use Rattle.rules.specs.Streams.{Stream, Packet, packet, MayRide, PacketOf}
use Rattle.rules.specs.Plans.{Round, IsPlan, Serves}
use Rattle.rules.proofs.Facts.Equality.{packet_discrete}
use Rattle.rules.proofs.Facts.Lists.{no_longer, filter_halves}
use Rattle.rules.proofs.Facts.Packets.{advanced, packet_advanced}
use Rattle.table.specs.Facts.Streams.{all_streams, seen_changed}
use Rattle.messages.specs.Numbers.{stream_ids}
use Rattle.packet_bytes.specs.Layout.{Values}
use Rattle.state.specs.Content.{Content, slots_of, streams_in, now_of, start_gap_of}
use Rattle.checker.specs.Plans.{sent_by, after_foreign, of_packet, of_start, of_room, of_slots, Passes}
use Rattle.demands.specs.Rivals.{IsRivalOf}
use Rattle.demands.proofs.Facts.CallLists.{stands_once, stands_never}

-- the ids of a round's packet, and whether a number is one of them
abbrev ids_in : Values → List ℕ
ids_in v = stream_ids v.ids

abbrev is_listed : (v : Values) (n : ℕ) → Dec (Mem n (ids_in v))
is_listed v n = dec_mem ℕ_discrete n (ids_in v)

-- the streams of what is held whose ids a round lists ..
abbrev chosen_by : Content → Values → List Stream
chosen_by h v = filter (λ (x : Stream). is_listed v x.number) (streams_in h)

-- .. and the round, as the rules see it: it sends their unserved packets
abbrev pub seen_round : Content → Values → Round
seen_round h v = record { start = v.start; packets = map (λ (x : Stream). packet x 0) (chosen_by h v) }

-- whether a round does not send a packet, and another round without those that it sends
abbrev not_in : (r : Round) (q : Packet) → Dec (Mem q r.packets → ⊥)
not_in r q = Dec-not (dec_mem packet_discrete q r.packets)

abbrev without : Round → Round → Round
without r x = record { start = x.start; packets = filter (not_in r) x.packets }

-- a round in front of a plan, which then sends no packet of it again
unfoldable pub in_front : Round → (ℕ → Round) → ℕ → Round
in_front r plan zero = r
in_front r plan (suc n) = without r (plan n)

-- what the rules see of the records after a round: each stream at its next packet where its id is listed, and so often as it is
seen_left : (h : Content) (v : Values) → streams_in (after_foreign h v) ≡ map (λ (x : Stream). advanced (times_in x.number (ids_in v)) x) (streams_in h)
seen_left h v = seen_changed (sent_by v) (λ (x : Stream). advanced (times_in x.number (ids_in v)) x) h.table (λ x. refl)

-- no id stands twice in the table
abbrev pub IdsDiffer : Content → Type 0
IdsDiffer h = Nodup (map (λ (x : Stream). x.number) (streams_in h))

-- nor after a round
pub still_differ : (h : Content) (v : Values) → IdsDiffer h → IdsDiffer (after_foreign h v)
still_differ h v differ =
    subst⁻¹ Nodup
    (ap (map (λ (x : Stream). x.number)) (seen_left h v)
    ∙ map-map (λ (x : Stream). x.number) (λ (x : Stream). advanced (times_in x.number (ids_in v)) x) (streams_in h))
    differ

module _ (h : Content) (v : Values) (passes : Passes h v) (differ : IdsDiffer h) where
  abbrev r : Round
  r = seen_round h v

  once_listed : Nodup (ids_in v)
  once_listed = (passes of_packet).0.ids.ids.once

  -- the ids sent are those of the table that are listed
  numbers_sent : map (λ (x : Stream). x.number) (chosen_by h v) ≡ filter (is_listed v) (map (λ (x : Stream). x.number) (streams_in h))
  numbers_sent = sym (filter-map (is_listed v) (λ (x : Stream). x.number) (streams_in h))

  numbers_differ : Nodup (map (λ (x : Stream). x.number) (chosen_by h v))
  numbers_differ = subst⁻¹ Nodup numbers_sent (Pairwise.filter (is_listed v) differ)

  few_sent : length r.packets ≤ slots_of h
  few_sent =
      let inside : (n : ℕ) → Mem n (map (λ (x : Stream). x.number) (chosen_by h v)) → Mem n (ids_in v) =
      λ n m. ((mem-filter (is_listed v) {l = map (λ (x : Stream). x.number) (streams_in h)}).0
      (subst (Mem n) numbers_sent m)).1 in
      omega (
        arith,
        no_longer (map (λ (x : Stream). x.number) (chosen_by h v)) (ids_in v) numbers_differ inside,
        length-map (chosen_by h v) (λ (x : Stream). x.number),
        length-map (chosen_by h v) (λ (x : Stream). packet x 0),
        passes of_room,
      )

  sent_once : Nodup r.packets
  sent_once =
      of_map (λ (q : Packet). q.number)
      (subst⁻¹ Nodup (map-map (λ (q : Packet). q.number) (λ (x : Stream). packet x 0) (chosen_by h v)) numbers_differ)

  abbrev RidesIfListed : Stream → Type 0
  RidesIfListed x = Mem x.number (ids_in v) → MayRide (packet x 0) v.start

  sent_ride : (q : Packet) → Mem q r.packets → MayRide q v.start
  sent_ride q m =
      ∥∥₁_elim (mem-map.0 m) (×_prop le_prop le_prop)
      (λ (x, chosen, same).
      let (there, listed) = (mem-filter (λ (y : Stream). is_listed v y.number) {l = streams_in h}).0 chosen in
      subst (λ (p : Packet). MayRide p v.start) same (of_table x there listed))
    where
      of_table : (x : Stream) → Mem x (streams_in h) → RidesIfListed x
      of_table =
          all_streams RidesIfListed (λ x. Π_prop (λ listed. ×_prop le_prop le_prop)) h.table
          (λ y there listed. (passes of_slots).ride y there 0 (omega (arith, stands_once y.id (ids_in v) once_listed listed)))

  -- a packet that the round does not send is one of the table after it
  is_left : (q : Packet) → PacketOf (streams_in h) q → (Mem q r.packets → ⊥) → PacketOf (streams_in (after_foreign h v)) q
  is_left q of not_sent = ∥∥₁_map of (λ (x, there, (k, same)). go x there k same (dec_lt k (times_in x.number (ids_in v))))
    where
      later : Type 0
      later = (x : Stream) × Mem x (streams_in (after_foreign h v)) × ((k : ℕ) × (q ≡ packet x k))

      go : (x : Stream) → Mem x (streams_in h) → (k : ℕ) → q ≡ packet x k → Dec (k < times_in x.number (ids_in v)) → later
      go x there k same (no behind) =
          let n = times_in x.number (ids_in v) in
          let k_th : n + (k - n) ≡ k = omega arith in (
            advanced n x,
            subst⁻¹ (Mem (advanced n x)) (seen_left h v) (mem-map_of_mem (λ (y : Stream). advanced (times_in y.number (ids_in v)) y) there),
            (k - n, same ∙ sym (packet_advanced x n (k - n) ∙ ap (packet x) k_th)),
          )
      go x there k same (yes before) = absurd (not_sent (subst⁻¹ (λ (p : Packet). Mem p r.packets) same (here (is_listed v x.number))))
        where
          here : Dec (Mem x.number (ids_in v)) → Mem (packet x k) r.packets
          here (no absent) = absurd (omega (arith, before, stands_never x.number (ids_in v) once_listed absent))
          here (yes listed) =
              let only : 0 ≡ k = omega (arith, before, stands_once x.number (ids_in v) once_listed listed) in
              subst (λ (j : ℕ). Mem (packet x j) r.packets) only
              (mem-map_of_mem (λ (y : Stream). packet y 0) ((mem-filter (λ (y : Stream). is_listed v y.number) {l = streams_in h}).1 (there, listed)))

  module _ (plan : ℕ → Round) (rival : IsRivalOf (after_foreign h v) plan) where
    abbrev whole : ℕ → Round
    whole = in_front r plan

    still_in : (n : ℕ) (q : Packet) → Mem q (without r (plan n)).packets → Mem q (plan n).packets × (Mem q r.packets → ⊥)
    still_in n q m = (mem-filter (not_in r) {l = (plan n).packets}).0 m

    whole_is_plan : IsPlan (slots_of h) (now_of h) whole
    unfolding in_front
    whole_is_plan =
        record {
          from_moment = omega (arith, passes of_start);
          rising = rising;
          room = room;
          ride = ride;
          once = once;
          never_again = never_again;
        }
      where
        rising : (n : ℕ) → (whole n).start < (whole (suc n)).start
        rising zero = omega (arith, rival.is_plan.from_moment)
        rising (suc n) = rival.is_plan.rising n

        room : (n : ℕ) → length (whole n).packets ≤ slots_of h
        room zero = few_sent
        room (suc n) = omega (arith, rival.is_plan.room n, filter_halves (λ (q : Packet). dec_mem packet_discrete q r.packets) (plan n).packets)

        ride : (n : ℕ) (q : Packet) → Mem q (whole n).packets → MayRide q (whole n).start
        ride zero q m = sent_ride q m
        ride (suc n) q m = rival.is_plan.ride n q (still_in n q m).0

        once : (n : ℕ) → Nodup (whole n).packets
        once zero = sent_once
        once (suc n) = Pairwise.filter (not_in r) (rival.is_plan.once n)

        never_again : (m n : ℕ) (q : Packet) → Mem q (whole m).packets → Mem q (whole n).packets → m ≡ n
        never_again zero zero q a b = refl
        never_again zero (suc n) q a b = absurd ((still_in n q b).1 a)
        never_again (suc m) zero q a b = absurd ((still_in m q a).1 b)
        never_again (suc m) (suc n) q a b = ap suc (rival.is_plan.never_again m n q (still_in m q a).0 (still_in n q b).0)

    whole_serves : Serves whole (streams_in h)
    unfolding in_front
    whole_serves q of = go (dec_mem packet_discrete q r.packets)
      where
        go : Dec (Mem q r.packets) → ∥ ((n : ℕ) × Mem q (whole n).packets) ∥₁
        go (yes sent) = ∣ (0, sent) ∣₁
        go (no not_sent) =
            ∥∥₁_map (rival.serves q (is_left q of not_sent))
            (λ (n, m). (suc n, (mem-filter (not_in r)).1 (m, not_sent)))

    -- the round in front, and then the rival
    pub front_is_rival : IsRivalOf h whole
    unfolding in_front
    front_is_rival =
        record { is_plan = whole_is_plan; serves = whole_serves; keeps_gap = record { first = (passes of_start).1; later = later } }
      where
        later : (n : ℕ) → (whole (suc n)).start ≤ (whole n).start + start_gap_of h
        later zero = omega (arith, rival.keeps_gap.first)
        later (suc n) = rival.keeps_gap.later n
