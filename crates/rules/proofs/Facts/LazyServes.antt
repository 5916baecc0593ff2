-- Lazy rounds for ever are a plan that serves the table and keeps the gap limit, and no rival needs fewer rounds.
use Rattle.std.specs.Prelude.{◌≡◌, length}
use Rattle.std.proofs.Math.Path.{refl, sym, subst}
use Rattle.std.proofs.Common.{ap, length-append}
use Rattle.std.proofs.Math.Logic.Or
use Rattle.std.proofs.Math.Logic.{∥∥₁_elim, ∥∥₁_map, ∥∥₁_prop}
use mathlib.Core.HLevel.{×_prop}
use mathlib.Core.List.{List, [], ◌∷◌, ◌++◌, Mem, Nodup, mem-map, mem-append, not-mem-nil, eq-or-mem_of_mem-cons}
use mathlib.Mathlib.Data.List.Nodup.{map_on, inj_on_of_Nodup-map}
use Prim.Native.Nat.{ℕ, zero, suc, ◌+◌, ◌≤◌, ◌<◌}
use Rattle.std.proofs.Math.Bridge.{le_prop}
use Rattle.std.proofs.Math.Decide.{dec_lt}
use native.Mathlib.Omega.{arith}
use Rattle.std.proofs.Math.ListN.{get_or, length-map}
use Rattle.std.proofs.Math.Seq.{get_or-append_seam}
use Rattle.rules.specs.Streams.{Stream, Packet, MayRide, PacketOf}
use Rattle.rules.specs.Slots.{slots, after_round}
use Rattle.rules.specs.Plans.{Round, IsPlan, Serves, KeepsGap, IsRival}
use Rattle.rules.specs.Runs.{State, Held, none, then, after, state_at, IsLazyRun, run_plan}
use Rattle.rules.proofs.Facts.Equality.{stream_set}
use Rattle.rules.proofs.Facts.RoundKept.{round_choice}
use Rattle.rules.proofs.Facts.Slots.{IsChoice}
use Rattle.rules.proofs.Facts.Packets.{packet_was, sent_is_gone}
use Rattle.rules.proofs.Facts.SentInTime.{lazy_from_now, held_ready, now_is_end, sent_by_the_end}
use Rattle.rules.specs.Ready.{IsReadyState}
use Rattle.rules.proofs.Facts.Fewest.{held_fewest}

module _ (b gap : ℕ) (positive : 1 ≤ b) (gap_positive : 1 ≤ gap) (st : State) (is_ready : IsReadyState b st)
    (starts : ℕ → ℕ) (lazy : IsLazyRun b gap st starts) where
  plan : ℕ → Round
  plan = run_plan b gap st starts

  at : ℕ → State
  at = state_at b gap st starts

  -- the first n rounds
  first_rounds : ℕ → List Round
  first_rounds zero = []
  first_rounds (suc n) = first_rounds n ++ (plan n ∷ [])

  -- .. are a list of held rounds
  first_held : (n : ℕ) → Held b gap st (first_rounds n) (at n)
  unfolding first_rounds plan at state_at
  first_held zero = none
  first_held (suc n) = then (first_held n) (starts n) (lazy n)

  ready_at : (n : ℕ) → IsReadyState b (at n)
  ready_at n = held_ready b gap positive gap_positive st is_ready (first_held n)

  now_by_start : (n : ℕ) → (at n).now ≤ starts n
  unfolding at
  now_by_start n = lazy_from_now b gap positive gap_positive (at n) (ready_at n) (starts n) (lazy n)

  rising : (n : ℕ) → starts n < starts (suc n)
  unfolding at state_at
  rising n = omega (arith, now_by_start (suc n))

  now_grows : (n : ℕ) → st.now + n ≤ (at n).now
  unfolding at state_at
  now_grows zero = omega arith
  now_grows (suc n) = omega (arith, now_grows n, now_by_start n)

  choice_at : (n : ℕ) → IsChoice b (starts n) (at n).table (slots b (starts n) (at n).table)
  unfolding at
  choice_at n = round_choice b (at n).now (at n).table (ready_at n).ready positive (at n).cap (starts n) (starts n) (lazy n) (omega arith)

  length_first : (n : ℕ) → length (first_rounds n) ≡ n
  unfolding first_rounds
  length_first zero = refl
  length_first (suc n) = rw (length-append, length_first n) (omega arith)

  of_first : (n : ℕ) (r : Round) → Mem r (first_rounds n) → ∥ ((m : ℕ) × (r ≡ plan m)) ∥₁
  unfolding first_rounds
  of_first zero r m = absurd (not-mem-nil m)
  of_first (suc n) r m =
      Or.elim ∥∥₁_prop (mem-append.0 m) (of_first n r)
      (λ last. Or.elim ∥∥₁_prop (eq-or-mem_of_mem-cons last) (λ e. ∣ (n, e) ∣₁) (λ nothing. absurd (not-mem-nil nothing)))

  -- a packet in a round is one of the table before it ..
  packet_of_round : (n : ℕ) (q : Packet) → Mem q (plan n).packets → PacketOf (at n).table q
  unfolding plan at
  packet_of_round n q m = ∥∥₁_elim (mem-map.0 m) ∥∥₁_prop (λ w. ∣ (w.0, (choice_at n).inside w.0 w.1, (0, sym w.2)) ∣₁)

  -- .. and none of the table after it, then or later
  gone : (m n : ℕ) → m < n → (q : Packet) → Mem q (plan m).packets → PacketOf (at n).table q → ⊥
  unfolding plan at state_at after_round
  gone m zero below q sent of = elim below [ ]
  gone m (suc n) below q sent of = go (λ less. gone m n less q sent (packet_was (at n).table (slots b (starts n) (at n).table) q of)) (dec_lt m n)
    where
      go : (m < n → ⊥) → Dec (m < n) → ⊥
      go earlier (yes less) = earlier less
      go earlier (no last) =
          let e : m ≡ n = omega arith in
          sent_is_gone (at n).table (slots b (starts n) (at n).table) (ready_at n).ready.table (choice_at n).inside q
          (subst (λ (k : ℕ). Mem q (plan k).packets) e sent) of

  never_again : (m n : ℕ) (q : Packet) → Mem q (plan m).packets → Mem q (plan n).packets → m ≡ n
  never_again m n q here there = go (dec_lt m n) (dec_lt n m)
    where
      go : Dec (m < n) → Dec (n < m) → m ≡ n
      go (yes less) after = absurd (gone m n less q here (packet_of_round n q there))
      go (no not_less) (yes more) = absurd (gone n m more q there (packet_of_round m q here))
      go (no not_less) (no not_more) = omega arith

  once : (n : ℕ) → Nodup (plan n).packets
  unfolding plan at
  once n =
      let choice = choice_at n in
      let told_apart = inj_on_of_Nodup-map stream_set (λ (z : Stream). z.number) (ready_at n).ready.table.differ in
      map_on
      (λ x m y m' e. told_apart x (choice.inside x m) y (choice.inside y m') (ap (λ (q : Packet). q.number) e))
      choice.distinct

  -- lazy rounds for ever are a plan ..
  pub lazy_is_plan : IsPlan b st.now (run_plan b gap st starts)
  unfolding plan at state_at
  lazy_is_plan =
      record {
        from_moment = now_by_start 0;
        rising = rising;
        room = λ n. rw length-map (choice_at n).few;
        ride = λ n q m. ∥∥₁_elim (mem-map.0 m) (×_prop le_prop le_prop)
            (λ (x, there, e). subst (λ (p : Packet). MayRide p (starts n)) e ((choice_at n).ride x there));
        once = once;
        never_again = never_again;
      }

  -- .. that serves the table ..
  pub lazy_serves : Serves (run_plan b gap st starts) st.table
  unfolding plan at
  lazy_serves q of =
      let n = q.due in
      ∥∥₁_elim (sent_by_the_end b gap positive gap_positive st is_ready (first_held n) q of
      (rw (← now_is_end b gap positive gap_positive st is_ready (first_held n)) (omega (arith, now_grows n)))) ∥∥₁_prop
      (λ w. ∥∥₁_map (of_first n w.0 w.1) (λ v. (v.0, subst (λ (r : Round). Mem q r.packets) v.1 w.2)))

  -- .. and keeps the gap limit
  pub lazy_keeps_gap : KeepsGap st.cap gap (run_plan b gap st starts)
  unfolding state_at
  lazy_keeps_gap = record { first = (lazy 0).by_cap; later = λ n. (lazy (suc n)).by_cap }

  -- and no rival's k-th start is later, for any k
  pub fewest : (rival : ℕ → Round) → IsRival b st.now st.cap gap st.table rival → (k : ℕ) → (rival k).start ≤ starts k
  unfolding first_rounds plan
  fewest rival is_rival k =
      let nothing : Round = record { start = 0; packets = [] } in
      let last : get_or (first_rounds (suc k)) (length (first_rounds k)) nothing ≡ plan k = get_or-append_seam (first_rounds k) (plan k) [] nothing in
      let k_th : get_or (first_rounds (suc k)) k nothing ≡ plan k = rw (length_first k) at last in
      subst (λ (r : Round). (rival k).start ≤ r.start) k_th
      (held_fewest b gap positive gap_positive st is_ready rival is_rival (first_held (suc k)) k (omega (arith, length_first (suc k))))
