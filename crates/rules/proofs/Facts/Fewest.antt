-- Fewest rounds: for every rival and every k, the rival's k-th start is no later than that of the k-th lazy round.
use Rattle.std.specs.Prelude.{◌≡◌, ◌⊎◌}
use Rattle.std.proofs.Common.{ap, inl, inr, le_trans, lt_irrefl, mul-le-mul_left, arith}
use Rattle.std.proofs.Math.Path.{subst⁻¹}
use Rattle.std.proofs.Math.Logic.Or
use Rattle.std.proofs.Math.Logic.{∥∥₁_elim, ∥∥₁_prop}
use Rattle.std.proofs.Math.Logic.Dec.{not as Dec-not}
use mathlib.Core.HLevel.{⊥_prop}
use mathlib.Core.List.Pairwise
use mathlib.Core.List.{List, [], ◌∷◌, ◌++◌, filter, Nodup, Nodup-append}
use mathlib.Core.List.{Mem, dec_mem, mem-filter, mem-map, mem-append, mem-append_left, mem-append_right}
use Prim.Native.Nat.{ℕ, suc, ◌+◌, ◌-◌, ◌*◌, ◌≤◌, ◌<◌}
use Rattle.std.proofs.Math.Decide.{dec_le, dec_lt}
use Rattle.std.proofs.Math.ListN.{length, length-append, get_or-append}
use Rattle.std.proofs.Math.Seq.{get_or-append_seam}
use Rattle.rules.specs.Streams.{Stream, Packet, packet, IsTable, PacketOf}
use Rattle.rules.specs.Demand.{Candidate, future, ceil, IsLazyStart}
use Rattle.rules.specs.Slots.{slots, after_round, passed}
use Rattle.rules.specs.Plans.{Round, IsPlan, Serves, IsRival}
use Rattle.rules.specs.Runs.{State, Held, none, then, round_at, after, start_of}
use Rattle.rules.proofs.Facts.Division.{ceil_least, ceil_positive}
use Rattle.rules.proofs.Facts.Sums.{fits_due_after}
use Rattle.rules.specs.Ready.{Fits, IsReadyState}
use Rattle.rules.proofs.Facts.LazyStart.{lazy_fits}
use Rattle.rules.proofs.Facts.Lists.{no_longer, filter_halves}
use Rattle.rules.proofs.Facts.Equality.{packet_discrete}
use Rattle.rules.proofs.Facts.DuePackets.{due_list, length_due_list, of_due_list, in_due_list, nodup_due_list}
use Rattle.rules.proofs.Facts.Slots.{Full, Complete, IsChoice}
use Rattle.rules.proofs.Facts.RoundKept.{passed_table, full_takes, all_leaves_late, passed_is_table, round_choice}
use Rattle.rules.proofs.Facts.Packets.{packet_was}
use Rattle.rules.proofs.Facts.Plans.{rounds_from, rounds_room, in_rounds, of_rounds, sent_before}
use Rattle.rules.proofs.Facts.SentInTime.{held_ready, held_was}

module _ (b moment : ℕ) (plan : ℕ → Round) (is_plan : IsPlan b moment plan) (first : List Stream) (first_table : IsTable first) where
  -- of the packets of the first table due by t, those that the plan sends in its first n rounds
  sent_by : ℕ → ℕ → List Packet
  sent_by n t = filter (λ (q : Packet). dec_mem packet_discrete q (rounds_from plan 0 n)) (due_list first t)

  -- the plan is behind: what we still owe by t and what it has sent by then are together no more than all there was
  abbrev Behind : ℕ → List Stream → Type 0
  Behind n ss = (t : ℕ) → future ss t + length (sent_by n t) ≤ future first t

  in_sent_by : (n t : ℕ) (q : Packet) → Mem q (sent_by n t) → Mem q (due_list first t) × Mem q (rounds_from plan 0 n)
  unfolding sent_by
  in_sent_by n t q m = (mem-filter (λ (p : Packet). dec_mem packet_discrete p (rounds_from plan 0 n))).0 m

  nodup_sent_by : (n t : ℕ) → Nodup (sent_by n t)
  unfolding sent_by
  nodup_sent_by n t = Pairwise.filter (λ (q : Packet). dec_mem packet_discrete q (rounds_from plan 0 n)) (nodup_due_list first first_table t)

  behind_at_first : Behind 0 first
  unfolding rounds_from
  behind_at_first t =
      omega (arith, no_longer (sent_by 0 t) [] (nodup_sent_by 0 t) (λ q m. (in_sent_by 0 t q m).1))

  -- one round more of the plan sends at most b more
  one_round_more : (n t : ℕ) → length (sent_by (suc n) t) ≤ length (sent_by n t) + b
  unfolding rounds_from sent_by
  one_round_more n t =
      let within =
      no_longer (sent_by (suc n) t) (sent_by n t ++ (plan (0 + n)).packets) (nodup_sent_by (suc n) t)
      (λ q m. let w = in_sent_by (suc n) t q m in
      Or.elim ∥∥₁_prop (mem-append.0 w.1) (λ here. mem-append_right (sent_by n t) here)
      (λ earlier. mem-append_left (plan (0 + n)).packets ((mem-filter (λ (p : Packet). dec_mem packet_discrete p (rounds_from plan 0 n))).1 (w.0, earlier)))) in
      omega (arith, rw length-append at within, is_plan.room (0 + n))

  module _ (ss : List Stream) (table : IsTable ss) (was : (q : Packet) → PacketOf ss q → PacketOf first q) where
    -- our round at s, where the plan's round n starts by s, leaves the plan behind
    behind_after_round : (n s : ℕ) (chosen : List Stream) → Fits b s ss → IsChoice b s ss chosen → (plan n).start ≤ s → Behind n ss
        → Behind (suc n) (passed_table chosen ss)
    behind_after_round n s chosen fits choice by behind t = go (choice.full_or_all t)
      where
        after_table : IsTable (passed_table chosen ss)
        after_table = passed_is_table chosen ss table

        -- a packet that we still owe by t is released after s, and so after the plan's first n + 1 rounds
        apart : Complete s t ss chosen
            → (q : Packet) → Mem q (due_list (passed_table chosen ss) t) → Mem q (sent_by (suc n) t) → ⊥
        apart every q owed sent =
            ∥∥₁_elim owed ⊥_prop
            (λ place. let w = of_due_list (passed_table chosen ss) after_table.well_formed t place in
            ∥∥₁_elim (mem-map.0 w.0.1) ⊥_prop
            (λ v. clash v.0 v.1 w.0.2.0 (subst⁻¹ (λ (y : Stream). q ≡ packet y w.0.2.0) v.2 w.0.2.1) w.1))
          where
            clash : (x : Stream) → Mem x ss → (k : ℕ) → q ≡ packet (passed chosen x) k → q.due ≤ t → ⊥
            clash x m k e early =
                let y = passed chosen x in
                let due_at : q.due ≡ y.release + k * y.period + y.deadline = ap (λ (p : Packet). p.due) e in
                let released_at : q.release ≡ y.release + k * y.period = ap (λ (p : Packet). p.release) e in
                let late = all_leaves_late b s ss chosen table choice (fits_due_after b s ss table.well_formed fits) t every x m (omega arith) in
                let no_later : q.release ≤ (plan (0 + n)).start = of_rounds b moment plan is_plan 0 n q (in_sent_by (suc n) t q sent).1 in
                let n_th : 0 + n ≡ n = omega arith in
                let by_s : q.release ≤ (plan n).start = rw n_th at no_later in
                omega arith

        go : Full b t chosen ⊎ Complete s t ss chosen
            → future (passed_table chosen ss) t + length (sent_by (suc n) t) ≤ future first t
        go (inl full) = omega (arith, full_takes b s ss chosen table choice t full, one_round_more n t, behind t)
        go (inr every) =
            let within =
            no_longer (due_list (passed_table chosen ss) t ++ sent_by (suc n) t) (due_list first t)
            (Nodup-append.1 (nodup_due_list (passed_table chosen ss) after_table t, nodup_sent_by (suc n) t, apart every))
            (λ q m. Or.elim ∥∥₁_prop (mem-append.0 m)
            (λ owed. ∥∥₁_elim owed ∥∥₁_prop
            (λ place. let w = of_due_list (passed_table chosen ss) after_table.well_formed t place in
            in_due_list first first_table.well_formed t q (was q (packet_was ss chosen q ∣ w.0 ∣₁)) w.1))
            (λ sent. (in_sent_by (suc n) t q sent).0)) in
            omega (arith, rw length-append at within, length_due_list (passed_table chosen ss) t, length_due_list first t)

    -- a plan that serves the table and starts round n by the cap starts it by the lazy start
    by_lazy_start : (n cap s : ℕ) → 1 ≤ b → Serves plan first → IsLazyStart b cap ss s → (plan n).start ≤ cap → Behind n ss → (plan n).start ≤ s
    unfolding sent_by
    by_lazy_start n cap s positive serves lazy by_cap behind = go lazy.one_of_them
      where
        go : Candidate b cap ss s → (plan n).start ≤ s
        go (inl e) = rw e by_cap
        go (inr (t, some, e)) = late (dec_le (plan n).start s)
          where
            left : List Packet
            left = filter (λ (q : Packet). Dec-not (dec_mem packet_discrete q (rounds_from plan 0 n))) (due_list first t)

            -- what the plan has left to send by t lies in its rounds from n on
            within : length left ≤ length (rounds_from plan n (t - (plan n).start))
            within =
                no_longer left (rounds_from plan n (t - (plan n).start))
                (Pairwise.filter (λ (q : Packet). Dec-not (dec_mem packet_discrete q (rounds_from plan 0 n))) (nodup_due_list first first_table t))
                (λ q m. let w = (mem-filter (λ (p : Packet). Dec-not (dec_mem packet_discrete p (rounds_from plan 0 n)))).0 m in
                ∥∥₁_elim w.0 ∥∥₁_prop
                (λ place. let v = of_due_list first first_table.well_formed t place in
                ∥∥₁_elim (serves q ∣ v.0 ∣₁) ∥∥₁_prop
                (λ u. later q v.1 u.0 u.1 w.1 (dec_lt u.0 n))))
              where
                later : (q : Packet) → q.due ≤ t → (j : ℕ) → Mem q (plan j).packets → (Mem q (rounds_from plan 0 n) → ⊥) → Dec (j < n)
                    → Mem q (rounds_from plan n (t - (plan n).start))
                later q early j sent unsent (yes before) = absurd (unsent (in_rounds b moment plan is_plan 0 n j (omega arith) (omega arith) q sent))
                later q early j sent unsent (no from) = sent_before b moment plan is_plan n t q early j (omega arith) sent

            late : Dec ((plan n).start ≤ s) → (plan n).start ≤ s
            late (yes early) = early
            late (no too_late) =
                let halves : length (sent_by n t) + length left ≡ length (due_list first t) =
                filter_halves (λ (q : Packet). dec_mem packet_discrete q (rounds_from plan 0 n)) (due_list first t) in
                let owed : future ss t ≤ length left = omega (arith, behind t, length_due_list first t) in
                let still = t - (plan n).start in
                let room : length (rounds_from plan n still) ≤ b * still = rounds_room b moment plan is_plan n still in
                let fewer : b * still ≤ b * (t - (s + 1)) = mul-le-mul_left b (omega arith) in
                let parts : ceil (future ss t) b ≤ t - (s + 1) =
                ceil_least (future ss t) b (t - (s + 1)) positive (le_trans owed (le_trans within (le_trans room fewer))) in
                let one = ceil_positive (future ss t) b positive some in
                omega arith

module _ (b gap : ℕ) (positive : 1 ≤ b) (gap_positive : 1 ≤ gap) (st : State) (is_ready : IsReadyState b st) where
  module _ (plan : ℕ → Round) (rival : IsRival b st.now st.cap gap st.table plan) where
    -- after each held round: the rival is behind, its starts so far are no later, and its next one is within our cap
    record IsBehind (rounds : List Round) (at : State) : Type 0 where
      behind : Behind b st.now plan rival.is_plan st.table is_ready.ready.table (length rounds) at.table
      never_later : (k : ℕ) → k < length rounds → (plan k).start ≤ start_of rounds k
      next_by_cap : (plan (length rounds)).start ≤ at.cap

    one_more : (rounds : List Round) (before : State) → Held b gap st rounds before → (s : ℕ) → IsLazyStart b before.cap before.table s
        → IsBehind rounds before → IsBehind (rounds ++ (round_at b before s ∷ [])) (after b gap before s)
    unfolding after_round
    one_more rounds before held s lazy so_far =
        let is_plan = rival.is_plan in
        let first_table = is_ready.ready.table in
        let now_ready = (held_ready b gap positive gap_positive st is_ready held).ready in
        let was = held_was b gap positive gap_positive st is_ready held in
        let here : (plan n).start ≤ s =
        by_lazy_start b st.now plan is_plan st.table first_table before.table now_ready.table was
        n before.cap s positive rival.serves lazy so_far.next_by_cap so_far.behind in
        let fits = lazy_fits b before.cap before.table positive s lazy in
        let choice = round_choice b before.now before.table now_ready positive before.cap s s lazy (omega arith) in
        let more : length with_this ≡ suc n = rw length-append (omega arith) in
        record {
          behind =
              rw more
              (behind_after_round b st.now plan is_plan st.table first_table before.table now_ready.table was
              n s (slots b s before.table) fits choice here so_far.behind);
          never_later = λ k below. earlier_or_last k (so_far.never_later k) here (rw more at below) (dec_lt k n);
          next_by_cap = rw more (omega (arith, rival.keeps_gap.later n));
        }
      where
        n : ℕ
        n = length rounds

        this : Round
        this = round_at b before s

        with_this : List Round
        with_this = rounds ++ (this ∷ [])

        nothing : Round
        nothing = record { start = 0; packets = [] }

        earlier_or_last : (k : ℕ) → (k < n → (plan k).start ≤ start_of rounds k) → (plan n).start ≤ s → k < suc n → Dec (k < n)
            → (plan k).start ≤ start_of with_this k
        earlier_or_last k earlier here below (yes less) =
            subst⁻¹ (λ (r : Round). (plan k).start ≤ r.start) (get_or-append rounds (this ∷ []) nothing k less) (earlier less)
        earlier_or_last k earlier here below (no last) =
            let e : k ≡ n = omega arith in
            subst⁻¹ (λ (j : ℕ). (plan j).start ≤ start_of with_this j) e
            (subst⁻¹ (λ (r : Round). (plan n).start ≤ r.start) (get_or-append_seam rounds this [] nothing) here)

    held_behind : {rounds : List Round} {at : State} → Held b gap st rounds at → IsBehind rounds at
    held_behind none =
        record {
          behind = behind_at_first b st.now plan rival.is_plan st.table is_ready.ready.table;
          never_later = λ k below. absurd (lt_irrefl k (omega arith));
          next_by_cap = rival.keeps_gap.first;
        }
    held_behind (then {rounds = rounds} {at = before} held s lazy) = one_more rounds before held s lazy (held_behind held)

    -- for every rival and every k up to the rounds held, the rival's k-th start is no later
    pub held_fewest : {rounds : List Round} {at : State} → Held b gap st rounds at → (k : ℕ) → k < length rounds → (plan k).start ≤ start_of rounds k
    held_fewest held = (held_behind held).never_later
