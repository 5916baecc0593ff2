-- Over a list of calls: every packet due by the end of the last held round has been sent in time.
use Rattle.std.specs.Prelude.{◌≡◌, ℕ, ◌+◌, ◌≤◌, ◌<◌}
use Rattle.std.proofs.Math.Path.{refl, sym, subst}
use Rattle.std.proofs.Math.Logic.Or
use Rattle.std.proofs.Math.Logic.{◌∨₁◌, ∥∥₁_elim, ∥∥₁_map, ∥∥₁_prop}
use mathlib.Core.List.{List, [], ◌∷◌, ◌++◌, Mem, mem-map, mem-append_left, mem-append_right, mem-cons_self}
use mathlib.Core.HLevel.{×_prop}
use Rattle.std.proofs.Math.Bridge.{le_prop}
use Rattle.std.proofs.Common.{lt_irrefl, lt_of_lt_of_le, arith}
use Rattle.rules.specs.Streams.{Packet, MayRide, PacketOf}
use Rattle.rules.specs.Demand.{IsLazyStart}
use Rattle.rules.specs.Slots.{slots, after_round}
use Rattle.rules.specs.Plans.{Round}
use Rattle.rules.specs.Runs.{end_of, State, Held, none, then, SentInTime, round_at, after}
use Rattle.rules.specs.Ready.{Fits, IsReadyState}
use Rattle.rules.proofs.Facts.LazyStart.{lazy_fits, fits_lazy}
use Rattle.rules.proofs.Facts.RoundKept.{ready_fits, round_kept, round_choice}
use Rattle.rules.proofs.Facts.Packets.{packet_due_after, packet_was, sent_or_left}

module _ (b gap : ℕ) (positive : 1 ≤ b) (gap_positive : 1 ≤ gap) where
  -- Annex 4.8: the lazy start of a ready state is never before now
  pub lazy_from_now : (st : State) → IsReadyState b st → (s : ℕ) → IsLazyStart b st.cap st.table s → st.now ≤ s
  lazy_from_now st is_ready s lazy =
      fits_lazy b st.cap st.table positive s lazy st.now is_ready.open_cap (ready_fits b st.now st.table is_ready.ready)

  -- a lazy round leaves a ready state
  pub ready_after : (st : State) → IsReadyState b st → (s : ℕ) → IsLazyStart b st.cap st.table s → IsReadyState b (after b gap st s)
  ready_after st is_ready s lazy =
      record {
        ready = round_kept b st.now st.table is_ready.ready positive st.cap s s lazy (omega arith);
        open_cap = omega arith;
      }

  -- a packet that waits before a lazy round is sent in it, and may ride, or still waits after it
  this_round : (st : State) → IsReadyState b st → (s : ℕ) → IsLazyStart b st.cap st.table s → (q : Packet) → PacketOf st.table q
      → (Mem q (round_at b st s).packets × MayRide q s) ∨₁ PacketOf (after_round b s st.table) q
  unfolding after_round
  this_round st is_ready s lazy q waiting =
      let ready = is_ready.ready in
      let choice = round_choice b st.now st.table ready positive st.cap s s lazy (omega arith) in
      Or.elim ∥∥₁_prop (sent_or_left st.table (slots b s st.table) ready.table choice.inside q waiting)
      (λ sent.
      let rides = ∥∥₁_elim (mem-map.0 sent) (×_prop le_prop le_prop) (λ (x, m, e). subst (λ (p : Packet). MayRide p s) e (choice.ride x m)) in
      Or.inl (sent, rides))
      Or.inr

  module _ (st : State) (is_ready : IsReadyState b st) where
    -- lazy rounds from a ready state, however many were held, leave a ready state
    pub held_ready : {rounds : List Round} {at : State} → Held b gap st rounds at → IsReadyState b at
    held_ready none = is_ready
    held_ready (then {at = before} held s lazy) = ready_after before (held_ready held) s lazy

    -- a packet of the table at the end was one at the beginning
    pub held_was : {rounds : List Round} {at : State} → Held b gap st rounds at → (q : Packet) → PacketOf at.table q → PacketOf st.table q
    unfolding after_round
    held_was none q of = of
    held_was (then {at = before} held s lazy) q of = held_was held q (packet_was before.table (slots b s before.table) q of)

    -- a packet of the table at the beginning has been sent in time, or is one at the end
    pub sent_or_waiting : {rounds : List Round} {at : State} → Held b gap st rounds at → (q : Packet) → PacketOf st.table q
        → SentInTime rounds q ∨₁ PacketOf at.table q
    sent_or_waiting none q of = Or.inr of
    sent_or_waiting (then {rounds = rounds} {at = before} held s lazy) q of =
        Or.elim ∥∥₁_prop (sent_or_waiting held q of)
        (λ sent. Or.inl (∥∥₁_map sent (λ w. (w.0, mem-append_left (round_at b before s ∷ []) w.1, w.2, w.3))))
        (λ waiting. Or.elim ∥∥₁_prop (this_round before (held_ready held) s lazy q waiting)
        (λ sent. Or.inl ∣ (round_at b before s, mem-append_right rounds mem-cons_self, sent.0, sent.1) ∣₁) Or.inr)

    -- where everything fits at x in the end, every packet due by x has been sent
    sent_unless_later : {rounds : List Round} {at : State} → Held b gap st rounds at → (x : ℕ) → Fits b x at.table
        → (q : Packet) → PacketOf st.table q → q.due ≤ x → SentInTime rounds q
    sent_unless_later {at} held x fits q of early =
        Or.elim ∥∥₁_prop (sent_or_waiting held q of) (λ sent. sent)
        (λ waiting. absurd (lt_irrefl x (lt_of_lt_of_le (packet_due_after b x at.table (held_ready held).ready.table.well_formed fits q waiting) early)))

    end_snoc : (now : ℕ) (rounds : List Round) (r : Round) → end_of now (rounds ++ (r ∷ [])) ≡ r.start + 1
    unfolding end_of
    end_snoc now [] r = refl
    end_snoc now (x ∷ rounds) r = end_snoc (x.start + 1) rounds r

    -- now is the end of the last held round
    pub now_is_end : {rounds : List Round} {at : State} → Held b gap st rounds at → at.now ≡ end_of st.now rounds
    unfolding end_of
    now_is_end none = refl
    now_is_end (then {rounds = rounds} {at = before} held s lazy) = sym (end_snoc st.now rounds (round_at b before s))

    -- every packet due by the end of the last held round has been sent in time
    pub sent_by_the_end : {rounds : List Round} {at : State} → Held b gap st rounds at
        → (q : Packet) → PacketOf st.table q → q.due ≤ end_of st.now rounds → SentInTime rounds q
    sent_by_the_end {at} held q of early =
        let end = (held_ready held).ready in
        sent_unless_later {at = at} held at.now (ready_fits b at.now at.table end) q of (rw (now_is_end held) early)

    -- and where the next lazy start lies past a last start, so that the round is refused, every packet due by one past that last start
    pub sent_by_the_clock : {rounds : List Round} {at : State} → Held b gap st rounds at → (last s : ℕ) → IsLazyStart b at.cap at.table s → last < s
        → (q : Packet) → PacketOf st.table q → q.due ≤ last + 1 → SentInTime rounds q
    sent_by_the_clock {at} held last s lazy past q of early =
        sent_unless_later {at = at} held s (lazy_fits b at.cap at.table positive s lazy) q of (omega arith)
