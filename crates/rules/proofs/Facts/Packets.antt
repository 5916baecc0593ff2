-- The packets of a table before and after a round: those sent are gone, and nothing else is.
use Rattle.std.specs.Prelude.{◌≡◌, refl, ℕ, zero, suc, ◌+◌, ◌-◌, ◌*◌, ◌≤◌, ◌<◌, length}
use Rattle.std.proofs.Common.{sym, ap, subst, ◌∙◌, suc-mul, add-mul, mul-zero, arith}
use Rattle.std.proofs.Math.Path.{subst⁻¹}
use Rattle.std.proofs.Math.Logic.Or
use Rattle.std.proofs.Math.Logic.{◌∨₁◌, ∥∥₁_elim, ∥∥₁_prop}
use mathlib.Core.HLevel.{⊥_prop}
use mathlib.Core.List.{List, Mem, map, mem-map, mem-map_of_mem}
use mathlib.Mathlib.Data.List.Nodup.{inj_on_of_Nodup-map}
use Rattle.std.proofs.Math.Decide.{dec_lt}
use Rattle.rules.specs.Streams.{Stream, Packet, packet, IsTable, PacketOf}
use Rattle.rules.specs.Demand.{future}
use Rattle.rules.specs.Slots.{next, passed}
use Rattle.rules.proofs.Facts.Sums.{period_positive}
use Rattle.rules.specs.Ready.{AllWellFormed, Fits}
use Rattle.rules.proofs.Facts.Lists.{mem_nonempty}
use Rattle.rules.proofs.Facts.Equality.{packet_path, stream_set}
use Rattle.rules.proofs.Facts.DuePackets.{due_list, length_due_list, in_due_list}
use Rattle.rules.proofs.Facts.RoundKept.{passed_table, passed_elim, served_iff}

-- packet k after the next is packet k + 1
packet_next : (s : Stream) (k : ℕ) → packet (next s) k ≡ packet s (suc k)
packet_next s k =
    packet_path (packet (next s) k) (packet s (suc k)) refl (omega (arith, suc-mul k s.period)) (omega (arith, suc-mul k s.period))

-- the stream with its first k packets sent
abbrev pub advanced : ℕ → Stream → Stream
advanced k s = record { number = s.number; period = s.period; deadline = s.deadline; release = s.release + k * s.period }

-- with no packet sent it is the stream as it was ..
pub advanced_none : (s : Stream) → advanced 0 s ≡ s
advanced_none s =
    let e : s.release + 0 * s.period ≡ s.release = omega arith in
    λ i. record { number = s.number; period = s.period; deadline = s.deadline; release = e i }

-- .. and with k packets sent and then the next one, k + 1 are sent
pub advanced_next : (s : Stream) (k : ℕ) → next (advanced k s) ≡ advanced (k + 1) s
advanced_next s k =
    let e : s.release + k * s.period + s.period ≡ s.release + (k + 1) * s.period = omega (arith, add-mul k 1 s.period) in
    λ i. record { number = s.number; period = s.period; deadline = s.deadline; release = e i }

-- its packet j is packet k + j
pub packet_advanced : (s : Stream) (k j : ℕ) → packet (advanced k s) j ≡ packet s (k + j)
packet_advanced s k j =
    packet_path (packet (advanced k s) j) (packet s (k + j)) refl (omega (arith, add-mul k j s.period)) (omega (arith, add-mul k j s.period))

-- where everything fits at x, every packet of the table is due after x
pub packet_due_after : (b x : ℕ) (ss : List Stream) → AllWellFormed ss → Fits b x ss → (q : Packet) → PacketOf ss q → x < q.due
packet_due_after b x ss all fits q of = go (dec_lt x q.due)
  where
    go : Dec (x < q.due) → x < q.due
    go (yes after) = after
    go (no by) =
        let none : q.due - x ≡ 0 = omega arith in
        let bound : future ss q.due ≤ 0 = rw (none, mul-zero) at (fits q.due) in
        let some : 1 ≤ length (due_list ss q.due) = mem_nonempty (due_list ss q.due) q (in_due_list ss all q.due q of (omega arith)) in
        omega (arith, length_due_list ss q.due)

module _ (ss chosen : List Stream) where
  -- a packet of the table after the round was one before it
  pub packet_was : (q : Packet) → PacketOf (passed_table chosen ss) q → PacketOf ss q
  packet_was q of =
      ∥∥₁_elim of ∥∥₁_prop
      (λ w. ∥∥₁_elim (mem-map.0 w.1) ∥∥₁_prop
      (λ v. passed_elim chosen (λ y. (k : ℕ) → q ≡ packet y k → PacketOf ss q) v.0
      (λ here k e. ∣ (v.0, v.1, (suc k, e ∙ packet_next v.0 k)) ∣₁)
      (λ not_here k e. ∣ (v.0, v.1, (k, e)) ∣₁)
      w.2.0 (subst⁻¹ (λ (y : Stream). q ≡ packet y w.2.0) v.2 w.2.1)))

  module _ (table : IsTable ss) (inside : (x : Stream) → Mem x chosen → Mem x ss) where
    -- a packet of the table before the round is sent in it, or is still one after it
    pub sent_or_left : (q : Packet) → PacketOf ss q → Mem q (map (λ (x : Stream). packet x 0) chosen) ∨₁ PacketOf (passed_table chosen ss) q
    sent_or_left q of =
        ∥∥₁_elim of ∥∥₁_prop
        (λ (x, in_table, (k, e)). passed_elim chosen (λ y. Mem y (passed_table chosen ss) → SentOrLeft) x
        (λ here m. first_or_later x k e ((served_iff ss chosen table inside x in_table).0 here) m)
        (λ not_here m. Or.inr ∣ (x, m, (k, e)) ∣₁)
        (mem-map_of_mem (passed chosen) in_table))
      where
        SentOrLeft : Type 0
        SentOrLeft = Mem q (map (λ (x : Stream). packet x 0) chosen) ∨₁ PacketOf (passed_table chosen ss) q

        first_or_later : (x : Stream) (k : ℕ) → q ≡ packet x k → Mem x chosen → Mem (next x) (passed_table chosen ss) → SentOrLeft
        first_or_later x zero e there m = Or.inl (rw e (mem-map_of_mem (λ (x : Stream). packet x 0) there))
        first_or_later x (suc k) e there m = Or.inr ∣ (next x, m, (k, e ∙ sym (packet_next x k))) ∣₁

    -- a packet sent in the round is none of the table after it
    pub sent_is_gone : (q : Packet) → Mem q (map (λ (x : Stream). packet x 0) chosen) → PacketOf (passed_table chosen ss) q → ⊥
    sent_is_gone q sent left =
        ∥∥₁_elim (mem-map.0 sent) ⊥_prop
        (λ v. ∥∥₁_elim left ⊥_prop
        (λ w. ∥∥₁_elim (mem-map.0 w.1) ⊥_prop
        (λ u. clash v.0 v.1 (sym v.2) u.0 u.1 w.2.0 (subst⁻¹ (λ (y : Stream). q ≡ packet y w.2.0) u.2 w.2.1))))
      where
        same : (x : Stream) → Mem x chosen → (y : Stream) → Mem y ss → x.number ≡ y.number → x ≡ y
        same x there y m e = inj_on_of_Nodup-map stream_set (λ (z : Stream). z.number) table.differ x (inside x there) y m e

        clash : (x : Stream) → Mem x chosen → q ≡ packet x 0 → (y : Stream) → Mem y ss → (k : ℕ) → q ≡ packet (passed chosen y) k → ⊥
        clash x there first y m k =
            passed_elim chosen (λ z. q ≡ packet z k → ⊥) y
            (λ here e.
            let path : packet x 0 ≡ packet (next y) k = sym first ∙ e in
            let x_y : x ≡ y = same x there y m (ap (λ (z : Packet). z.number) path) in
            let released : x.release + 0 * x.period ≡ y.release + y.period + k * y.period = ap (λ (z : Packet). z.release) path in
            let still : x.release ≡ y.release = ap (λ (z : Stream). z.release) x_y in
            omega (arith, period_positive y (table.well_formed y m)))
            (λ not_here e.
            let x_y : x ≡ y = same x there y m (ap (λ (z : Packet). z.number) (sym first ∙ e)) in
            not_here (mem-map_of_mem (λ (z : Stream). z.number) (subst (λ (z : Stream). Mem z chosen) x_y there)))
