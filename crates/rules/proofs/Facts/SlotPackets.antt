-- The slots said of packets: with every unserved packet due after s no later packet may ride at s, so the slots are the first b of all packets
-- that may ride; and no other list is.
use Rattle.std.specs.Prelude.{◌≡◌, refl, ℕ, zero, suc, ◌≤◌, length}
use Rattle.std.proofs.Math.Path.{sym, subst, subst⁻¹}
use Rattle.std.proofs.Math.Logic.Or
use Rattle.std.proofs.Common.{inl, inr, suc-mul, arith, length-take-le, take_all}
use Rattle.std.proofs.Math.Logic.{∥∥₁_elim, ∥∥₁_prop}
use mathlib.Core.HLevel.{hedberg, ×_prop}
use mathlib.Core.List.Perm
use mathlib.Core.List.Pairwise
use mathlib.Core.List.{List, ◌∷◌, map, Nodup-cons}
use mathlib.Core.List.{Mem, Mem-prop, mem-map, mem-map_of_mem, eq-or-mem_of_mem-cons, dec_mem}
use Rattle.std.proofs.Math.Bridge.{le_prop}
use Rattle.std.proofs.Math.Decide.{dec_le, ℕ_discrete}
use Rattle.std.proofs.Math.ListN.{length-map}
use Rattle.basics.specs.Facts.Sorted.{sorted_unique}
use Rattle.basics.specs.Lexicographic.{Then}
use Rattle.basics.specs.Facts.Lexicographic.{then_rest}
use Rattle.rules.specs.Streams.{Stream, Packet, packet, MayRide, IsTable}
use Rattle.rules.specs.Demand.{DueAfter}
use Rattle.rules.specs.Slots.{ComesBefore, IsRider, IsSlots, riders, in_order, slots}
use Rattle.rules.proofs.Facts.Lists.{no_longer}
use Rattle.rules.proofs.Facts.Equality.{packet_discrete}
use Rattle.rules.proofs.Facts.Slots.{IsChoice, in_order_perm, rider_iff, slots_are_choice}
use Rattle.rules.proofs.Facts.SlotOrder.{before_asym, before_prop, Earlier, slots_in_order, slots_come_first}

differ : (p q : Packet) → ComesBefore p q → p ≡ q → ⊥
differ p q before same = let self = subst (ComesBefore p) (sym same) before in before_asym p p self self

module _ (b s : ℕ) (ss : List Stream) where
  -- of two such lists each lies in the other: one left out of a full list would be one too many in its own
  inside : (qs rs : List Packet) → IsSlots b s ss qs → IsSlots b s ss rs → (q : Packet) → Mem q qs → Mem q rs
  inside qs rs these those q here = go (dec_mem packet_discrete q rs)
    where
      back : (Mem q rs → ⊥) → (r : Packet) → Mem r rs → Mem r qs
      back left r there = at (dec_mem packet_discrete r qs)
        where
          at : Dec (Mem r qs) → Mem r qs
          at (yes m) = m
          at (no out) = absurd (before_asym q r (these.first q r here (those.ride r there) out) (those.first r q there (these.ride q here) left))

      go : Dec (Mem q rs) → Mem q rs
      go (yes there) = there
      go (no left) =
          let more : suc (length rs) ≤ length qs =
          no_longer (q ∷ rs) qs (Nodup-cons.1 (left, Pairwise.imp differ those.ordered))
          (λ p m. Or.elim Mem-prop (eq-or-mem_of_mem-cons m) (λ same. subst (λ (x : Packet). Mem x qs) (sym same) here) (back left p)) in
          absurd (omega (arith, more, those.full q (these.ride q here) left, these.few))

  -- Annex 5.4: there is no second list of slots
  pub slots_unique : (qs rs : List Packet) → IsSlots b s ss qs → IsSlots b s ss rs → qs ≡ rs
  slots_unique qs rs these those =
      sorted_unique (hedberg packet_discrete) ComesBefore before_asym qs rs these.ordered those.ordered
      (inside qs rs these those) (inside rs qs those these)

  -- Annex 12.15: a rider that gets no slot has waited no longer than any packet of its due time that gets one: it was released no earlier
  pub among_equals_longest_first : (qs : List Packet) → IsSlots b s ss qs → (served left : Packet) → Mem served qs → IsRider s ss left
      → (Mem left qs → ⊥) → served.due ≡ left.due → served.release ≤ left.release
  among_equals_longest_first qs is served left here rides out same = go (then_rest same (is.first served left here rides out))
    where
      go : {R : Type 0} → Then served.release left.release R → served.release ≤ left.release
      go (inl less) = omega (arith, less)
      go (inr tie) = omega (arith, tie.0)

module _ (s : ℕ) (ss : List Stream) (table : IsTable ss) (later : DueAfter s ss) where
  -- Annex 5.5: with all unserved packets due after s, no other may ride at s: packet 1 is released no earlier than packet 0 is due
  pub only_first_rides : (x : Stream) → Mem x ss → (k : ℕ) → MayRide (packet x k) s → k ≡ 0
  only_first_rides x m zero rides = refl
  only_first_rides x m (suc k) rides =
      let formed = table.well_formed x m in
      let after = later x m in
      absurd (omega (arith, suc-mul k x.period, rides.0))

  -- so the packets that may ride are the unserved ones of the riders
  rider_is_first : (q : Packet) → IsRider s ss q → Mem q (map (λ (x : Stream). packet x 0) (riders s ss))
  rider_is_first q (of, rides) =
      ∥∥₁_elim of Mem-prop
      (λ (x, m, (k, e)).
      let zeroth = only_first_rides x m k (subst (λ (p : Packet). MayRide p s) e rides) in
      let same : q ≡ packet x 0 = subst (λ (j : ℕ). q ≡ packet x j) zeroth e in
      subst (λ (p : Packet). Mem p (map (λ (y : Stream). packet y 0) (riders s ss))) (sym same)
      (mem-map_of_mem (λ (y : Stream). packet y 0) ((rider_iff s ss x).1 (m, subst (λ (p : Packet). MayRide p s) same rides))))

  as_packets : (x y : Stream) → Earlier x y → ComesBefore (packet x 0) (packet y 0)
  as_packets x y (inl a) = inl (omega arith)
  as_packets x y (inr (a, inl b)) = inr (omega (arith, a), inl (omega arith))
  as_packets x y (inr (a, inr b)) = inr (omega (arith, a), inr (omega (arith, b.0), b.1))

  -- Annex 5.5: and the first b of them are the slots, as `slots` finds them by the unserved packets alone
  pub slots_are_first : (b : ℕ) → IsSlots b s ss (map (λ (x : Stream). packet x 0) (slots b s ss))
  unfolding slots
  slots_are_first b =
      record {
        ride = λ q m. ∥∥₁_elim (mem-map.0 m) (×_prop ∥∥₁_prop (×_prop le_prop le_prop))
            (λ (x, there, e). (∣ (x, choice.inside x there, (0, sym e)) ∣₁, subst (λ (p : Packet). MayRide p s) e (choice.ride x there)));
        ordered = Pairwise.map before_prop (λ (x : Stream). packet x 0) as_packets (slots_in_order s ss table b);
        few = rw length-map choice.few;
        first = first;
        full = λ q rider left. full q rider left (dec_le b (length (in_order (riders s ss))));
      }
    where
      chosen : List Packet
      chosen = map (λ (x : Stream). packet x 0) (slots b s ss)

      choice : IsChoice b s ss (slots b s ss)
      choice = slots_are_choice b s ss table later

      first : (p q : Packet) → Mem p chosen → IsRider s ss q → (Mem q chosen → ⊥) → ComesBefore p q
      first p q here rider left =
          ∥∥₁_elim (mem-map.0 here) (before_prop p q)
          (λ (x, there, e). ∥∥₁_elim (mem-map.0 (rider_is_first q rider)) (before_prop p q)
          (λ (y, rides, f).
          let out : Mem y (slots b s ss) → ⊥ = λ m. left (subst (λ (r : Packet). Mem r chosen) f (mem-map_of_mem (λ (z : Stream). packet z 0) m)) in
          subst (λ (r : Packet). ComesBefore r q) e (subst (ComesBefore (packet x 0)) f (as_packets x y (slots_come_first s ss table b x y there rides out)))))

      full : (q : Packet) → IsRider s ss q → (Mem q chosen → ⊥) → Dec (b ≤ length (in_order (riders s ss))) → length chosen ≡ b
      full q rider left (yes enough) =
          rw (length-map (slots b s ss) (λ (x : Stream). packet x 0)) (omega (arith, length-take-le b (in_order (riders s ss)) enough))
      full q rider left (no few) =
          ∥∥₁_elim (mem-map.0 (rider_is_first q rider)) (hedberg ℕ_discrete (length chosen) b)
          (λ (y, rides, f).
          let whole : slots b s ss ≡ in_order (riders s ss) = take_all b (in_order (riders s ss)) (omega arith) in
          let there : Mem y (slots b s ss) = subst⁻¹ (λ (l : List Stream). Mem y l) whole ((Perm.mem_iff (in_order_perm (riders s ss))).1 rides) in
          absurd (left (subst (λ (r : Packet). Mem r chosen) f (mem-map_of_mem (λ (z : Stream). packet z 0) there))))
