-- The packets of a table due by t, as a list: as long as h(t), without repeats, and just those packets.
use Rattle.std.specs.Prelude.{◌≡◌, refl, ◌⊎◌, ℕ, zero, suc, ◌+◌, ◌*◌, ◌≤◌, ◌<◌, length}
use Rattle.std.proofs.Common.{sym, ap, subst, ◌∙◌, inl, inr, mul-le-mul_right, arith, length-append}
use Rattle.std.proofs.Math.Path.{subst⁻¹}
use Rattle.std.proofs.Math.Logic.{∥∥₁_elim, ∥∥₁_prop}
use mathlib.Core.HLevel.{⊥_prop}
use mathlib.Core.List.{List, [], ◌∷◌, ◌++◌, map, Mem, mem-cons_self, mem-cons_of_mem, mem-append_left, mem-append_right, mem-map_of_mem}
use mathlib.Core.List.Memᴰ
use mathlib.Core.List.{Memᴰ}
use mathlib.Core.List.{Nodup, Nodup-nil, Nodup-cons, Nodup-append}
use Rattle.std.proofs.Math.Decide.{dec_lt}
use Rattle.rules.specs.Streams.{Stream, Packet, packet, due, WellFormed, IsTable, PacketOf}
use Rattle.rules.specs.Demand.{packets_by, future}
use Rattle.rules.proofs.Facts.Division.{counted_iff_due}
use Rattle.rules.proofs.Facts.Sums.{first_of, rest_of, period_positive}
use Rattle.rules.specs.Ready.{AllWellFormed}

-- packets 0 to n - 1 of a stream
unfoldable pub first_packets : Stream → ℕ → List Packet
first_packets s zero = []
first_packets s (suc n) = packet s n ∷ first_packets s n

length_first : (s : Stream) (n : ℕ) → length (first_packets s n) ≡ n
unfolding first_packets
length_first s zero = refl
length_first s (suc n) = ap suc (length_first s n)

of_first : (s : Stream) (n : ℕ) {q : Packet} → Memᴰ q (first_packets s n) → (k : ℕ) × (k < n) × (q ≡ packet s k)
unfolding first_packets
of_first s zero m = absurd (Memᴰ.not-nil m)
of_first s (suc n) m = go (λ m'. of_first s n m') (Memᴰ.cases_cons m)
  where
    go : {q : Packet} → (Memᴰ q (first_packets s n) → (k : ℕ) × (k < n) × (q ≡ packet s k))
        → (q ≡ packet s n) ⊎ Memᴰ q (first_packets s n) → (k : ℕ) × (k < suc n) × (q ≡ packet s k)
    go below (inl e) = (n, omega arith, e)
    go below (inr m') = let w = below m' in (w.0, omega (arith, w.1), w.2)

in_first : (s : Stream) (n k : ℕ) → k < n → Mem (packet s k) (first_packets s n)
unfolding first_packets
in_first s zero k below = elim below [ ]
in_first s (suc n) k below = go (λ l. in_first s n k l) (dec_lt k n)
  where
    go : (k < n → Mem (packet s k) (first_packets s n)) → Dec (k < n) → Mem (packet s k) (packet s n ∷ first_packets s n)
    go earlier (yes l) = mem-cons_of_mem (packet s n) (earlier l)
    go earlier (no l) = let e : k ≡ n = omega arith in rw e mem-cons_self

nodup_first : (s : Stream) (n : ℕ) → 1 ≤ s.period → Nodup (first_packets s n)
unfolding first_packets
nodup_first s zero positive = Nodup-nil
nodup_first s (suc n) positive = Nodup-cons.1 ((λ m. ∥∥₁_elim m ⊥_prop new), nodup_first s n positive)
  where
    new : Memᴰ (packet s n) (first_packets s n) → ⊥
    new m =
        let w = of_first s n m in
        let same : s.release + n * s.period ≡ s.release + w.0 * s.period = ap (λ (q : Packet). q.release) w.2 in
        omega (arith, mul-le-mul_right s.period w.1)

-- the packets of a table due by t
unfoldable pub due_list : List Stream → ℕ → List Packet
due_list [] t = []
due_list (s ∷ ss) t = first_packets s (packets_by s.period (due s) t) ++ due_list ss t

-- there are h(t) of them
pub length_due_list : (ss : List Stream) (t : ℕ) → length (due_list ss t) ≡ future ss t
unfolding due_list future
length_due_list [] t = refl
length_due_list (s ∷ ss) t =
    rw (length-append, length_first s (packets_by s.period (due s) t), length_due_list ss t)

-- each is a packet of the table that is due by t ..
pub of_due_list : (ss : List Stream) → AllWellFormed ss → (t : ℕ) {q : Packet} → Memᴰ q (due_list ss t)
    → ((s : Stream) × Mem s ss × ((k : ℕ) × (q ≡ packet s k))) × (q.due ≤ t)
unfolding due_list
of_due_list [] all t m = absurd (Memᴰ.not-nil m)
of_due_list (s ∷ ss) all t m = go (λ m'. of_due_list ss (rest_of all) t m') (Memᴰ.append_cases (first_packets s (packets_by s.period (due s) t)) m)
  where
    go : {q : Packet} → (Memᴰ q (due_list ss t) → ((x : Stream) × Mem x ss × ((k : ℕ) × (q ≡ packet x k))) × (q.due ≤ t))
        → Memᴰ q (first_packets s (packets_by s.period (due s) t)) ⊎ Memᴰ q (due_list ss t)
        → ((x : Stream) × Mem x (s ∷ ss) × ((k : ℕ) × (q ≡ packet x k))) × (q.due ≤ t)
    go below (inl m') =
        let w = of_first s (packets_by s.period (due s) t) m' in
        let counted = (counted_iff_due s.period (period_positive s (first_of all)) (due s) t w.0).0 w.1 in
        ((s, mem-cons_self, (w.0, w.2)), subst⁻¹ (λ (x : Packet). x.due ≤ t) w.2 (omega (arith, counted)))
    go below (inr m') =
        let w = below m' in ((w.0.0, mem-cons_of_mem s w.0.1, w.0.2), w.1)

-- .. and each of those is there
pub in_due_list : (ss : List Stream) → AllWellFormed ss → (t : ℕ) (q : Packet) → PacketOf ss q → q.due ≤ t → Mem q (due_list ss t)
unfolding due_list
in_due_list ss all t q of early =
    ∥∥₁_elim of ∥∥₁_prop
    (λ (s, m, (k, e)). ∥∥₁_elim m ∥∥₁_prop
    (λ place. rw e (go s k (subst (λ (x : Packet). x.due ≤ t) e early) ss all place)))
  where
    go : (s : Stream) (k : ℕ) → (packet s k).due ≤ t → (ss : List Stream) → AllWellFormed ss → Memᴰ s ss → Mem (packet s k) (due_list ss t)
    go s k in_time [] all x'' = elim x'' [ ]
    go s k in_time (x ∷ xs) all (Memᴰ.head e) =
        mem-append_left (due_list xs t)
        (subst (λ (y : Stream). Mem (packet s k) (first_packets y (packets_by y.period (due y) t))) e
        (in_first s (packets_by s.period (due s) t) k
        ((counted_iff_due s.period (period_positive s (subst⁻¹ WellFormed e (first_of all))) (due s) t k).1 (omega (arith, in_time)))))
    go s k in_time (x ∷ xs) all (Memᴰ.tail place) =
        mem-append_right (first_packets x (packets_by x.period (due x) t)) (go s k in_time xs (rest_of all) place)

-- in the list of a table none of them stands twice
pub nodup_due_list : (ss : List Stream) → IsTable ss → (t : ℕ) → Nodup (due_list ss t)
unfolding due_list
nodup_due_list ss table t = go ss table.well_formed table.differ
  where
    apart : (s : Stream) (ss : List Stream) → AllWellFormed (s ∷ ss) → (Mem s.number (map (λ (x : Stream). x.number) ss) → ⊥)
        → (q : Packet) → Mem q (first_packets s (packets_by s.period (due s) t)) → Mem q (due_list ss t) → ⊥
    apart s ss all new q m m' =
        ∥∥₁_elim m ⊥_prop
        (λ here. ∥∥₁_elim m' ⊥_prop
        (λ there.
        let a = of_first s (packets_by s.period (due s) t) here in
        let b = of_due_list ss (rest_of all) t there in
        let same : b.0.0.number ≡ s.number = sym (ap (λ (x : Packet). x.number) b.0.2.1) ∙ ap (λ (x : Packet). x.number) a.2 in
        new (subst (λ (n : ℕ). Mem n (map (λ (x : Stream). x.number) ss)) same (mem-map_of_mem (λ (x : Stream). x.number) b.0.1))))

    go : (ss : List Stream) → AllWellFormed ss → Nodup (map (λ (x : Stream). x.number) ss) → Nodup (due_list ss t)
    go [] all differ = Nodup-nil
    go (s ∷ ss) all differ =
        let split = Nodup-cons.0 differ in
        Nodup-append.1
        (nodup_first s (packets_by s.period (due s) t) (period_positive s (first_of all)), go ss (rest_of all) split.1, apart s ss all split.0)
