-- The demand rule and the start rule can be decided, of any list of streams, well formed or not.
use Rattle.std.specs.Prelude.{◌≡◌, List, [], ◌∷◌, ℕ, zero, suc, ◌+◌, ◌-◌, ◌*◌, ◌≤◌, ◌<◌, max}
use Rattle.std.proofs.Common.{sym, subst, mul_comm, mul-add, mul-le-mul_left, mul_left_comm, mul-one, mul-pos, arith}
use Rattle.std.proofs.Math.Path.{fun_ext}
use Rattle.std.proofs.Math.Nat.{add-div_right, div-zero, sub-zero}
use Rattle.std.proofs.Math.Decide.{dec_le, dec_lt, map_dec}
use Rattle.basics.specs.Below.{decide_below, decide_implies}
use Rattle.rules.specs.Streams.{Stream, due}
use Rattle.rules.specs.Demand.{packets_by, demand, future, DemandRule, StartRule}
use Rattle.rules.proofs.Facts.Division.{packets_some}
use Rattle.rules.proofs.Facts.CountBy.{count_by_demand, count_by_future}
use Rattle.rules.specs.Ready.{count_by}
use Rattle.rules.proofs.Facts.Busy.{settled}

-- from some time on, f grows by the same in every `frame` units
record Steady (f : ℕ → ℕ) : Type 0 where
  from : ℕ
  frame : ℕ
  gain : ℕ
  positive : 1 ≤ frame
  grows : (t : ℕ) → from ≤ t → f (t + frame) ≡ f t + gain

-- and so by as many times that in any number of frames
frames : (f : ℕ → ℕ) (a : Steady f) (k t : ℕ) → a.from ≤ t → f (t + k * a.frame) ≡ f t + k * a.gain
frames f a zero t on = let e : t + 0 * a.frame ≡ t = omega arith in rw e (omega arith)
frames f a (suc k) t on =
    let e : t + suc k * a.frame ≡ t + k * a.frame + a.frame = omega arith in
    rw e (omega (arith, a.grows (t + k * a.frame) (omega arith), frames f a k t on))

steady_sum : (f g : ℕ → ℕ) → Steady f → Steady g → Steady (λ (t : ℕ). f t + g t)
steady_sum f g a b = record {
  from = max a.from b.from;
  frame = a.frame * b.frame;
  gain = b.frame * a.gain + a.frame * b.gain;
  positive = mul-pos a.positive b.positive;
  grows = λ t on.
      let turned = rw (mul_comm b.frame a.frame) at (frames f a b.frame t (omega arith)) in
      omega (arith, turned, frames g b a.frame t (omega arith));
}

-- with period 0 one packet is due for ever
steady_packets : (p d : ℕ) → Steady (packets_by p d)
steady_packets zero d = record {
  from = d;
  frame = 1;
  gain = 0;
  positive = omega arith;
  grows = λ t on. rw (packets_some 0 d (t + 1) (omega arith), packets_some 0 d t on, div-zero (t + 1 - d), div-zero (t - d));
}
steady_packets (suc p) d = record {
  from = d;
  frame = suc p;
  gain = 1;
  positive = omega arith;
  grows = λ t on.
      let e : t + suc p - d ≡ t - d + suc p = omega arith in
      rw (packets_some (suc p) d (t + suc p) (omega arith), packets_some (suc p) d t on, e, add-div_right (t - d) {k = suc p} (omega arith));
}

steady_count : (first : Stream → ℕ) (ss : List Stream) → Steady (count_by first ss)
unfolding count_by
steady_count first [] = record { from = 0; frame = 1; gain = 0; positive = omega arith; grows = λ t on. omega arith }
steady_count first (s ∷ ss) = steady_sum (packets_by s.period (first s)) (count_by first ss) (steady_packets s.period (first s)) (steady_count first ss)

-- f grows by at most b × frame in a frame, and its first frame settles the bound, or by more, and a later frame breaks it
decide_steady : (f : ℕ → ℕ) → Steady f → (b x : ℕ) → Dec ((t : ℕ) → x < t → f t ≤ b * (t - x))
decide_steady f a b x = go (dec_le a.gain (b * a.frame))
  where
    start : ℕ
    start = max a.from (x + 1)

    settle : a.gain ≤ b * a.frame → ((t : ℕ) → t < start + a.frame → x < t → f t ≤ b * (t - x)) → (t : ℕ) → x < t → f t ≤ b * (t - x)
    settle slow near t later = at (dec_lt t start)
      where
        at : Dec (t < start) → f t ≤ b * (t - x)
        at (yes early) = near t (omega arith) later
        at (no on) =
            settled f b a.frame x start a.positive (omega arith) (λ u after. omega (arith, a.grows u (omega arith)))
            (λ u after close. near u close (omega arith)) t (omega arith)

    bounded : b * a.frame + 1 ≤ a.gain → ((t : ℕ) → x < t → f t ≤ b * (t - x)) → (k : ℕ) → k ≤ b * start
    bounded fast rule k =
        let t : ℕ = start + k * a.frame in
        let room : b * (t - x) ≤ b * start + k * (b * a.frame) =
        rw (mul_left_comm k b a.frame, sym (mul-add b start (k * a.frame))) (mul-le-mul_left {m = t - x} {n = t} b (omega arith)) in
        let more : k * (b * a.frame) + k ≤ k * a.gain = rw (mul-add, mul-one) at (mul-le-mul_left k fast) in
        omega (arith, rule t (omega arith), room, more, frames f a k start (omega arith))

    go : Dec (a.gain ≤ b * a.frame) → Dec ((t : ℕ) → x < t → f t ≤ b * (t - x))
    go (yes slow) =
        map_dec (settle slow) (λ rule t below. rule t)
        (decide_below (λ t. x < t → f t ≤ b * (t - x)) (λ t. decide_implies (dec_lt x t) (dec_le (f t) (b * (t - x)))) (start + a.frame))
    go (no fast) = no (λ rule. omega (arith, bounded (omega arith) rule (b * start + 1)))

-- Whether the demand rule holds can be decided.
pub decide_demand_rule : (b : ℕ) (ss : List Stream) → Dec (DemandRule b ss)
decide_demand_rule b ss =
    subst (λ (room : ℕ → ℕ). Dec ((t : ℕ) → 1 ≤ t → demand ss t ≤ b * room t)) (fun_ext sub-zero)
    (decide_steady (demand ss) (subst Steady (fun_ext (count_by_demand ss)) (steady_count (λ (s : Stream). s.deadline) ss)) b 0)

-- Whether the start rule holds can be decided.
pub decide_start_rule : (b now : ℕ) (ss : List Stream) → Dec (StartRule b now ss)
decide_start_rule b now ss = decide_steady (future ss) (subst Steady (fun_ext (count_by_future ss)) (steady_count due ss)) b now
