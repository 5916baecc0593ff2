-- The rounds of a plan, and what they can hold: a plan that serves a table has to send h(t) packets before t.
use Rattle.std.specs.Prelude.{◌≡◌, length}
use Rattle.std.proofs.Common.{subst, lt_irrefl, mul-suc, mul-le-mul_left, length-append}
use Rattle.std.proofs.Math.Logic.Or
use Rattle.std.proofs.Math.Logic.{∥∥₁_elim, ∥∥₁_prop}
use mathlib.Core.List.{List, [], ◌++◌, Mem, mem-append, mem-append_left, mem-append_right, not-mem-nil}
use Prim.Native.Nat.{ℕ, zero, suc, ◌+◌, ◌-◌, ◌*◌, ◌≤◌, ◌<◌}
use Rattle.std.proofs.Math.Bridge.{le_prop}
use Rattle.std.proofs.Math.Nat.{le_trans}
use Rattle.std.proofs.Math.Decide.{dec_lt}
use native.Mathlib.Omega.{arith}
use Rattle.rules.specs.Streams.{Stream, Packet, IsTable}
use Rattle.rules.specs.Demand.{future}
use Rattle.rules.specs.Plans.{Round, IsPlan, Serves}
use Rattle.rules.proofs.Facts.Lists.{no_longer}
use Rattle.rules.proofs.Facts.DuePackets.{due_list, length_due_list, of_due_list, nodup_due_list}

-- the packets of the m rounds from round n on
unfoldable pub rounds_from : (ℕ → Round) → ℕ → ℕ → List Packet
rounds_from plan n zero = []
rounds_from plan n (suc m) = (plan (n + m)).packets ++ rounds_from plan n m

module _ (b moment : ℕ) (plan : ℕ → Round) (is_plan : IsPlan b moment plan) where
  -- m rounds hold at most b × m packets
  pub rounds_room : (n m : ℕ) → length (rounds_from plan n m) ≤ b * m
  unfolding rounds_from
  rounds_room n zero = omega arith
  rounds_room n (suc m) = rw (length-append, mul-suc) (omega (arith, is_plan.room (n + m), rounds_room n m))

  -- starts rise by one a round at least
  starts_rise : (n k : ℕ) → (plan n).start + k ≤ (plan (n + k)).start
  starts_rise n zero = let e : n + 0 ≡ n = omega arith in rw e (omega arith)
  starts_rise n (suc k) = let e : n + suc k ≡ suc (n + k) = omega arith in rw e (omega (arith, starts_rise n k, is_plan.rising (n + k)))

  starts_mono : (m n : ℕ) → m ≤ n → (plan m).start ≤ (plan n).start
  starts_mono m n le = let e : m + (n - m) ≡ n = omega arith in omega (arith, rw e at (starts_rise m (n - m)))

  -- what is sent in one of the rounds is among their packets ..
  pub in_rounds : (n m j : ℕ) → n ≤ j → j < n + m → (q : Packet) → Mem q (plan j).packets → Mem q (rounds_from plan n m)
  unfolding rounds_from
  in_rounds n zero j from below q sent = absurd (lt_irrefl j (omega arith))
  in_rounds n (suc m) j from below q sent = go (λ less. in_rounds n m j from less q sent) (dec_lt j (n + m))
    where
      go : (j < n + m → Mem q (rounds_from plan n m)) → Dec (j < n + m) → Mem q ((plan (n + m)).packets ++ rounds_from plan n m)
      go earlier (yes less) = mem-append_right (plan (n + m)).packets (earlier less)
      go earlier (no last) = let e : j ≡ n + m = omega arith in mem-append_left (rounds_from plan n m) (subst (λ (k : ℕ). Mem q (plan k).packets) e sent)

  -- .. and what is among their packets was released by the last of their starts
  pub of_rounds : (n m : ℕ) (q : Packet) → Mem q (rounds_from plan n (suc m)) → q.release ≤ (plan (n + m)).start
  unfolding rounds_from
  of_rounds n zero q m = Or.elim le_prop (mem-append.0 m) (λ here. (is_plan.ride (n + 0) q here).0) (λ none. absurd (not-mem-nil none))
  of_rounds n (suc m) q mem =
      Or.elim le_prop (mem-append.0 mem) (λ here. (is_plan.ride (n + suc m) q here).0)
      (λ before. le_trans (of_rounds n m q before) (starts_mono (n + m) (n + suc m) (omega arith)))

  -- a packet due by t that the plan sends from round n on lies in the rounds before t
  pub sent_before : (n t : ℕ) (q : Packet) → q.due ≤ t → (j : ℕ) → n ≤ j → Mem q (plan j).packets → Mem q (rounds_from plan n (t - (plan n).start))
  sent_before n t q early j from sent =
      let e : n + (j - n) ≡ j = omega arith in
      let late : (plan n).start + (j - n) ≤ (plan j).start = rw e at (starts_rise n (j - n)) in
      let ride = is_plan.ride j q sent in
      in_rounds n (t - (plan n).start) j from (omega arith) q sent

  -- necessity: a plan from a moment that serves a table keeps the start rule at that moment
  pub served_start_rule : (ss : List Stream) → IsTable ss → Serves plan ss → (t : ℕ) → future ss t ≤ b * (t - moment)
  served_start_rule ss table serves t =
      let within : length (due_list ss t) ≤ length (rounds_from plan 0 (t - (plan 0).start)) =
      no_longer (due_list ss t) (rounds_from plan 0 (t - (plan 0).start)) (nodup_due_list ss table t)
      (λ q m. ∥∥₁_elim m ∥∥₁_prop
      (λ place. let w = of_due_list ss table.well_formed t place in
      ∥∥₁_elim (serves q ∣ w.0 ∣₁) ∥∥₁_prop (λ v. sent_before 0 t q w.1 v.0 (omega arith) v.1))) in
      let room = rounds_room 0 (t - (plan 0).start) in
      let fewer : b * (t - (plan 0).start) ≤ b * (t - moment) = mul-le-mul_left b (omega (arith, is_plan.from_moment)) in
      omega (arith, length_due_list ss t)
