-- Rivals of a table without streams.
use Rattle.std.specs.Prelude.{◌≡◌, ℕ, ◌≤◌, ◌<◌}
use Rattle.std.proofs.Math.Logic.{∥∥₁_elim}
use mathlib.Core.HLevel.{⊥_prop}
use mathlib.Core.List.{[], Nodup-nil, not-mem-nil}
use Rattle.std.proofs.Common.{lt_irrefl, lt_of_lt_of_le, arith}
use Rattle.rules.specs.Streams.{Packet, PacketOf}
use Rattle.rules.specs.Plans.{Round, IsPlan}
use Rattle.table.specs.Facts.Streams.{none_seen}
use Rattle.state.specs.Content.{Content, now_of, slots_of, streams_in}
use Rattle.demands.specs.Rivals.{KeepsGapOf, IsRivalOf, forced_start, forced_rounds}

-- Annex 12.14: with no stream every plan from now that keeps the gap limit is a rival.
pub rival_without_streams : (h : Content) → h.table ≡ [] → (plan : ℕ → Round) → IsPlan (slots_of h) (now_of h) plan → KeepsGapOf h plan
    → IsRivalOf h plan
rival_without_streams h empty plan is_plan keeps_gap = record { is_plan = is_plan; serves = λ one is. absurd (none_of one is); keeps_gap = keeps_gap }
  where
    none_of : (one : Packet) → PacketOf (streams_in h) one → ⊥
    none_of one is = ∥∥₁_elim is ⊥_prop (λ w. not-mem-nil (rw (empty, none_seen) at w.1))

-- Annex 12.14: with no stream the rounds that only the gap forces are a rival ..
pub forced_is_rival : (h : Content) → h.table ≡ [] → IsRivalOf h (forced_rounds h)
unfolding forced_start
forced_is_rival h empty =
    rival_without_streams h empty (forced_rounds h)
    (record {
      from_moment = omega arith;
      rising = λ n. omega arith;
      room = λ n. omega arith;
      ride = λ n q m. absurd (not-mem-nil m);
      once = λ n. Nodup-nil;
      never_again = λ m n q here there. absurd (not-mem-nil here);
    })
    (record { first = omega arith; later = λ n. omega arith })

-- Annex 12.14: .. so that whoever holds a round earlier loses demand 3. The first one at L + G, which is before L + 1 + G, would be early.
pub earlier_loses : (h : Content) → h.table ≡ [] → (k s : ℕ) → s < forced_start h k → ((plan : ℕ → Round) → IsRivalOf h plan → (plan k).start ≤ s) → ⊥
earlier_loses h empty k s early fewest = lt_irrefl s (lt_of_lt_of_le early (fewest (forced_rounds h) (forced_is_rival h empty)))
