-- Demand 3: no packet late, and no plan with fewer rounds. Annex, chapter 12.
use mathlib.Core.List.{List, Mem}
use Rattle.std.specs.Prelude.{ℕ, ◌+◌, ◌≤◌, ◌<◌, length}
use Rattle.basics.specs.Limits.{last_start}
use Rattle.rules.specs.Streams.{Stream, packet}
use Rattle.rules.specs.Plans.{Round}
use Rattle.table.specs.Changes.{HasId}
use Rattle.state.specs.Content.{Content, content, now_of, streams_in}
use Rattle.state.specs.Sound.{Sound}
use Rattle.state.specs.declared.Planner.{Planner}
use Rattle.demands.specs.CallLists.{HeldRound, Calls, ClockEnded, times_sent, IsSentInTime, end_of, start_of}
use Rattle.demands.specs.Rivals.{IsRivalOf}

-- Annex 1.4, 12.10, 12.11, 12.12, 12.13: sent in time are the packets due by the end of the last round, after a 17 those due by the clock's end, and
-- all that were sent at all; no rival's round k starts after the held one; and every id in a held round is that of a record. Packet 0 of a stream is the
-- one unserved where the list begins.
pub record Kept (h : Content) {p q : Planner} {rounds : List HeldRound} (calls : Calls p rounds q) : Type 0 where
  pub by_the_end : (s : Stream) → Mem s (streams_in h) → (m : ℕ) → (packet s m).due ≤ end_of (now_of h) rounds → IsSentInTime rounds s m
  pub by_the_clock : ClockEnded calls → (s : Stream) → Mem s (streams_in h) → (m : ℕ) → (packet s m).due ≤ last_start + 1 → IsSentInTime rounds s m
  pub fewest : (plan : ℕ → Round) → IsRivalOf h plan → (k : ℕ) → k < length rounds → (plan k).start ≤ start_of rounds k
  pub none_wasted : (s : Stream) → Mem s (streams_in h) → (m : ℕ) → m < times_sent s.number rounds → IsSentInTime rounds s m
  pub of_streams : (r : HeldRound) → Mem r rounds → (id : ℕ) → Mem id r.ids → HasId id h.table

-- Annex 12.6, 12.10: demand 3: all this of every sound planner, with or without a stream, and every such list of calls from there.
abbrev pub Demand3 : Type 1
Demand3 = (p : Planner) → Sound p → (rounds : List HeldRound) (q : Planner) (calls : Calls p rounds q) → Kept (content p) calls
