-- Worked examples, computed by the checker: three rounds, tables on the edge, and ties.
use Rattle.std.specs.Prelude.{◌≡◌, refl, List, [], ◌∷◌, ◌++◌, map, ℕ, zero, suc, ◌+◌, ◌≤◌}
use Rattle.std.proofs.Math.Bool.{So}
use Rattle.std.proofs.Math.Logic.Dec.{and as Dec-and}
use Rattle.std.proofs.Common.{lt_irrefl, arith}
use Rattle.std.proofs.Math.Decide.{dec_le, dec_lt, ℕ_discrete}
use Rattle.rules.specs.Streams.{Stream}
use Rattle.rules.specs.Demand.{packets_by, demand, future, DemandRule, StartRule}
use Rattle.rules.specs.Slots.{riders, goes_before, put_in_order, in_order, slots, after_round}
use Rattle.rules.specs.Runs.{State, IsLazyRun}
use Rattle.rules.proofs.Facts.LazyStart.{least_of, latest, lazy_start, first_due}
use Rattle.rules.proofs.Facts.LazyRun.{start_from, lazy_state, lazy_starts, lazy_run_exists}
use Rattle.rules.specs.Ready.{IsReady}
use Rattle.rules.proofs.Facts.Tests.{is_table, is_busy, keeps_demand, is_ready, tested_demand, tested_ready, is_ready_busy}

-- A stream by number, S, P and D.
unfoldable pub stream : ℕ → ℕ → ℕ → ℕ → Stream
stream number s p d = record { number = number; period = p; deadline = d; release = s }

-- The state of a planner opened at T with gap G, with these streams. The cap is L + 1 + G.
unfoldable pub opened : ℕ → ℕ → List Stream → State
unfolding stream
opened T G ss = record { now = T + 1; cap = T + 1 + G; table = ss }

-- A round, as its start and the numbers in its slots.
pub record Line : Type 0 where
  pub start : ℕ
  pub numbers : List ℕ

-- Round n of the lazy run with B = b and gap G. G is counted from the end of a round: from start to start it is at most G + 1.
unfoldable pub line : ℕ → ℕ → ℕ → State → ℕ → Line
unfolding lazy_starts lazy_state start_from lazy_start least_of latest first_due future packets_by
    slots in_order put_in_order goes_before riders after_round dec_lt Dec-and ℕ_discrete
line b G T st n =
    let start = lazy_starts b (G + 1) T st n in
    record { start = start; numbers = map (λ (x : Stream). x.number) (slots b start (lazy_state b (G + 1) T st n).table) }

-- The starts that `line` lists are those of lazy rounds for ever.
abbrev pub ListsLazyRun : ℕ → ℕ → ℕ → State → Type 0
ListsLazyRun b G T st = IsLazyRun b (G + 1) st (lazy_starts b (G + 1) T st)

-- So they are from a state that the tests find ready.
lazy_from : (b G T : ℕ) (st : State) → 1 ≤ b → So (is_ready b st.now st.table T) → st.now ≤ st.cap → ListsLazyRun b G T st
lazy_from b G T st positive tested open_cap =
    lazy_run_exists b (G + 1) T positive (omega arith) st
    (record { ready = tested_ready b st.now T st.table tested; open_cap = open_cap })
    (is_ready_busy b st.now T st.table tested)

-- The planner after the commands O,2,6,6,0 / A,1,1,3,2 / A,2,1,6,6 / A,3,2,6,5.
unfoldable pub three_streams : State
unfolding opened
three_streams = opened 0 6 (stream 1 1 3 2 ∷ stream 2 1 6 6 ∷ stream 3 2 6 5 ∷ [])

-- Its rounds are R,0,2,2,1,2 / R,0,5,2,1,3 / R,0,8,2,1,2.
pub three_rounds : map (line 2 6 2 three_streams) (0 ∷ 1 ∷ 2 ∷ [])
    ≡ record { start = 2; numbers = 1 ∷ 2 ∷ [] } ∷ record { start = 5; numbers = 1 ∷ 3 ∷ [] } ∷ record { start = 8; numbers = 1 ∷ 2 ∷ [] } ∷ []
unfolding three_streams line
three_rounds = refl

-- the starts 2, 5, 8 and so on, looked for with the busy length 2, are those of lazy rounds for ever
pub three_rounds_lazy : ListsLazyRun 2 6 2 three_streams
unfolding three_streams is_ready
three_rounds_lazy = lazy_from 2 6 2 three_streams (omega arith) refl (omega arith)

-- With B = 1, F = 2, G = 9 and T = 0 stream 1 with S, P, D = 1, 2, 1 goes in, and stream 2 with 2, 2, 1 gets 12.
pub first_fits : DemandRule 1 (stream 1 1 2 1 ∷ [])
unfolding stream is_table is_busy keeps_demand
first_fits = tested_demand 1 2 (stream 1 1 2 1 ∷ []) refl refl refl

-- with stream 2 the demand rule is broken: the demand of the length 1 is 2, above 1 × 1
pub second_breaks_demand : DemandRule 1 (stream 1 1 2 1 ∷ stream 2 2 2 1 ∷ []) → ⊥
unfolding stream demand packets_by dec_le
second_breaks_demand rule = lt_irrefl 1 (rule 1 (omega arith))

-- With B = 1, F = 10, G = 20 and T = 0, and streams 1 and 2 both with 1, 10, 10, the round at 9 sends 1.
unfoldable pub two_alike : State
unfolding opened
two_alike = opened 0 20 (stream 1 1 10 10 ∷ stream 2 1 10 10 ∷ [])

-- two packets are due at 11, so the round starts at 9, and it sends 1: with due time and release equal the smaller id goes first
pub two_alike_round : line 1 20 2 two_alike 0 ≡ record { start = 9; numbers = 1 ∷ [] }
unfolding two_alike line
two_alike_round = refl

-- The table after that round, at now = 10.
unfoldable pub one_sent : List Stream
unfolding two_alike after_round slots in_order put_in_order goes_before riders Dec-and ℕ_discrete
one_sent = after_round 1 9 two_alike.table

-- Then stream 3 with 10, 10, 1 gets 13: the demand rule holds and the start rule does not.
pub third_keeps_demand : DemandRule 1 (one_sent ++ (stream 3 10 10 1 ∷ []))
unfolding one_sent is_table is_busy keeps_demand
third_keeps_demand = tested_demand 1 3 (one_sent ++ (stream 3 10 10 1 ∷ [])) refl refl refl

-- at 10 the start rule is broken: streams 2 and 3 are both due at 11, and h(11) = 2 is above 1 × (11 - 10)
pub third_breaks_start : StartRule 1 10 (one_sent ++ (stream 3 10 10 1 ∷ [])) → ⊥
unfolding one_sent future packets_by dec_le
third_breaks_start rule = lt_irrefl 1 (rule 11 (omega arith))

-- With 11, 10, 1 it gets 0: one unit later both rules hold.
pub third_fits_later : IsReady 1 10 (one_sent ++ (stream 3 11 10 1 ∷ []))
unfolding one_sent is_ready
third_fits_later = tested_ready 1 10 3 (one_sent ++ (stream 3 11 10 1 ∷ [])) refl

-- Streams that are all due at 9, the larger ids released earlier.
unfoldable pub due_together : State
unfolding opened
due_together = opened 0 20 (stream 1 5 12 4 ∷ stream 2 3 12 6 ∷ stream 3 1 12 8 ∷ [])

-- They go by release, and by id alone would go 1, 2, 3.
pub by_release : map (line 1 20 3 due_together) (0 ∷ 1 ∷ 2 ∷ [])
    ≡ record { start = 6; numbers = 3 ∷ [] } ∷ record { start = 7; numbers = 2 ∷ [] } ∷ record { start = 8; numbers = 1 ∷ [] } ∷ []
unfolding due_together line
by_release = refl

-- the starts 6, 7, 8 and so on, looked for with the busy length 3, are those of lazy rounds for ever
pub by_release_lazy : ListsLazyRun 1 20 3 due_together
unfolding due_together is_ready
by_release_lazy = lazy_from 1 20 3 due_together (omega arith) refl (omega arith)

-- In one round they are listed so too: with two slots 3 and 2, then 1.
pub listed_by_release : map (line 2 20 2 due_together) (0 ∷ 1 ∷ []) ≡ record { start = 7; numbers = 3 ∷ 2 ∷ [] } ∷ record { start = 8; numbers = 1 ∷ [] } ∷ []
unfolding due_together line
listed_by_release = refl

-- Three that differ in the id alone go by smaller id, whatever their places in the table.
unfoldable pub three_alike : State
unfolding opened
three_alike = opened 0 20 (stream 9 1 12 8 ∷ stream 4 1 12 8 ∷ stream 7 1 12 8 ∷ [])

-- with one slot each, rounds at 6, 7 and 8 send 4, 7 and 9, which stand in the table as 9, 4, 7
pub by_number : map (line 1 20 3 three_alike) (0 ∷ 1 ∷ 2 ∷ [])
    ≡ record { start = 6; numbers = 4 ∷ [] } ∷ record { start = 7; numbers = 7 ∷ [] } ∷ record { start = 8; numbers = 9 ∷ [] } ∷ []
unfolding three_alike line
by_number = refl

-- With B = 1, F = 240, G = 20 and T = 0, and one stream with 1, 240, 240: rounds at 21, with it, and at 42, with no slot.
unfoldable pub long_period : State
unfolding opened
long_period = opened 0 20 (stream 1 1 240 240 ∷ [])

-- both starts are the cap: at 21 stream 1 rides, due only at 241, and at 42 its next packet is not released
pub long_period_rounds : map (line 1 20 1 long_period) (0 ∷ 1 ∷ []) ≡ record { start = 21; numbers = 1 ∷ [] } ∷ record { start = 42; numbers = [] } ∷ []
unfolding long_period line
long_period_rounds = refl

-- the starts 21, 42 and so on, looked for with the busy length 1, are those of lazy rounds for ever
pub long_period_lazy : ListsLazyRun 1 20 1 long_period
unfolding long_period is_ready
long_period_lazy = lazy_from 1 20 1 long_period (omega arith) refl (omega arith)

-- With T = 999,999,999, B = 1, F = 1 and G = 1, and one stream with 1,000,000,000, 1, 1: a round, then 17, since the next start is past 1,000,000,000.
unfoldable pub clock_end : State
unfolding opened
clock_end = opened 999_999_999 1 (stream 1 1_000_000_000 1 1 ∷ [])

-- the rules know no clock: stream 1 rides at 1,000,000,000 and at 1,000,000,001, the start that gets 17
pub clock_end_rounds : map (line 1 1 1 clock_end) (0 ∷ 1 ∷ [])
    ≡ record { start = 1_000_000_000; numbers = 1 ∷ [] } ∷ record { start = 1_000_000_001; numbers = 1 ∷ [] } ∷ []
unfolding clock_end line
clock_end_rounds = refl

-- the starts 1,000,000,000, 1,000,000,001 and so on, looked for with the busy length 1, are those of lazy rounds for ever
pub clock_end_lazy : ListsLazyRun 1 1 1 clock_end
unfolding clock_end is_ready
clock_end_lazy = lazy_from 1 1 1 clock_end (omega arith) refl (omega arith)

-- count streams of the same S, P and D, numbered from `number` on
unfoldable pub alike : ℕ → ℕ → ℕ → ℕ → ℕ → List Stream
unfolding stream
alike zero number s p d = []
alike (suc count) number s p d = stream number s p d ∷ alike count (number + 1) s p d

-- With B = 5, F = 100, G = 20 and T = 0, nine streams with 8, 4, 3 and then seven with 1, 25, 2: the first fifteen go in, and the sixteenth gets 12
-- (the Blink paper, figure 9).
pub fifteen_fit : IsReady 5 1 (alike 9 1 8 4 3 ++ alike 6 10 1 25 2)
unfolding alike is_ready
fifteen_fit = tested_ready 5 1 3 (alike 9 1 8 4 3 ++ alike 6 10 1 25 2) refl

-- with the sixteenth the demand rule is broken: the demand of the length 3 is 9 + 7 = 16, above 5 × 3
pub sixteenth_breaks_demand : DemandRule 5 (alike 9 1 8 4 3 ++ alike 7 10 1 25 2) → ⊥
unfolding alike demand packets_by dec_le
sixteenth_breaks_demand rule = lt_irrefl 15 (rule 3 (omega arith))
