-- The rivals of a planner, by what it holds, and with no stream the one whose rounds only the gap forces.
use Rattle.std.specs.Prelude.{[], ℕ, zero, suc, ◌+◌}
use Rattle.rules.specs.Plans.{Round, KeepsGap, IsRival}
use Rattle.state.specs.Content.{Content, now_of, cap_of, start_gap_of, slots_of, streams_in}

-- Annex 6.3: a plan keeps the gap limit if its first start is at most L + 1 + G and each later one at most G after the end of the round before it,
-- so G + 1 after its start.
abbrev pub KeepsGapOf : Content → (ℕ → Round) → Type 0
KeepsGapOf h plan = KeepsGap (cap_of h) (start_gap_of h) plan

-- Annex 6.4: plans from now that serve the planner's table and keep the gap limit. Their rounds may go on past the clock.
abbrev pub IsRivalOf : Content → (ℕ → Round) → Type 0
IsRivalOf h plan = IsRival (slots_of h) (now_of h) (cap_of h) (start_gap_of h) (streams_in h) plan

-- Annex 12.14: the k-th of the rounds that only the gap forces, counted from 0: the first is at L + 1 + G, each later one G + 1 after the start before.
unfoldable pub forced_start : Content → ℕ → ℕ
forced_start h zero = cap_of h
forced_start h (suc k) = forced_start h k + start_gap_of h

-- Annex 12.14: those rounds as a plan, which sends nothing.
abbrev pub forced_rounds : Content → ℕ → Round
forced_rounds h k = record { start = forced_start h k; packets = [] }
