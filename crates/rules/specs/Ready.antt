-- Words in which theorems and tests speak of tables: well formed, fitting at a moment, busy lengths, ready.
use mathlib.Core.List.{List, [], ◌∷◌, Mem}
use Rattle.std.specs.Prelude.{ℕ, ◌+◌, ◌-◌, ◌*◌, ◌≤◌}
use Rattle.rules.specs.Streams.{Stream, WellFormed, IsTable}
use Rattle.rules.specs.Demand.{future, ceil, packets_by, DemandRule, StartRule, DueAfter}
use Rattle.rules.specs.Runs.{State}

-- Every stream is well formed.
abbrev pub AllWellFormed : List Stream → Type 0
AllWellFormed ss = (s : Stream) → Mem s ss → WellFormed s

-- Annex 4.13: W(T), the sum of ceil(T / P) over the streams: how many due times any T units can hold at most.
unfoldable pub most_in : List Stream → ℕ → ℕ
most_in [] T = 0
most_in (s ∷ ss) T = ceil T s.period + most_in ss T

-- The start rule at x and every due time after x, in one line: with the difference cut off at 0.
abbrev pub Fits : ℕ → ℕ → List Stream → Type 0
Fits b x ss = (t : ℕ) → future ss t ≤ b * (t - x)

-- The packets due by t, where each stream's first one is due at `first s`.
unfoldable pub count_by : (Stream → ℕ) → List Stream → ℕ → ℕ
count_by first [] t = 0
count_by first (s ∷ ss) t = packets_by s.period (first s) t + count_by first ss t

-- Annex 4.13: T is a busy length: T is at least 1 and W(T) at most b × T, so that any T units hold at most b × T due times.
abbrev pub IsBusy : ℕ → List Stream → ℕ → Type 0
IsBusy b ss T = (1 ≤ T) × (most_in ss T ≤ b * T)

-- What has to hold of a table before a round at `now`, in the rules' words.
pub record IsReady (b now : ℕ) (ss : List Stream) : Type 0 where
  pub table : IsTable ss
  pub demand_rule : DemandRule b ss
  pub start_rule : StartRule b now ss
  pub due_after : DueAfter now ss

-- A state whose table is ready at now, with the cap no earlier than now.
pub record IsReadyState (b : ℕ) (st : State) : Type 0 where
  pub ready : IsReady b st.now st.table
  pub open_cap : st.now ≤ st.cap
