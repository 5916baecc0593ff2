-- What the search for the next start hands from one part to the next.
use Rattle.std.specs.Prelude.{◌≡◌, ℕ, ◌+◌, ◌-◌, ◌≤◌, ◌<◌, get_or, length}
use mathlib.Core.List.{List, Mem}
use Rattle.basics.specs.OneTo.{OneTo}
use Rattle.basics.specs.Limits.{key_span, most_slots}
use Rattle.rules.specs.Streams.{Stream, due}
use Rattle.rules.specs.Demand.{future, ceil}
use Rattle.table.specs.Table.{streams_of, IsColumn}
use Rattle.table.specs.Lengths.{CanFindStart}
use Rattle.table.specs.Sums.{HasPeriods}
use Rattle.table.specs.declared.Table.{Table}

-- The least of some values.
pub record IsLeastOf (values : List ℕ) (least : ℕ) : Type 0 where
  pub at_most : (k : ℕ) → k < length values → least ≤ get_or values k 0
  pub reached : (k : ℕ) × (k < length values) × (least ≡ get_or values k 0)

-- What counting rounds up from `needed` relies on: that many are not too many.
pub record CanCountRounds (needed packets b : ℕ) : Type 0 where
  pub slots : OneTo most_slots b
  pub few : packets ≤ 1_000_000
  pub low : needed ≤ ceil packets b

-- How long after x a stream's first unserved packet is due.
abbrev pub due_from : ℕ → Stream → ℕ
due_from x s = due s - x

-- What the search relies on that knows the due times, less now: `first` is the least due time.
pub record CanLookFrom (b x latest first T : ℕ) (table : Table) (periods dues : List ℕ) : Type 0 where
  pub can : CanFindStart b x latest T table
  pub has : HasPeriods table periods
  pub column : IsColumn (due_from x) table dues
  pub before : (s : Stream) → Mem s (streams_of table) → first ≤ due s
  pub counts : 0 < future (streams_of table) first
  pub after : x < first
  pub near : first ≤ x + key_span
