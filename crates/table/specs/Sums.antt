-- The sums that the test of the demand rule carries from one length to the next. Annex 12.19.
use Rattle.std.specs.Prelude.{◌≡◌, List, ℕ, ◌+◌, ◌-◌, ◌*◌, ◌≤◌, ◌<◌, get_or, length}
use Rattle.basics.specs.Limits.{longest_frame, longest_period, places}
use Rattle.basics.specs.OneTo.{OneTo}
use Rattle.rules.specs.Streams.{Stream}
use Rattle.rules.specs.Demand.{packets_by, demand}
use Rattle.rules.specs.Ready.{AllWellFormed, most_in}
use Rattle.table.specs.Table.{streams_of, stream_at, IsColumn}
use Rattle.table.specs.declared.Table.{Table}
use Rattle.table.specs.declared.lengths.Sums.{Sums}

-- Annex 12.19: the first due time after t, of due times first, first + period and so on.
unfoldable pub next_after : ℕ → ℕ → ℕ → ℕ
next_after period first t = first + packets_by period first t * period

-- Annex 12.19: in each stream's place the first due time after t. `first` is a stream's first one.
pub record AreNext (first : Stream → ℕ) (table : Table) (t : ℕ) (next : List ℕ) : Type 0 where
  pub times : (k : ℕ) → k < table.count → get_or next k 0 ≡ next_after (stream_at table k).period (first (stream_at table k)) t
  pub room : table.count ≤ length next

-- Annex 12.19: a table with its periods in range, and the column of them.
pub record HasPeriods (table : Table) (periods : List ℕ) : Type 0 where
  pub count : table.count ≤ places
  pub within : table.count ≤ length table.streams
  pub column : IsColumn (λ s. s.period) table periods
  pub range : (k : ℕ) → k < table.count → OneTo longest_period (stream_at table k).period

-- Annex 12.19: at length t the sums carried are the rules' own, the demand and the busy length's W(t), and in each stream's place stand the next
-- deadline and the next release, which they do not count yet. That they are few keeps them within 32 bits.
pub record AreSums (table : Table) (t : ℕ) (dues releases : List ℕ) (sums : Sums) : Type 0 where
  pub demand_is : sums.demand ≡ demand (streams_of table) t
  pub most_is : sums.most ≡ most_in (streams_of table) t
  pub next_dues : AreNext (λ s. s.deadline) table t dues
  pub next_releases : AreNext (λ s. 1) table t releases
  pub few : (sums.demand ≤ places * t) × (sums.most ≤ places * t)

-- Annex 12.19: what carrying the sums to a length t, 1 to 5,040, relies on: they are the rules' at the length before, and the streams are well formed.
pub record CanCarry (table : Table) (periods dues releases : List ℕ) (t : ℕ) (before : Sums) : Type 0 where
  pub has : HasPeriods table periods
  pub formed : AllWellFormed (streams_of table)
  pub within : OneTo longest_frame t
  pub sums : AreSums table (t - 1) dues releases before
