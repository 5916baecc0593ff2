-- What the tests of the rules on a table answer, and the sums that they carry from one length to the next.
use Rattle.std.specs.Prelude.{◌≡◌, ℕ, zero, suc, ◌+◌, ◌≤◌, ◌<◌, get_or, length}
use Rattle.std.proofs.Math.Logic.{ite}
use mathlib.Core.List.{List, Mem}
use Rattle.std.proofs.Math.Decide.{ℕ_discrete}
use Rattle.basics.specs.OneTo.{OneTo}
use Rattle.basics.specs.Limits.{last_start, places, most_slots, longest_frame, longest_period}
use Rattle.rules.specs.Streams.{Stream, WellFormed}
use Rattle.rules.specs.Demand.{DemandRule, StartRule, IsLazyStart}
use Rattle.rules.specs.Ready.{count_by, IsBusy}
use Rattle.table.specs.Table.{records_of, stream_of, streams_of}
use Rattle.table.specs.Range.{RecordInRange, AreNear}
use Rattle.table.specs.declared.Record.{Record}
use Rattle.table.specs.declared.Table.{Table}
use Rattle.table.specs.Sums.{AreNext}

-- A busy length of the table, where the demand rule holds.
pub record IsBusyLength (b : ℕ) (ss : List Stream) (r : ℕ) : Type 0 where
  pub holds : DemandRule b ss
  pub busy : IsBusy b ss r
  pub short : r ≤ longest_frame

-- The lazy start, where the start rule holds.
pub record IsNextStart (b now cap : ℕ) (ss : List Stream) (r : ℕ) : Type 0 where
  pub holds : StartRule b now ss
  pub lazy : IsLazyStart b cap ss r
  pub some : 1 ≤ r

-- What the test of the demand rule relies on.
pub record CanTestDemand (b F : ℕ) (table : Table) : Type 0 where
  pub count : table.count ≤ places
  pub slots : OneTo most_slots b
  pub frame : OneTo longest_frame F
  pub records : (r : Record) → Mem r (records_of table) → RecordInRange F r

-- What the test of the start rule relies on: a busy length too.
pub record CanFindStart (b x latest T : ℕ) (table : Table) : Type 0 where
  pub count : table.count ≤ places
  pub slots : OneTo most_slots b
  pub now : OneTo (last_start + 1) x
  pub cap : x ≤ latest
  pub formed : (r : Record) → Mem r (records_of table) → WellFormed (stream_of r) × (r.period ≤ longest_period)
  pub near : AreNear x (records_of table)
  pub busy : IsBusy b (streams_of table) T
  pub short : T ≤ longest_frame

-- A walk at length t: the next due times, and how many due times there are by t.
pub record IsWalk (first : Stream → ℕ) (table : Table) (t : ℕ) (next : List ℕ) (sum : ℕ) : Type 0 where
  pub are_next : AreNext first table t next
  pub counted : sum ≡ count_by first (streams_of table) t

-- How many due times of one stream, the next of them at `time`, the length t adds ..
unfoldable pub hits : ℕ → ℕ → ℕ
hits time t = ite (ℕ_discrete time t) 1 0

-- .. which due time is then the next ..
unfoldable pub after_hit : ℕ → ℕ → ℕ → ℕ
after_hit time t period = ite (ℕ_discrete time t) (t + period) time

-- .. and how many the length t adds for the first n of the times.
unfoldable pub hits_before : List ℕ → ℕ → ℕ → ℕ
hits_before times t zero = 0
hits_before times t (suc n) = hits_before times t n + hits (get_or times n 0) t

-- What going one length further relies on.
pub record CanAdvance (periods times : List ℕ) (t : ℕ) : Type 0 where
  pub count : length times ≤ places
  pub room : length times ≤ length periods
  pub short : (k : ℕ) → k < length times → get_or periods k 0 ≤ longest_period
  pub near : t ≤ 60_000

-- One length further, to t: the times move on, and r of them were at t.
pub record IsAdvance (periods times : List ℕ) (t : ℕ) (later : List ℕ) (r : ℕ) : Type 0 where
  pub moved : (k : ℕ) → k < length times → get_or later k 0 ≡ after_hit (get_or times k 0) t (get_or periods k 0)
  pub counted : r ≡ hits_before times t (length times)
  pub few : r ≤ length times
  pub size : length later ≡ length times
