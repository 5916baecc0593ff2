-- A table of records in code, and what the rules see of it.
use Rattle.std.specs.Prelude.{◌≡◌, List, map, ℕ, ◌+◌, ◌<◌, take, get_or}
use Rattle.rules.specs.Streams.{Stream}
use Rattle.table.specs.declared.Record.{Record}
use Rattle.table.specs.declared.Table.{Table}

-- Annex 3.2: the records are those in the first `count` places; the other places do not count.
abbrev pub records_of : Table → List Record
records_of t = take t.count t.streams

-- Annex 3.2: a record as the rules see it: the stream whose number is its id, with its P, its D and its release.
abbrev pub stream_of : Record → Stream
stream_of r = record { number = r.id; period = r.period; deadline = r.deadline; release = r.release }

-- Annex 3.2: what the rules see of records: a stream for each.
unfoldable pub as_streams : List Record → List Stream
as_streams rs = map stream_of rs

-- Annex 3.2: what the rules see of a table in code.
abbrev pub streams_of : Table → List Stream
streams_of t = as_streams (records_of t)

-- Annex 2.2: when a record's first unserved packet is due.
abbrev pub due_of : Record → ℕ
due_of r = r.release + r.deadline

-- Annex 5.6: the same record with another release.
abbrev pub with_release : Record → ℕ → Record
with_release r release = record { id = r.id; period = r.period; deadline = r.deadline; release = release }

-- Annex 3.12, 7.7: what an unused place is filled with: zeros.
abbrev pub no_record : Record
no_record = record { id = 0; period = 0; deadline = 0; release = 0 }

-- Annex 3.6: the record at a place, counted from 0.
abbrev pub record_at : Table → ℕ → Record
record_at t k = get_or t.streams k no_record

-- Annex 3.6: the stream at a place, as the rules see it.
abbrev pub stream_at : Table → ℕ → Stream
stream_at t k = stream_of (record_at t k)

-- Annex 12.19: a column of the table: a number of each stream, at its place.
abbrev pub IsColumn : (Stream → ℕ) → Table → List ℕ → Type 0
IsColumn f table r = (k : ℕ) → k < table.count → get_or r k 0 ≡ f (stream_at table k)
