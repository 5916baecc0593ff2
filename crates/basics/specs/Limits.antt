-- Limits that several crates share, each with the name of what it limits.
use Rattle.std.specs.Prelude.{ℕ, ◌+◌}

-- Annex 1.3: the last start: a planner may hold a round at it, and none later.
abbrev pub last_start : ℕ
last_start = 1_000_000_000

-- Annex 3.6: the places of a table and of a queue: so many records, or entries, are held at most.
abbrev pub places : ℕ
places = 64

-- Annex 3.6: the most slots of a round, the largest B.
abbrev pub most_slots : ℕ
most_slots = 64

-- Annex 3.6: the longest superframe, the largest F.
abbrev pub longest_frame : ℕ
longest_frame = 5040

-- Annex 3.6: the longest gap, the largest G.
abbrev pub longest_gap : ℕ
longest_gap = 255

-- Annex 3.7: the longest period that a stream can have.
abbrev pub longest_period : ℕ
longest_period = 240

-- Annex 3.7: the largest id that a stream can have.
abbrev pub largest_id : ℕ
largest_id = 32_767

-- Annex 3.8: how far after now a release can be: the longest period less one.
abbrev pub furthest_release : ℕ
furthest_release = 239

-- Annex 3.14: the least number of a message: above every id ..
abbrev pub least_message : ℕ
least_message = 32_768

-- Annex 3.14: .. and the largest, that of 16 bits.
abbrev pub largest_message : ℕ
largest_message = 65_535

-- Annex 3.15: so many messages wait at most.
abbrev pub most_waiting : ℕ
most_waiting = 32

-- Annex 8.5: the largest key that an entry of a queue can have.
abbrev pub largest_key : ℕ
largest_key = 2_000_000_000

-- Annex 8.5: how far the largest key of a queue can be above the smallest.
abbrev pub key_span : ℕ
key_span = 479

-- Annex 8.6: the buckets of a queue, so many that two keys of one bucket, no further apart than they can be, are one.
abbrev pub buckets : ℕ
buckets = key_span + 1
