-- When a packet is good: Annex, chapter 10.
use Rattle.std.specs.Prelude.{◌≡◌, ℕ, ◌≤◌, length}
use mathlib.Core.List.{List, ◌++◌, Mem, Nodup}
use Rattle.basics.specs.Limits.{last_start, most_slots, largest_id}
use Rattle.basics.specs.OneTo.{OneTo}
use Rattle.messages.specs.Numbers.{stream_ids, message_numbers}
use Rattle.messages.specs.Waiting.{IsMessage}
use Rattle.packet_bytes.specs.Layout.{Values, bytes_of}

-- Annex 10.3: the stream ids of a good packet: each is 1 to 32,767, and none stands twice.
pub record IdsGood (ids : List ℕ) : Type 0 where
  pub range : (id : ℕ) → Mem id ids → OneTo largest_id id
  pub once : Nodup ids

-- Annex 10.3: its messages: each is 32,768 to 65,535, and one may stand there more than once.
abbrev pub AreMessages : List ℕ → Type 0
AreMessages ms = (n : ℕ) → Mem n ms → IsMessage n

-- Annex 10.3: all numbers of a good packet: its stream ids, and behind the last of them its messages.
pub record NumbersGood (ns : List ℕ) : Type 0 where
  pub ids : IdsGood (stream_ids ns)
  pub messages : AreMessages (message_numbers ns)
  pub behind : ns ≡ stream_ids ns ++ message_numbers ns

-- Annex 10.3: a good packet's values: the start is at most 1,000,000,000, B is 1 to 64, n, which counts stream ids and messages, is at most B, and
-- these are good.
pub record IsGood (v : Values) : Type 0 where
  pub start : v.start ≤ last_start
  pub slots : OneTo most_slots v.slots
  pub count : length v.ids ≤ v.slots
  pub ids : NumbersGood v.ids

-- Annex 10.3: the bytes of a good packet: those of some good values. (No others have the same bytes: `same_bytes_same_values`.)
abbrev pub IsGoodPacket : List ℕ → Type 0
IsGoodPacket p = (v : Values) × (p ≡ bytes_of v) × IsGood v
