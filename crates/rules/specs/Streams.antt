-- Streams, their packets, and when a packet may ride.
use Rattle.std.specs.Prelude.{◌≡◌, ℕ, ◌+◌, ◌*◌, ◌≤◌}
use mathlib.Core.List.{List, Mem, Nodup, map}
use Rattle.basics.specs.OneTo.{OneTo}

-- Annex 1.1, 2.1: a stream as the rules see it, in whole numbers of any size: its id, here number, P, D, and the release of its first unserved packet.
pub record Stream : Type 0 where
  pub number : ℕ
  pub period : ℕ
  pub deadline : ℕ
  pub release : ℕ

-- Annex 1.1: a packet, in whole numbers of any size: its stream's number, when it is released, and when it is due.
pub record Packet : Type 0 where
  pub number : ℕ
  pub release : ℕ
  pub due : ℕ

-- Annex 2.2: packet k of a stream, the first unserved one being packet 0: released k periods after that one, and due D after its own release.
abbrev pub packet : Stream → ℕ → Packet
packet s k = record { number = s.number; release = s.release + k * s.period; due = s.release + k * s.period + s.deadline }

-- Annex 2.2: a stream's due time, that of its first unserved packet.
abbrev pub due : Stream → ℕ
due s = s.release + s.deadline

-- Annex 2.3: a packet may ride in a round at s if it is released at s or before, and due at s + 1 or later.
abbrev pub MayRide : Packet → ℕ → Type 0
MayRide q s = (q.release ≤ s) × (s + 1 ≤ q.due)

-- Annex 2.4: D is 1 to P.
abbrev pub WellFormed : Stream → Type 0
WellFormed s = OneTo s.period s.deadline

-- Annex 2.6: a table: no number twice, and every stream well formed.
pub record IsTable (ss : List Stream) : Type 0 where
  pub well_formed : (s : Stream) → Mem s ss → WellFormed s
  pub differ : Nodup (map (λ (s : Stream). s.number) ss)

-- Annex 2.5: q is a packet of the table: packet k of one of its streams, for some k from 0, the unserved one, on.
abbrev pub PacketOf : List Stream → Packet → Type 0
PacketOf ss q = ∥ ((s : Stream) × Mem s ss × ((k : ℕ) × (q ≡ packet s k))) ∥₁

-- Annex 6.6: the stream with its unserved packet released at 0.
abbrev pub at_zero : Stream → Stream
at_zero s = record { number = s.number; period = s.period; deadline = s.deadline; release = 0 }
