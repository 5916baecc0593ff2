-- Equality of streams and of packets can be decided.
use Rattle.std.specs.Prelude.{◌≡◌}
use Rattle.std.proofs.Common.{ap}
use mathlib.Core.HLevel.{hedberg}
use Rattle.std.proofs.Math.Decide.{ℕ_discrete}
use Rattle.rules.specs.Streams.{Stream, Packet}

-- packets with the same number, release and due time are equal
pub packet_path : (p q : Packet) → p.number ≡ q.number → p.release ≡ q.release → p.due ≡ q.due → p ≡ q
packet_path p q a b c = λ i. record { number = a i; release = b i; due = c i }

-- whether two packets are equal can be decided
pub packet_discrete : Discrete Packet
packet_discrete p q = go (ℕ_discrete p.number q.number) (ℕ_discrete p.release q.release) (ℕ_discrete p.due q.due)
  where
    go : Dec (p.number ≡ q.number) → Dec (p.release ≡ q.release) → Dec (p.due ≡ q.due) → Dec (p ≡ q)
    go (no a) b c = no (λ e. a (ap (λ (x : Packet). x.number) e))
    go (yes a) (no b) c = no (λ e. b (ap (λ (x : Packet). x.release) e))
    go (yes a) (yes b) (no c) = no (λ e. c (ap (λ (x : Packet). x.due) e))
    go (yes a) (yes b) (yes c) = yes (packet_path p q a b c)

stream_discrete : Discrete Stream
stream_discrete p q =
    go (ℕ_discrete p.number q.number) (ℕ_discrete p.period q.period) (ℕ_discrete p.deadline q.deadline) (ℕ_discrete p.release q.release)
  where
    go : Dec (p.number ≡ q.number) → Dec (p.period ≡ q.period) → Dec (p.deadline ≡ q.deadline) → Dec (p.release ≡ q.release) → Dec (p ≡ q)
    go (no a) b c d = no (λ e. a (ap (λ (x : Stream). x.number) e))
    go (yes a) (no b) c d = no (λ e. b (ap (λ (x : Stream). x.period) e))
    go (yes a) (yes b) (no c) d = no (λ e. c (ap (λ (x : Stream). x.deadline) e))
    go (yes a) (yes b) (yes c) (no d) = no (λ e. d (ap (λ (x : Stream). x.release) e))
    go (yes a) (yes b) (yes c) (yes d) = yes (λ i. record { number = a i; period = b i; deadline = c i; release = d i })

-- two streams are equal in one way only
pub stream_set : IsSet Stream
stream_set = hedberg stream_discrete
