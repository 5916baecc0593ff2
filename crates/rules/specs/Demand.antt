-- Demand and future demand, the demand rule, the start rule, and the lazy rule.
use Rattle.std.specs.Prelude.{◌≡◌, ◌⊎◌, ℕ, ◌+◌, ◌-◌, ◌*◌, ◌/◌, ◌≤◌, ◌<◌}
use Rattle.std.proofs.Math.Logic.{ite}
use mathlib.Core.List.{List, [], ◌∷◌, Mem}
use Rattle.std.proofs.Math.Decide.{dec_le}
use Rattle.rules.specs.Streams.{Stream, due}

-- Annex 4.1: of packets due at first, first + period and so on, how many are due by t: floor((t - first) / period) + 1 where first ≤ t, else 0.
unfoldable pub packets_by : ℕ → ℕ → ℕ → ℕ
packets_by period first t = ite (dec_le first t) ((t - first) / period + 1) 0

-- Annex 4.1: the demand of a length t: the packets due by t, summed over the streams, if each stream's first one were due at D.
unfoldable pub demand : List Stream → ℕ → ℕ
demand [] t = 0
demand (s ∷ ss) t = packets_by s.period s.deadline t + demand ss t

-- Annex 4.3: the future demand h(t): the packets due by t, summed over the streams, from each one's unserved packet on.
unfoldable pub future : List Stream → ℕ → ℕ
future [] t = 0
future (s ∷ ss) t = packets_by s.period (due s) t + future ss t

-- Annex 4.2, 4.7, 4.9: the demand rule: for every length t from 1 on, without a limit and whatever the clock, the demand of t is at most b × t.
abbrev pub DemandRule : ℕ → List Stream → Type 0
DemandRule b ss = (t : ℕ) → 1 ≤ t → demand ss t ≤ b * t

-- Annex 4.4, 4.7, 4.9: the start rule: for every time t after now, without a limit and also past the clock's end, h(t) is at most b × (t - now).
abbrev pub StartRule : ℕ → ℕ → List Stream → Type 0
StartRule b now ss = (t : ℕ) → now < t → future ss t ≤ b * (t - now)

-- Annex 3.8: every stream's unserved packet is due after now.
abbrev pub DueAfter : ℕ → List Stream → Type 0
DueAfter now ss = (s : Stream) → Mem s ss → now < due s

-- Annex 4.6: n divided by b, rounded up.
abbrev pub ceil : ℕ → ℕ → ℕ
ceil n b = (n + (b - 1)) / b

-- Annex 4.6: x is the cap, or t - ceil(h(t) / b) for a time t with h(t) > 0, written x + ceil(h(t) / b) = t, so that nothing is cut off at 0.
abbrev pub Candidate : ℕ → ℕ → List Stream → ℕ → Type 0
Candidate b cap ss x = (x ≡ cap) ⊎ ((t : ℕ) × (0 < future ss t) × (x + ceil (future ss t) b ≡ t))

-- Annex 4.6, 4.7: the lazy rule: the start is one of the cap and of t - ceil(h(t) / b) for the times t with h(t) > 0, without a limit, and none is less.
pub record IsLazyStart (b cap : ℕ) (ss : List Stream) (start : ℕ) : Type 0 where
  pub one_of_them : Candidate b cap ss start
  pub by_cap : start ≤ cap
  pub by_demand : (t : ℕ) → 0 < future ss t → start + ceil (future ss t) b ≤ t
