-- What a held round answers is always a good packet, so that a host's writer never answers 27 to it.
use Rattle.std.specs.Prelude.{◌≡◌, List, ℕ, ◌+◌, ◌*◌, ◌≤◌, ◌<◌, length, take}
use Rattle.state.specs.declared.Planner.{Planner}
use Rattle.planner.specs.declared.Rounded.{Rounded}
use Rattle.packet_bytes.specs.Layout.{Values}
use Rattle.packets.specs.Good.{IsGood}
use Rattle.packets.specs.Writing.{IsWritten}

-- Annex 12.16: what a round answered, as the values of a packet: its start, the planner's B, and the numbers in the buffer's first n elements.
abbrev pub round_values : Planner → List ℕ → Rounded → Values
round_values p after r = record { start = r.start; slots = p.setting.slots; ids = take r.n after }

-- Annex 12.16: of a held round: its values are a good packet's, whose n is the n answered; the planner handed back has the same B; and a writer of
-- them answers 0 where the packet lent has 6 + 2×n bytes or more, 28 where it has fewer, and so never 27.
pub record IsPacketOfRound (p : Planner) (after : List ℕ) (r : Rounded) : Type 0 where
  pub good : IsGood (round_values p after r)
  pub n : length (take r.n after) ≡ r.n
  pub slots : r.planner.setting.slots ≡ p.setting.slots
  pub written : (packet left : List ℕ) (answer : ℕ) → IsWritten (round_values p after r) packet left answer → 6 + 2 * r.n ≤ length packet → answer ≡ 0
  pub short : (packet left : List ℕ) (answer : ℕ) → IsWritten (round_values p after r) packet left answer → length packet < 6 + 2 * r.n → answer ≡ 28
  pub never_27 : (packet left : List ℕ) (answer : ℕ) → IsWritten (round_values p after r) packet left answer → answer ≡ 27 → ⊥
