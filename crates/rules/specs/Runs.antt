-- Lazy rounds one after the other: a list of them, and a run of them that never ends.
use mathlib.Core.List.{List, [], ◌∷◌, ◌++◌, Mem, map}
use Rattle.std.specs.Prelude.{ℕ, zero, suc, ◌+◌, get_or}
use Rattle.rules.specs.Streams.{Stream, Packet, packet, MayRide}
use Rattle.rules.specs.Demand.{IsLazyStart}
use Rattle.rules.specs.Slots.{slots, after_round}
use Rattle.rules.specs.Plans.{Round}

-- Annex 12.7: what a round starts from: now, the cap on its start, and the table.
pub record State : Type 0 where
  pub now : ℕ
  pub cap : ℕ
  pub table : List Stream

-- Annex 1.2: the round at s, with the unserved packets of its slots in order.
abbrev pub round_at : ℕ → State → ℕ → Round
round_at b st s = record { start = s; packets = map (λ (x : Stream). packet x 0) (slots b s st.table) }

-- Annex 1.2: the state after a round at s: now is its end, s + 1, the cap a gap past its start, and the streams served are at their next packets.
-- A planner's G is counted from the end: the gap here is G + 1.
abbrev pub after : ℕ → ℕ → State → ℕ → State
after b gap st s = record { now = s + 1; cap = s + gap; table = after_round b s st.table }

-- Annex 12.7: a list of calls in which no add or remove succeeds, by its held rounds: each starts where the lazy rule says. A refused call
-- leaves the state as it is, so it leaves no mark here.
pub data Held (b gap : ℕ) (st : State) : List Round → State → Type 0 where
  none : Held b gap st [] st
  then : {rounds : List Round} {at : State} → Held b gap st rounds at → (s : ℕ) → IsLazyStart b at.cap at.table s
      → Held b gap st (rounds ++ (round_at b at s ∷ [])) (after b gap at s)

-- Annex 12.8: sent in time: some held round sends the packet, and the packet may ride there.
abbrev pub SentInTime : List Round → Packet → Type 0
SentInTime rounds q = ∥ ((r : Round) × Mem r rounds × Mem q r.packets × MayRide q r.start) ∥₁

-- Annex 12.9: the end of the last round: the last held start + 1, or now where none was held.
unfoldable pub end_of : ℕ → List Round → ℕ
end_of now [] = now
end_of now (r ∷ rounds) = end_of (r.start + 1) rounds

-- Annex 12.12: the start of round k of a list, counted from 0.
abbrev pub start_of : List Round → ℕ → ℕ
start_of rounds k = (get_or rounds k (record { start = 0; packets = [] })).start

-- Annex 12.22: the state before round n of a run with given starts.
unfoldable pub state_at : ℕ → ℕ → State → (ℕ → ℕ) → ℕ → State
state_at b gap st starts zero = st
state_at b gap st starts (suc n) = after b gap (state_at b gap st starts n) (starts n)

-- Annex 12.22: lazy rounds for ever: each start is the lazy rule's.
abbrev pub IsLazyRun : ℕ → ℕ → State → (ℕ → ℕ) → Type 0
IsLazyRun b gap st starts = (n : ℕ) → IsLazyStart b (state_at b gap st starts n).cap (state_at b gap st starts n).table (starts n)

-- Annex 12.22: the rounds of such a run, as a plan.
abbrev pub run_plan : ℕ → ℕ → State → (ℕ → ℕ) → ℕ → Round
run_plan b gap st starts n = round_at b (state_at b gap st starts n) (starts n)
