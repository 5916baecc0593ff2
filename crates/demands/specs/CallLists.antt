-- Lists of calls, as demand 3 speaks of them: what the calls answered, and what stands in the buffers when they return. Annex, chapter 12.
use Rattle.std.specs.Prelude.{◌≡◌, ◌⊎◌, List, [], ◌∷◌, ◌++◌, ℕ, ◌+◌, ◌≤◌, ◌<◌, take, get_or}
use Rattle.basics.specs.Counts.{times_in}
use Rattle.basics.specs.Refusals.{Refusal}
use Rattle.rules.specs.Streams.{Stream, packet, MayRide}
use Rattle.state.specs.Content.{Content, content}
use Rattle.planner.specs.declared.Offer.{Offer}
use Rattle.planner.specs.AddRemove.{added, removed, add_refusals, remove_refusals, IsChange}
use Rattle.messages.specs.Numbers.{stream_ids}
use Rattle.planner.specs.Send.{IsSend}
use Rattle.planner.specs.Round.{IsRound}
use Rattle.state.specs.declared.Planner.{Planner}
use Rattle.state.specs.declared.Changed.{Changed}
use Rattle.planner.specs.declared.Rounded.{Rounded}

-- Annex 12.7: a held round: its start, and the ids that it lists in their order.
pub record HeldRound : Type 0 where
  pub start : ℕ
  pub ids : List ℕ

-- Annex 12.7: of a round call, the start that it answered, and the ids among the buffer's first n elements when it returns; the others are messages.
abbrev pub held_round : Rounded → List ℕ → HeldRound
held_round r buffer = record { start = r.start; ids = stream_ids (take r.n buffer) }

-- Annex 12.6: the calls that a list may hold refused alone, with any values: what each refuses and what it would leave. A further call is a line here.
pub data Asked (q : Planner) : List Refusal → Content → Type 1 where
  add : (o : Offer) → Asked q (add_refusals q o) (added (content q) o)
  remove : (id : ℕ) → Asked q (remove_refusals q id) (removed (content q) id)

-- Annex 12.6, 12.7: a list of calls from p, in any order, with any values and buffers: each gets the planner that the one before handed back, no
-- add or remove succeeds, and sends have any answer. Its held rounds are the round calls that answer 0, in their order; the last index is the planner that
-- is left.
pub data Calls (p : Planner) : List HeldRound → Planner → Type 1 where
  none : Calls p [] p
  asked : {rounds : List HeldRound} {q : Planner} → Calls p rounds q → {refusals : List Refusal} {h : Content} → Asked q refusals h → (r : Changed)
      → IsChange refusals q h r → (r.answer ≡ 0 → ⊥) → Calls p rounds r.planner
  sent : {rounds : List HeldRound} {q : Planner} → Calls p rounds q → (n : ℕ) (r : Changed) → IsSend q n r → Calls p rounds r.planner
  refused : {rounds : List HeldRound} {q : Planner} → Calls p rounds q → (before after : List ℕ) (r : Rounded)
      → IsRound q before after r → (r.answer ≡ 0 → ⊥) → Calls p rounds r.planner
  held : {rounds : List HeldRound} {q : Planner} → Calls p rounds q → (before after : List ℕ) (r : Rounded)
      → IsRound q before after r → r.answer ≡ 0 → Calls p (rounds ++ (held_round r after ∷ [])) r.planner

-- Annex 12.11: the clock is at its end: some round call of the list was refused with 17.
unfoldable pub ClockEnded : {p : Planner} {rounds : List HeldRound} {q : Planner} → Calls p rounds q → Type 0
ClockEnded none = ⊥
ClockEnded (asked calls _ _ _ _) = ClockEnded calls
ClockEnded (sent calls _ _ _) = ClockEnded calls
ClockEnded (refused calls _ _ r _ _) = (r.answer ≡ 17) ⊎ ClockEnded calls
ClockEnded (held calls _ _ _ _ _) = ClockEnded calls

-- Annex 12.8: how often it stands in the held rounds.
unfoldable pub times_sent : ℕ → List HeldRound → ℕ
times_sent id [] = 0
times_sent id (r ∷ rounds) = times_in id r.ids + times_sent id rounds

-- Annex 12.8: a round, after earlier ones, sends packet m of a stream, and in time. Packet m, counted from the unserved one as 0, is sent where the id
-- stands for the (m+1)-th time; it is sent in time if it may ride in a round of that start.
pub record IsSentBy (s : Stream) (m : ℕ) (earlier : List HeldRound) (r : HeldRound) : Type 0 where
  pub not_before : times_sent s.number earlier ≤ m
  pub here : m < times_sent s.number earlier + times_in s.number r.ids
  pub in_time : MayRide (packet s m) r.start

-- Annex 12.8: some round of the list, after those before it, sends packet m of the stream in time.
abbrev pub IsSentInTime : List HeldRound → Stream → ℕ → Type 0
IsSentInTime rounds s m =
    ∥ ((earlier : List HeldRound) × ((r : HeldRound) × ((later : List HeldRound) × ((rounds ≡ earlier ++ r ∷ later) × IsSentBy s m earlier r)))) ∥₁

-- Annex 12.9: the end of the last round: the last held start + 1, or now where no round was held.
unfoldable pub end_of : ℕ → List HeldRound → ℕ
end_of now [] = now
end_of now (r ∷ rounds) = end_of (r.start + 1) rounds

-- Annex 12.12: the start of round k of a list, counted from 0; the clause counts from 1.
abbrev pub start_of : List HeldRound → ℕ → ℕ
start_of rounds k = (get_or rounds k (record { start = 0; ids = [] })).start
