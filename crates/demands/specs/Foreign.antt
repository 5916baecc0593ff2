-- A plan that somebody else made, beside the planner's own rounds. Annex, chapter 12.
use Rattle.std.specs.Prelude.{◌≡◌, List, [], ◌∷◌, ◌++◌, ℕ, ◌<◌, length, get_or}
use Rattle.rules.specs.Plans.{Round}
use Rattle.packet_bytes.specs.Layout.{Values}
use Rattle.state.specs.declared.Planner.{Planner}
use Rattle.demands.specs.CallLists.{HeldRound, Calls, none, asked, sent, refused, held, start_of}
use Rattle.demands.specs.Packets.{round_values}

-- Annex 12.31: the start of round k of a plan, counted from 0; the clause counts from 1.
abbrev pub start_in_plan : List Values → ℕ → ℕ
start_in_plan rounds k = (get_or rounds k (record { start = 0; slots = 0; ids = [] })).start

-- Annex 12.31: round k, counted from 0, which both have, starts later in the plan than the planner holds it.
pub record StartsLater (own : List HeldRound) (rounds : List Values) (k : ℕ) : Type 0 where
  pub planned : k < length rounds
  pub held : k < length own
  pub later : start_of own k < start_in_plan rounds k

-- Annex 12.31: an endless plan goes on from these rounds: its first starts are theirs, whatever it sends.
abbrev pub GoesOnAs : List Values → (ℕ → Round) → Type 0
GoesOnAs rounds plan = (k : ℕ) → k < length rounds → (plan k).start ≡ start_in_plan rounds k

-- Annex 12.32: the held rounds of a list of calls, each as the values of its packet: its start, the planner's B, and all numbers that it lists, messages
-- too.
unfoldable pub packets_of : {p : Planner} {rounds : List HeldRound} {q : Planner} → Calls p rounds q → List Values
packets_of none = []
packets_of (asked calls _ _ _ _) = packets_of calls
packets_of (sent calls _ _ _) = packets_of calls
packets_of (refused calls _ _ _ _ _) = packets_of calls
packets_of (held {q = q} calls _ after r _ _) = packets_of calls ++ (round_values q after r ∷ [])
