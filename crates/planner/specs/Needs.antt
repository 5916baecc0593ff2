-- What the inner functions of the crate promise one another.
use Rattle.std.specs.Prelude.{◌≡◌, List, ℕ, ◌+◌, ◌≤◌, ◌<◌, length, take, get_or, set, replicate}
use Rattle.basics.specs.Limits.{last_start, most_waiting}
use Rattle.rules.specs.Demand.{DemandRule, StartRule}
use Rattle.table.specs.Table.{record_at}
use Rattle.table.specs.declared.Record.{Record}
use Rattle.table.specs.declared.Table.{Table}
use Rattle.queue.specs.Interface.{IsPlacedAt}
use Rattle.queue.specs.declared.Queue.{Queue}
use Rattle.messages.specs.Waiting.{IsMessage}
use Rattle.messages.specs.Needs.{HasWaiting}
use Rattle.messages.specs.declared.Waiting.{Waiting}
use Rattle.state.specs.Content.{Content, content, slots_of, streams_in, now_of}
use Rattle.state.specs.Sound.{Sound}
use Rattle.planner.specs.declared.Offer.{Offer}
use Rattle.planner.specs.AddRemove.{added, IsWellFormed}
use Rattle.planner.specs.Round.{ids_at, left_at}
use Rattle.state.specs.Needs.{StartsAt}
use Rattle.state.specs.declared.Planner.{Planner}
use Rattle.planner.specs.declared.slots.Chosen.{Chosen}

-- The planner with another last start, table and queue.
abbrev pub stored : Planner → ℕ → Table → Queue → Planner
stored p last table queue = record { setting = p.setting; last = last; waiting = p.waiting; table = table; queue = queue }

-- What the test of the two rules relies on: that none of 5 to 11 applies ..
pub record CanTest (p : Planner) (o : Offer) : Type 0 where
  pub sound : Sound p
  pub formed : IsWellFormed (content p) o

-- .. and what taking the stream in relies on: that none of 12 and 13 does.
pub record CanAdd (p : Planner) (o : Offer) : Type 0 where
  pub can_test : CanTest p o
  pub demand_rule : DemandRule (slots_of (content p)) (streams_in (added (content p) o))
  pub start_rule : StartRule (slots_of (content p)) (now_of (content p)) (streams_in (added (content p) o))

-- What sending relies on: that none of 5, 29 and 30 applies.
pub record CanSend (p : Planner) (n : ℕ) : Type 0 where
  pub sound : Sound p
  pub message : IsMessage n
  pub on : p.setting.messages ≡ 1
  pub place_free : p.waiting.count < most_waiting

-- A round can be held at s with a buffer of this length.
pub record CanHold (p : Planner) (s length : ℕ) : Type 0 where
  pub at_start : StartsAt p s
  pub by_last : s ≤ last_start
  pub long : p.setting.slots ≤ length

-- None is chosen yet.
abbrev pub none_chosen : Chosen
none_chosen = record { placed = record { ids = replicate 64 0; places = replicate 64 0 }; rows = replicate 64 0; n = 0 }

-- One more chosen: an id, with its place and its row.
abbrev pub with_chosen : Chosen → (id place row : ℕ) → Chosen
with_chosen chosen id place row =
    record {
      placed = record { ids = set chosen.placed.ids chosen.n id; places = set chosen.placed.places chosen.n place };
      rows = set chosen.rows chosen.n row;
      n = chosen.n + 1;
    }

-- The ids of a round's slots, in their order.
pub record IsChosen (h : Content) (s : ℕ) (chosen : Chosen) : Type 0 where
  pub n : chosen.n ≡ length (ids_at h s)
  pub ids : take chosen.n chosen.placed.ids ≡ ids_at h s
  pub few : chosen.n ≤ slots_of h

-- The row of an id's stream in the table, and its place in the queue.
pub record IsFoundAt (table : Table) (queue : Queue) (id row place : ℕ) : Type 0 where
  pub in_table : row < table.count
  pub row_id : (record_at table row).id ≡ id
  pub in_queue : IsPlacedAt queue id place

-- Each id chosen stands beside its row and its place.
abbrev pub AreFound : Table → Queue → Chosen → Type 0
AreFound table queue chosen =
    (k : ℕ) → k < chosen.n → IsFoundAt table queue (get_or chosen.placed.ids k 0) (get_or chosen.rows k 0) (get_or chosen.placed.places k 0)

-- What serving the slots relies on: they are those of the start of a sound planner, which is not late, each id beside its row and place.
pub record CanServeAll (p : Planner) (s : ℕ) (chosen : Chosen) : Type 0 where
  pub at_start : StartsAt p s
  pub by_last : s ≤ last_start
  pub is_chosen : IsChosen (content p) s chosen
  pub are_found : AreFound p.table p.queue chosen

-- Just the messages wait that a round at s leaves waiting.
abbrev pub IsLeft : Content → ℕ → Waiting → Type 0
IsLeft h s left = HasWaiting (left_at h s).waiting left

-- The planner's table with its rows rewritten.
abbrev pub table_of : Planner → List Record → Table
table_of p streams = record { count = p.table.count; streams = streams }

-- The planner with other waiting messages.
abbrev pub with_list : Planner → Waiting → Planner
with_list p w = record { setting = p.setting; last = p.last; waiting = w; table = p.table; queue = p.queue }

-- The planner with a round held at s, which left these messages waiting, these streams and this queue.
abbrev pub served_planner : Planner → ℕ → Waiting → List Record → Queue → Planner
served_planner p s left streams queue = with_list (stored p s (table_of p streams) queue) left
