-- What the inner functions of the crate promise one another. The records are those that a plan has led to.
use Rattle.std.specs.Prelude.{◌≡◌, ⊤, ℕ, ◌≤◌, ◌<◌, length, get_or, take, drop, Option, MatchOption, Result, MatchResult}
use mathlib.Core.List.{List, ◌++◌, Mem, map}
use Rattle.basics.specs.Limits.{places, most_slots, largest_key}
use Rattle.messages.specs.Numbers.{stream_ids}
use Rattle.table.specs.Table.{records_of, due_of, no_record}
use Rattle.table.specs.Changes.{HasId}
use Rattle.table.specs.Needs.{serve}
use Rattle.table.specs.declared.Record.{Record}
use Rattle.table.specs.declared.Table.{Table}
use Rattle.packet_bytes.specs.Layout.{Values, bytes_of}
use Rattle.state.specs.Content.{Content}
use Rattle.state.specs.declared.Setting.{Setting}
use Rattle.checker.specs.Plans.{sent_for, after_foreign, MaySend, HasPacket, StartsInTime, HasRoom, Passes, number_of, IsFirstBroken, BreaksRule}
use Rattle.checker.specs.Rules.{rule_of}
use Rattle.checker.specs.Columns.{Regular}
use Rattle.checker.specs.declared.round_rules.Rule.{Rule}
use Rattle.checker.specs.declared.round_rules.Rule.TheVariants.{Slots}
use Rattle.checker.specs.declared.rounds.Front.{Front}
use Rattle.checker.specs.declared.rounds.Passed.{Passed}

-- A table whose records can stand in columns: each due time fits.
pub record CanShow (table : Table) : Type 0 where
  pub count : table.count ≤ places
  pub regular : Regular (records_of table)
  pub small : (r : Record) → Mem r (records_of table) → due_of r ≤ largest_key

-- The row of the record that has the id; none if no record has it.
abbrev pub IsRowOf : List Record → ℕ → Option ℕ → Type 0
IsRowOf rs id r = MatchOption r (HasId id rs → ⊥) (λ row. (row < length rs) × ((get_or rs row no_record).id ≡ id))

-- A record's unserved packet may ride in a round at a start.
abbrev pub RidesNow : ℕ → Record → Type 0
RidesNow start r = (r.release ≤ start) × (start < due_of r)

-- One id may be sent: it is held, and its packet may ride.
pub record MaySendOne (rs : List Record) (id start : ℕ) : Type 0 where
  pub held : HasId id rs
  pub ride : (r : Record) → Mem r rs → r.id ≡ id → RidesNow start r

-- One id is sent, or may not be: then the rule of the slots is broken.
abbrev pub IsSentOne : List Record → List Record → ℕ → ℕ → Result ⊤ Rule → Type 0
IsSentOne before after id start r =
    MatchResult r (λ _. MaySendOne before id start × (after ≡ serve id before)) (λ rule. (rule ≡ Slots) × (MaySendOne before id start → ⊥))

-- All are sent, or may not be.
abbrev pub IsSentAll : List Record → List Record → List ℕ → ℕ → Result ⊤ Rule → Type 0
IsSentAll before after ids start r =
    MatchResult r (λ _. MaySend before ids start × (after ≡ map (sent_for ids) before)) (λ rule. (rule ≡ Slots) × (MaySend before ids start → ⊥))

-- No record's unserved packet is due by a moment.
abbrev pub NoneDue : ℕ → List Record → Type 0
NoneDue end rs = (r : Record) → Mem r rs → end < due_of r

-- What a check of one round relies on.
pub record CanCheck (setting : Setting) : Type 0 where
  pub flag : setting.messages ≤ setting.slots
  pub slots : setting.slots ≤ most_slots

-- No packet with at most so many numbers is in front of the bytes.
abbrev pub NoneInFront : List ℕ → ℕ → Type 0
NoneInFront rest most = (v : Values) (more : List ℕ) → rest ≡ bytes_of v ++ more → length v.ids ≤ most → ⊥

-- The values of a packet in front.
abbrev pub values : Front → Values
values f = record { start = f.start; slots = f.slots; ids = take f.count f.numbers }

-- The packet in front of the bytes, with few enough numbers.
pub record IsInFront (rest : List ℕ) (f : Front) : Type 0 where
  pub long : f.length ≡ length (bytes_of (values f))
  pub are : rest ≡ bytes_of (values f) ++ drop f.length rest
  pub few : f.count ≤ places

-- What is held where a plan has led to.
abbrev pub reached : Setting → ℕ → List ℕ → List Record → Content
reached setting last waiting rs = record { setting = setting; last = last; waiting = waiting; table = rs }

-- The rule that a name stands for is the first that a round breaks.
abbrev pub BreaksFirst : Content → Values → Rule → Type 0
BreaksFirst h v rule = IsFirstBroken h v (number_of (rule_of rule))

-- The first three rules are kept, and so many numbers are stream ids ..
pub record KeepsThree (h : Content) (v : Values) (streams : ℕ) : Type 0 where
  pub packet : HasPacket h v
  pub start : StartsInTime h v
  pub room : HasRoom h v
  pub counted : streams ≡ length (stream_ids v.ids)

-- .. or one is the first that is broken, whatever waits and whichever records there are.
abbrev pub IsHeaderChecked : Setting → ℕ → Values → Result ℕ Rule → Type 0
IsHeaderChecked setting last v r =
    MatchResult r (λ n. (waiting : List ℕ) (rs : List Record) → KeepsThree (reached setting last waiting rs) v n)
    (λ rule. (waiting : List ℕ) (rs : List Record) → BreaksFirst (reached setting last waiting rs) v rule)

-- The round in front passes: which it is, and what it leaves.
pub record IsFront (h : Content) (rest : List ℕ) (after : List Record) (r : Passed) : Type 0 where
  pub round : Values
  pub long : r.length ≡ length (bytes_of round)
  pub are : rest ≡ bytes_of round ++ drop r.length rest
  pub passes : Passes h round
  pub start : r.start ≡ round.start
  pub left : after ≡ (after_foreign h round).table

-- The round in front passes, or a rule is the first that it breaks, whatever waits.
abbrev pub IsChecked : Setting → ℕ → List ℕ → List Record → List Record → Result Passed Rule → Type 0
IsChecked setting last rest before after r =
    MatchResult r (λ passed. (waiting : List ℕ) → IsFront (reached setting last waiting before) rest after passed)
    (λ rule. (waiting : List ℕ) → BreaksRule (reached setting last waiting before) rest (number_of (rule_of rule)))
