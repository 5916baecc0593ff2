-- A plan that somebody else made, as rounds by their packets' values: the rules of a round, and when a plan is sound. Annex, chapter 14.
use Rattle.std.specs.Prelude.{◌≡◌, ℕ, ◌+◌, ◌*◌, ◌≤◌, ◌<◌, length}
use mathlib.Core.List.{List, [], ◌∷◌, ◌++◌, Mem, map}
use Rattle.basics.specs.Counts.{times_in}
use Rattle.rules.specs.Streams.{packet, MayRide}
use Rattle.table.specs.Table.{stream_of, due_of, with_release}
use Rattle.table.specs.Changes.{HasId}
use Rattle.table.specs.declared.Record.{Record}
use Rattle.messages.specs.Numbers.{stream_ids}
use Rattle.packet_bytes.specs.Layout.{Values, bytes_of}
use Rattle.packets.specs.Good.{IsGood}
use Rattle.state.specs.Content.{Content, slots_of, cap_of, with_table, with_last}

-- Annex 14.8: a record with a packet sent for each time its id stands in a list: its release is larger by P each time.
abbrev pub sent_for : List ℕ → Record → Record
sent_for ids r = with_release r (r.release + times_in r.id ids * r.period)

-- Annex 14.8, 14.14: a record after a round's stream ids have been sent; in which order they stand, and its messages, change nothing.
abbrev pub sent_by : Values → Record → Record
sent_by v r = sent_for (stream_ids v.ids) r

-- Annex 14.8: what is held after a round of a plan: its start is the last start, and its packets have been sent.
abbrev pub after_foreign : Content → Values → Content
after_foreign h v = with_table (with_last h v.start) (map (sent_by v) h.table)

-- Annex 14.3: rule 1, of the packet: it is good, and has the planner's B.
abbrev pub HasPacket : Content → Values → Type 0
HasPacket h v = IsGood v × (v.slots ≡ h.setting.slots)

-- Annex 14.4: rule 2, of the start: it is after the last start, and by the cap, which is the last start + 1 + G.
abbrev pub StartsInTime : Content → Values → Type 0
StartsInTime h v = (h.last < v.start) × (v.start ≤ cap_of h)

-- Annex 14.5: rule 3, of the room: there are no more stream ids than slots for streams.
abbrev pub HasRoom : Content → Values → Type 0
HasRoom h v = length (stream_ids v.ids) ≤ slots_of h

-- Annex 14.6: these ids may be sent in a round at a start: each is held, and the packets that they stand for, of each record as many as its id stands
-- there, are released and not late.
pub record MaySend (rs : List Record) (ids : List ℕ) (start : ℕ) : Type 0 where
  pub held : (id : ℕ) → Mem id ids → HasId id rs
  pub ride : (r : Record) → Mem r rs → (m : ℕ) → m < times_in r.id ids → MayRide (packet (stream_of r) m) start

-- Annex 14.6: rule 4, of the slots: the round's stream ids may be sent at its start.
abbrev pub SlotsMaySend : Content → Values → Type 0
SlotsMaySend h v = MaySend h.table (stream_ids v.ids) v.start

-- Annex 14.7: rule 5, of what is left: after the round no record, listed or not, has an unserved packet due by its end.
abbrev pub LeavesNone : Content → Values → Type 0
LeavesNone h v = (r : Record) → Mem r h.table → v.start + 1 < due_of (sent_by v r)

-- Annex 14.9: the five rules of a round ..
pub data Rule : Type 0 where
  of_packet : Rule
  of_start : Rule
  of_room : Rule
  of_slots : Rule
  of_rest : Rule

-- Annex 14.13: .. their numbers, in their order ..
abbrev pub number_of : Rule → ℕ
number_of of_packet = 1
number_of of_start = 2
number_of of_room = 3
number_of of_slots = 4
number_of of_rest = 5

-- Annex 14.9: .. and what each asks of a round.
abbrev pub Keeps : Content → Values → Rule → Type 0
Keeps h v of_packet = HasPacket h v
Keeps h v of_start = StartsInTime h v
Keeps h v of_room = HasRoom h v
Keeps h v of_slots = SlotsMaySend h v
Keeps h v of_rest = LeavesNone h v

-- Annex 14.9: a round passes if it keeps every rule.
abbrev pub Passes : Content → Values → Type 0
Passes h v = (q : Rule) → Keeps h v q

-- Annex 14.10: rounds one after the other, each of which passes where the one before has led to; the last index is what they leave.
pub data Passed : Content → List Values → Content → Type 0 where
  none : {h : Content} → Passed h [] h
  first : {h c : Content} {rounds : List Values} → (v : Values) → Passes h v → Passed (after_foreign h v) rounds c → Passed h (v ∷ rounds) c

-- Annex 14.2: packets laid end to end.
unfoldable pub laid_out : List Values → List ℕ
laid_out [] = []
laid_out (v ∷ vs) = bytes_of v ++ laid_out vs

-- Annex 14.10: the bytes are a sound plan: packets laid end to end, whose rounds pass.
pub record IsSoundPlan (h : Content) (bytes : List ℕ) : Type 0 where
  pub rounds : List Values
  pub are : bytes ≡ laid_out rounds
  pub left : Content
  pub passed : Passed h rounds left

-- Annex 14.11: no packet at the front of these bytes passes: it is cut short, so that the bytes begin with no packet at all, or it breaks a rule.
abbrev pub Stops : Content → List ℕ → Type 0
Stops c rest = (v : Values) (more : List ℕ) → rest ≡ bytes_of v ++ more → Passes c v → ⊥

-- Annex 14.11: round k, counted from 1, is the first that breaks a rule: those before it pass, something is left, and no packet at its front passes.
pub record BreaksAt (h : Content) (bytes : List ℕ) (k : ℕ) : Type 0 where
  pub rounds : List Values
  pub rest : List ℕ
  pub are : bytes ≡ laid_out rounds ++ rest
  pub left : Content
  pub passed : Passed h rounds left
  pub counted : k ≡ length rounds + 1
  pub something : rest ≡ [] → ⊥
  pub breaks : Stops left rest

-- Annex 14.13: n is the number of the first rule that a round breaks.
pub record IsFirstBroken (h : Content) (v : Values) (n : ℕ) : Type 0 where
  pub rule : Rule
  pub number : number_of rule ≡ n
  pub broken : Keeps h v rule → ⊥
  pub earlier : (q : Rule) → number_of q < n → Keeps h v q

-- Annex 14.3, 14.13: n is the number of the first rule that the round in front of these bytes breaks; 1 if its packet is cut short.
pub record BreaksRule (h : Content) (rest : List ℕ) (n : ℕ) : Type 0 where
  pub in_front : (v : Values) (more : List ℕ) → rest ≡ bytes_of v ++ more → IsFirstBroken h v n
  pub cut_short : ((v : Values) (more : List ℕ) → rest ≡ bytes_of v ++ more → ⊥) → n ≡ 1
