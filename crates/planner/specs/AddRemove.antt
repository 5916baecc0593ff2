-- What add and remove answer and leave: Annex, chapter 7.
use Rattle.std.specs.Prelude.{◌≡◌, Result, List, [], ◌∷◌, ◌++◌, ℕ, ◌+◌, ◌≤◌, ◌<◌, length}
use Rattle.std.proofs.Math.Logic.Dec.{and as Dec-and, not as Dec-not}
use Rattle.std.specs.Int.{◌∣◌}
use Rattle.std.proofs.Math.Decide.{dec_le, dec_dvd}
use Rattle.basics.specs.OneTo.{OneTo, decide_one_to, not_in}
use Rattle.basics.specs.Limits.{places, largest_id, furthest_release, longest_period}
use Rattle.basics.specs.Refusals.{Refusal, answer_of}
use Rattle.basics.specs.Answers.{answer}
use Rattle.basics.specs.declared.refusals.Refusal.{Refusal as Named}
use Rattle.rules.specs.Demand.{DemandRule, StartRule}
use Rattle.rules.proofs.Decide.{decide_demand_rule, decide_start_rule}
use Rattle.table.specs.declared.Record.{Record}
use Rattle.table.specs.Changes.{HasId, decide_id, put_by_id, without_id}
use Rattle.state.specs.Content.{Content, content, slots_of, frame_of, streams_in, now_of, with_table}
use Rattle.state.specs.Sound.{Sound}
use Rattle.state.proofs.Decide.{decide_sound}
use Rattle.state.specs.declared.Planner.{Planner}
use Rattle.planner.specs.declared.Offer.{Offer}
use Rattle.state.specs.declared.Changed.{Changed}

-- Annex 7.1, 7.10: what add is passed, any numbers, in the order of id, S, P and D, as an offer.
abbrev pub offer : (id start period deadline : ℕ) → Offer
offer id start period deadline = record { id = id; start = start; period = period; deadline = deadline }

-- Annex 7.10: the record of the stream that add is offered: its first packet is released at S.
abbrev pub offered : Offer → Record
offered o = record { id = o.id; period = o.period; deadline = o.deadline; release = o.start }

-- Annex 7.20: what a planner holds with that record at its place by id; its numbers and the other records stay.
abbrev pub added : Content → Offer → Content
added h o = with_table h (put_by_id (offered o) h.table)

-- Annex 7.23: what it holds without the record of an id, and so without that stream's unserved packet; its numbers and the other records stay.
abbrev pub removed : Content → ℕ → Content
removed h id = with_table h (without_id id h.table)

-- Annex 7.11, 7.22, 7.25, 7.42: 5 if the planner is not sound.
abbrev pub unsound : Planner → Refusal
unsound p = record { number = 5; Applies = Sound p → ⊥; decided = Dec-not (decide_sound p) }

-- Annex 7.12: 6 unless the id is 1 to 32,767.
abbrev pub bad_id : ℕ → Refusal
bad_id id = not_in 6 largest_id id

-- Annex 7.13: 7 if a record has the id.
abbrev pub id_held : ℕ → Content → Refusal
id_held id h = record { number = 7; Applies = HasId id h.table; decided = decide_id id h.table }

-- Annex 7.14: 8 if 64 records are held.
abbrev pub full : Content → Refusal
full h = record { number = 8; Applies = places ≤ length h.table; decided = dec_le places (length h.table) }

-- Annex 7.15: 9 unless P is 1 to 240 and divides F.
abbrev pub bad_period : ℕ → Content → Refusal
bad_period period h =
    record {
      number = 9;
      Applies = (OneTo longest_period period × (period ∣ frame_of h)) → ⊥;
      decided = Dec-not (Dec-and (decide_one_to longest_period period) (dec_dvd period (frame_of h)));
    }

-- Annex 7.16: 10 unless D is 1 to P.
abbrev pub bad_deadline : ℕ → ℕ → Refusal
bad_deadline deadline period = not_in 10 period deadline

-- Annex 7.17: 11 unless S is now or later and at most now + 239.
abbrev pub bad_start : ℕ → Content → Refusal
bad_start start h =
    record {
      number = 11;
      Applies = ((now_of h ≤ start) × (start ≤ now_of h + furthest_release)) → ⊥;
      decided = Dec-not (Dec-and (dec_le (now_of h) start) (dec_le start (now_of h + furthest_release)));
    }

-- Annex 7.18: 12 if the table breaks the demand rule; it is the table with the new record that is tested.
abbrev pub breaks_demand : Content → Refusal
breaks_demand h =
    record { number = 12; Applies = DemandRule (slots_of h) (streams_in h) → ⊥; decided = Dec-not (decide_demand_rule (slots_of h) (streams_in h)) }

-- Annex 7.19: 13 if the table, with the new record again, breaks the start rule at now.
abbrev pub breaks_start : Content → Refusal
breaks_start h =
    record {
      number = 13;
      Applies = StartRule (slots_of h) (now_of h) (streams_in h) → ⊥;
      decided = Dec-not (decide_start_rule (slots_of h) (now_of h) (streams_in h));
    }

-- Annex 7.21: the refusals of add that ask whether the stream is well formed and a place is free, 6 to 11 ..
abbrev pub offer_refusals : Content → Offer → List Refusal
offer_refusals h o =
    bad_id o.id ∷ id_held o.id h ∷ full h ∷ bad_period o.period h ∷ bad_deadline o.deadline o.period ∷ bad_start o.start h ∷ []

-- Annex 7.18, 7.19: .. and those that speak of the table with it, 12 and 13.
abbrev pub rule_refusals : Content → List Refusal
rule_refusals h = breaks_demand h ∷ breaks_start h ∷ []

-- Annex 7.10: the refusals of add in their order: 5, then 6 to 11 of the planner as it is, then 12 and 13 of the table with the new record.
abbrev pub add_refusals : Planner → Offer → List Refusal
add_refusals p o = unsound p ∷ (offer_refusals (content p) o ++ rule_refusals (added (content p) o))

-- Annex 7.21: the new stream is well formed, and a place is free: none of 6 to 11 applies, said condition by condition.
pub record IsWellFormed (h : Content) (o : Offer) : Type 0 where
  pub id : OneTo largest_id o.id
  pub new : HasId o.id h.table → ⊥
  pub place_free : length h.table < places
  pub period_range : OneTo longest_period o.period
  pub divides : o.period ∣ frame_of h
  pub deadline_range : OneTo o.period o.deadline
  pub start_range : (now_of h ≤ o.start) × (o.start ≤ now_of h + furthest_release)

-- Annex 7.22: 14 if no record has the id, whatever number it is.
abbrev pub not_held : ℕ → Content → Refusal
not_held id h = record { number = 14; Applies = HasId id h.table → ⊥; decided = Dec-not (decide_id id h.table) }

-- Annex 7.22: the refusals of remove in their order: 5, then 14.
abbrev pub remove_refusals : Planner → ℕ → List Refusal
remove_refusals p id = unsound p ∷ not_held id (content p) ∷ []

-- Annex 3.13: a sound planner that holds h, so its queue files just the records of h. What its unused places have, and how its queue's links and free
-- places lie, is left free.
pub record IsSoundWith (h : Content) (p : Planner) : Type 0 where
  pub holds : content p ≡ h
  pub sound : Sound p

-- Annex 7.3, 7.4: a change gives the answer of its refusals; refused, it hands back the planner just as it was; else the planner is sound and holds h.
pub record IsChange (refusals : List Refusal) (p : Planner) (h : Content) (r : Changed) : Type 0 where
  pub answer : r.answer ≡ answer_of refusals
  pub refused : (answer_of refusals ≡ 0 → ⊥) → r.planner ≡ p
  pub changed : answer_of refusals ≡ 0 → IsSoundWith h r.planner

-- Annex 7.2: what a change answers by its outcome, and the planner after it.
abbrev pub changed_by : Result (Unit {0}) Named → Planner → Changed
changed_by outcome p = record { answer = answer outcome; planner = p }

-- Annex 7.20: what add does: it is refused by the refusals of add, or leaves a sound planner that holds the new record too.
abbrev pub IsAdd : Planner → Offer → Changed → Type 0
IsAdd p o = IsChange (add_refusals p o) p (added (content p) o)

-- Annex 7.23: what remove does: it is refused by the refusals of remove, or leaves a sound planner without the record of the id.
abbrev pub IsRemove : Planner → ℕ → Changed → Type 0
IsRemove p id = IsChange (remove_refusals p id) p (removed (content p) id)
