-- What the parts of add rest on: what is known where a refusal is passed, and the planner with the offered stream.
use Rattle.std.specs.Prelude.{◌≡◌, List, ◌∷◌, ◌++◌, ℕ, ◌+◌}
use Rattle.std.proofs.Common.{sym, subst, ◌∙◌}
use Rattle.std.proofs.Math.Path.{subst⁻¹}
use Rattle.std.proofs.Math.Nat.{lt_irrefl}
use native.Mathlib.Omega.{arith}
use Rattle.basics.specs.Answers.{number_of}
use Rattle.basics.specs.declared.refusals.Refusal.{Refusal as Named}
use Rattle.basics.specs.Refusals.{Refusal, answer_of, none, here, later}
use Rattle.basics.specs.Facts.Refusals.{answer_later, answer_after, answer_append, first_is_answer, AllPass}
use Rattle.state.proofs.Tests.{some_number}
use Rattle.basics.specs.Limits.{places}
use Rattle.rules.specs.Demand.{DemandRule, StartRule}
use Rattle.table.specs.Table.{as_streams, streams_of}
use Rattle.table.specs.declared.Record.{Record}
use Rattle.table.specs.Needs.{HasRecords}
use Rattle.table.specs.Range.{RecordsInRange, AreNear, TableInRange}
use Rattle.table.specs.Lengths.{IsBusyLength, CanTestDemand, CanFindStart}
use Rattle.table.specs.declared.Table.{Table}
use Rattle.queue.specs.Interface.{put, entries, HasEntries, CanInsert}
use Rattle.queue.specs.declared.Queue.{Queue}
use Rattle.state.specs.Content.{Content, content, slots_of, streams_in}
use Rattle.state.specs.Sound.{entry_of, Sound}
use Rattle.state.proofs.Facts.Open.{range_numbers}
use Rattle.planner.specs.declared.Offer.{Offer}
use Rattle.planner.specs.AddRemove.{offered, added, unsound, offer_refusals, rule_refusals, add_refusals, IsWellFormed, IsSoundWith}
use Rattle.planner.proofs.Facts.Files.{can_insert, files_inserted}
use Rattle.planner.proofs.Facts.Kept.{added_in_range, added_sound}
use Rattle.state.proofs.Facts.SoundTest.{can_test_demand, can_find_start}
use Rattle.planner.proofs.Facts.Changes.{is_sound_with}
use Rattle.planner.specs.Needs.{stored, CanAdd, CanTest}
use Rattle.state.specs.Needs.{NumbersInRange}
use Rattle.state.specs.declared.Planner.{Planner}

-- the numbers of a sound planner
sound_numbers : (p : Planner) → Sound p → NumbersInRange p.setting p.last
sound_numbers p sound = range_numbers sound.content_sound.in_range

module _ (h : Content) (o : Offer) where
  -- none of 6 to 11 applies to an offer that is well formed
  offer_passes : IsWellFormed h o → AllPass (offer_refusals h o)
  unfolding AllPass
  offer_passes formed = (
    λ bad. bad formed.id,
    (
      formed.new,
      (
        λ many. lt_irrefl places (omega (arith, formed.place_free, many)),
        (λ bad. bad (formed.period_range, formed.divides), (λ bad. bad formed.deadline_range, (λ bad. bad formed.start_range, tt))),
      ),
    ),
  )

module _ (p : Planner) (o : Offer) where
  abbrev offers : List Refusal
  offers = offer_refusals (content p) o

  abbrev rules : List Refusal
  rules = rule_refusals (added (content p) o)

  -- where one of 5 to 11 applies, add's answer is theirs
  pub refused_by_offer : (refusal : Named) → number_of refusal ≡ answer_of (unsound p ∷ offers) → number_of refusal ≡ answer_of (add_refusals p o)
  refused_by_offer refusal is = is ∙ sym (answer_append (unsound p ∷ offers) rules (λ zero. some_number refusal (is ∙ zero)))

  -- where none of 5 to 11 applies, add's answer is that of 12 and 13 ..
  pub by_rules : CanTest p o → answer_of rules ≡ answer_of (add_refusals p o)
  by_rules can =
      sym (answer_later (unsound p) (offers ++ rules) (λ bad. bad can.sound) ∙ answer_after offers rules (offer_passes (content p) o can.formed))

  -- .. whichever it is
  pub answered_by_rules : CanTest p o → {n : ℕ} → n ≡ answer_of rules → n ≡ answer_of (add_refusals p o)
  answered_by_rules can is = is ∙ by_rules can

pub ruleset add_tests = (refused_by_offer, answered_by_rules)

module _ {p : Planner} {o : Offer} (can : CanTest p o) where
  -- the queue has room
  pub can_file : CanInsert p.queue (entry_of (offered o))
  can_file =
      can_insert p can.sound (offered o) can.formed.id can.formed.new can.formed.place_free
      (can.formed.deadline_range.0, omega (arith, can.formed.deadline_range, can.formed.period_range)) can.formed.start_range

  module _ {table : Table} (has : HasRecords (added (content p) o).table table) where
    -- the planner as it would be with the table, but for its queue
    abbrev offered_table : Planner
    offered_table = stored p p.last table p.queue

    its_range : TableInRange p.setting.frame (p.last + 1) table
    its_range =
        let range = added_in_range (content p) can.sound.content_sound o can.formed in
        record {
          count = has.count;
          records = subst⁻¹ (RecordsInRange p.setting.frame) has.records range.0.records;
          near = subst⁻¹ (AreNear (p.last + 1)) has.records range.1;
        }

    -- both rules can be tested on the table with the stream ..
    pub can_test_table : CanTestDemand (slots_of (content p)) p.setting.frame table
    can_test_table = can_test_demand offered_table (sound_numbers p can.sound) its_range

    -- .. and the answers are those for what the planner would hold
    pub breaks_the_demand : (DemandRule (slots_of (content p)) (streams_of table) → ⊥) → 12 ≡ answer_of (rule_refusals (added (content p) o))
    breaks_the_demand fails =
        first_is_answer (here (subst (λ (rs : List Record). DemandRule (slots_of (content p)) (as_streams rs) → ⊥) has.records fails))

    module _ {busy : ℕ} (is_busy : IsBusyLength (slots_of (content p)) (streams_of table) busy) where
      -- the start rule is tested with now for the cap
      pub can_find_table : CanFindStart (slots_of (content p)) (p.last + 1) (p.last + 1) busy table
      can_find_table = can_find_start offered_table (sound_numbers p can.sound) its_range is_busy (omega arith)

      keeps_the_demand : DemandRule (slots_of (content p)) (streams_in (added (content p) o))
      keeps_the_demand = subst (λ (rs : List Record). DemandRule (slots_of (content p)) (as_streams rs)) has.records is_busy.holds

      pub breaks_the_start : (StartRule (slots_of (content p)) (p.last + 1) (streams_of table) → ⊥) → 13 ≡ answer_of (rule_refusals (added (content p) o))
      breaks_the_start fails =
          first_is_answer
          (later (λ bad. bad keeps_the_demand)
          (here (subst (λ (rs : List Record). StartRule (slots_of (content p)) (p.last + 1) (as_streams rs) → ⊥) has.records fails)))

      module _ (holds : StartRule (slots_of (content p)) (p.last + 1) (streams_of table)) where
        keeps_the_start : StartRule (slots_of (content p)) (p.last + 1) (streams_in (added (content p) o))
        keeps_the_start = subst (λ (rs : List Record). StartRule (slots_of (content p)) (p.last + 1) (as_streams rs)) has.records holds

        pub keeps_both : 0 ≡ answer_of (rule_refusals (added (content p) o))
        keeps_both = first_is_answer (later (λ bad. bad keeps_the_demand) (later (λ bad. bad keeps_the_start) none))

        pub can_be_added : CanAdd p o
        can_be_added = record { can_test = can; demand_rule = keeps_the_demand; start_rule = keeps_the_start }

pub ruleset rule_tests = (can_test_table, breaks_the_demand, can_find_table, breaks_the_start, keeps_both, can_be_added)

-- the planner with that table and the entry in its queue is sound
pub taken_in : {p : Planner} {o : Offer} → CanAdd p o
    → {table : Table} → HasRecords (added (content p) o).table table
    → {queue : Queue} → HasEntries queue (put (entry_of (offered o)) (entries p.queue))
    → IsSoundWith (added (content p) o) (stored p p.last table queue)
taken_in {p} {o} can has filed =
    is_sound_with p can.can_test.sound.waiting_count p.last has
    (added_sound (content p) can.can_test.sound.content_sound o can.can_test.formed can.demand_rule can.start_rule) filed
    (files_inserted (entries p.queue) (content p).table (offered o) can.can_test.sound.files)
