-- Demand 2 is met.
use Rattle.std.specs.Prelude.{◌≡◌, refl, ◌⊎◌, ◌↔◌, ℕ, ◌-◌, ◌≤◌, ◌<◌}
use Rattle.std.proofs.Common.{sym, ◌∙◌, inl, inr}
use Rattle.std.proofs.Math.Path.{ap, subst⁻¹}
use Rattle.std.proofs.Math.Logic.Or
use mathlib.Core.HLevel.{⊥_prop}
use mathlib.Core.List.{List, [], ◌∷◌, ◌++◌, map, map-map}
use native.Mathlib.Omega.{arith}
use Rattle.std.proofs.Math.ListN.{length, take, drop}
use Rattle.std.proofs.lemmas.List.{length-map}
use Rattle.basics.specs.Refusals.{answer_of}
use Rattle.basics.specs.Facts.Refusals.{answer_first, answer_later}
use Rattle.basics.specs.Limits.{last_start}
use Rattle.rules.specs.Streams.{Stream, Packet, packet, IsTable}
use Rattle.rules.specs.Demand.{DemandRule, StartRule, DueAfter}
use Rattle.rules.specs.Slots.{slots, after_round}
use Rattle.rules.proofs.Facts.LazyStart.{lazy_unique}
use Rattle.rules.proofs.Decide.{decide_demand_rule, decide_start_rule}
use Rattle.rules.proofs.Facts.Exact.{demand_exact, demand_fails_exactly, start_exact, start_fails_exactly}
use Rattle.rules.proofs.Facts.SlotPackets.{slots_are_first}
use Rattle.state.specs.Content.{Content, content, now_of, cap_of, slots_of, streams_in}
use Rattle.state.specs.Sound.{Sound}
use Rattle.state.proofs.Facts.Sound.{content_table, sound_start, due_after_now}
use Rattle.planner.specs.declared.Offer.{Offer}
use Rattle.planner.specs.AddRemove.{offered, added, breaks_demand, breaks_start, add_refusals, IsWellFormed, IsSoundWith, IsAdd}
use Rattle.planner.specs.Round.{ids_at, listed_at, IsHeldRound, IsRound}
use Rattle.state.specs.Start.{IsStart}
use Rattle.state.proofs.Facts.Table.{put_is_table, put_due_after}
use Rattle.planner.proofs.Facts.Calls.{success_change, success_round, held_exactly, seventeen_exactly, empty_start, empty_slots}
use Rattle.planner.proofs.Facts.Add.{by_rules}
use Rattle.planner.proofs.Facts.ServedTable.{due_after_start}
use Rattle.state.specs.declared.Planner.{Planner}
use Rattle.state.specs.declared.Changed.{Changed}
use Rattle.planner.specs.declared.Rounded.{Rounded}
use Rattle.demands.proofs.Facts.Written.{written}
use Rattle.demands.specs.Two.{WritesSlots, RoundIsAtCap, ServableTogether, ServableFromNow, AddIsExact, Demand2}

-- a held round writes the ids of the first packets that may ride, as many as there are slots for streams, and behind them messages
held_writes_slots : (p : Planner) → Sound p → (before after : List ℕ) (r : Rounded) → IsHeldRound p before after r → WritesSlots p after r
held_writes_slots p sound before after r held =
    let h = content p in
    let chosen = slots (slots_of h) r.start (streams_in h) in
    record {
      packets = map (λ (x : Stream). packet x 0) chosen;
      are_slots =
          slots_are_first r.start (streams_in h) (content_table h sound.content_sound) (due_after_start h sound.content_sound r.start held.start)
          (slots_of h);
      listed =
          let same_ids : ids_at h r.start ≡ map (λ (q : Packet). q.number) (map (λ (x : Stream). packet x 0) chosen) =
          sym (map-map (λ (q : Packet). q.number) (λ (x : Stream). packet x 0) chosen) in
          let as_many : length (ids_at h r.start) ≡ length (map (λ (x : Stream). packet x 0) chosen) =
          length-map chosen (λ (x : Stream). x.number) ∙ sym (length-map chosen (λ (x : Stream). packet x 0)) in
          written p before after r held ∙ (λ i. same_ids i ++ take (h.setting.slots - as_many i) h.waiting);
      n = ap (length {A = ℕ}) (written p before after r held) ∙ sym held.n;
    }

module _ (p : Planner) (sound : Sound p) (before after : List ℕ) (long : (content p).setting.slots ≤ length before)
    (r : Rounded) (is : IsRound p before after r) where
  held_if : (s : ℕ) → IsStart (content p) s → (r.answer ≡ 0) ↔ (s ≤ last_start)
  held_if s start = subst⁻¹ (λ (n : ℕ). (n ≡ 0) ↔ (s ≤ last_start)) is.answer (held_exactly p before sound long s start)

  late_if : (s : ℕ) → IsStart (content p) s → (r.answer ≡ 17) ↔ (last_start < s)
  late_if s start = subst⁻¹ (λ (n : ℕ). (n ≡ 17) ↔ (last_start < s)) is.answer (seventeen_exactly p before sound long s start)

  round_at_cap : (content p).table ≡ [] → RoundIsAtCap p before after r
  unfolding after_round
  round_at_cap empty =
      let h = content p in
      let cap = empty_start h empty sound.content_sound in
      let at_cap : (zero : r.answer ≡ 0) → r.start ≡ cap_of h =
      λ zero. lazy_unique (slots_of h) (cap_of h) (streams_in h) r.start (cap_of h) (success_round is zero).start cap in
      let all_free : h.setting.slots - 0 ≡ h.setting.slots = omega arith in
      let nothing : ids_at h r.start ≡ [] = empty_slots h empty r.start in
      let messages : listed_at h r.start ≡ take h.setting.slots h.waiting =
      (λ i. nothing i ++ take (h.setting.slots - length (nothing i)) h.waiting) ∙ ap (λ (n : ℕ). take n h.waiting) all_free in
      record {
        exactly = held_if (cap_of h) cap;
        seventeen = late_if (cap_of h) cap;
        start = at_cap;
        n = λ zero. (success_round is zero).n ∙ ap (length {A = ℕ}) messages;
        buffer = λ zero. (success_round is zero).buffer ∙ ap (λ (l : List ℕ). l ++ drop r.n before) messages;
        leaves = λ zero. (success_round is zero).planner.holds ∙ rw (nothing, all_free, at_cap zero, empty) refl;
      }

-- the three outcomes of an offer, with what can be served in each
by_outcome : (h : Content) (r : Changed) → (r.answer ≡ 0 → IsSoundWith h r.planner)
    → ((ServableTogether h → ⊥) × (r.answer ≡ 12))
    ⊎ ((ServableTogether h × (ServableFromNow h → ⊥) × (r.answer ≡ 13)) ⊎ (ServableTogether h × ServableFromNow h × (r.answer ≡ 0)))
    → AddIsExact h r
by_outcome h r stored (inl (none, answer)) =
    record {
      twelve = (λ _. none, λ _. answer);
      thirteen = (λ e. absurd (omega (arith, answer, e)), λ w. absurd (none w.0));
      accepted = (λ e. absurd (omega (arith, answer, e)), λ w. absurd (none w.0));
      refused = (λ _. Or.inl none, λ _ e. omega (arith, answer, e));
      stored = stored;
    }
by_outcome h r stored (inr (inl (together, none, answer))) =
    record {
      twelve = (λ e. absurd (omega (arith, answer, e)), λ not_together. absurd (not_together together));
      thirteen = (λ _. (together, none), λ _. answer);
      accepted = (λ e. absurd (omega (arith, answer, e)), λ w. absurd (none w.1));
      refused = (λ _. Or.inr none, λ _ e. omega (arith, answer, e));
      stored = stored;
    }
by_outcome h r stored (inr (inr (together, from_now, answer))) =
    record {
      twelve = (λ e. absurd (omega (arith, answer, e)), λ not_together. absurd (not_together together));
      thirteen = (λ e. absurd (omega (arith, answer, e)), λ w. absurd (w.1 from_now));
      accepted = (λ _. (together, from_now), λ _. answer);
      refused = (λ refused. absurd (refused answer), λ one. absurd (Or.elim ⊥_prop one (λ none. none together) (λ none. none from_now)));
      stored = stored;
    }

module _ (p : Planner) (sound : Sound p) (o : Offer) (formed : IsWellFormed (content p) o) where
  abbrev with_it : Content
  with_it = added (content p) o

  its_table : IsTable (streams_in with_it)
  its_table = put_is_table (offered o) (content p).table formed.deadline_range formed.new (content_table (content p) sound.content_sound)

  its_due_times : DueAfter (now_of with_it) (streams_in with_it)
  its_due_times =
      put_due_after (offered o) (content p).table (now_of (content p)) (omega (arith, formed.start_range, formed.deadline_range))
      (due_after_now (content p) sound.content_sound)

  -- of an offer only 12 and 13 are left to be asked
  only_rules_left : answer_of (add_refusals p o) ≡ answer_of (breaks_demand with_it ∷ breaks_start with_it ∷ [])
  only_rules_left = sym (by_rules p o (record { sound = sound; formed = formed }))

  exact_add : (r : Changed) → IsAdd p o r → AddIsExact with_it r
  unfolding answer_of
  exact_add r is = go (decide_demand_rule (slots_of with_it) (streams_in with_it)) (decide_start_rule (slots_of with_it) (now_of with_it) (streams_in with_it))
    where
      positive : 1 ≤ slots_of with_it
      positive = sound.content_sound.in_range.setting.slots.0

      answers : (n : ℕ) → answer_of (breaks_demand with_it ∷ breaks_start with_it ∷ []) ≡ n → r.answer ≡ n
      answers n e = is.answer ∙ only_rules_left ∙ e

      not_12 : DemandRule (slots_of with_it) (streams_in with_it)
          → answer_of (breaks_demand with_it ∷ breaks_start with_it ∷ []) ≡ answer_of (breaks_start with_it ∷ [])
      not_12 keeps = answer_later (breaks_demand with_it) (breaks_start with_it ∷ []) (λ fails. fails keeps)

      go : Dec (DemandRule (slots_of with_it) (streams_in with_it)) → Dec (StartRule (slots_of with_it) (now_of with_it) (streams_in with_it))
          → AddIsExact with_it r
      go (no breaks) start_rule =
          by_outcome with_it r (success_change is)
          (inl (
            (demand_fails_exactly (streams_in with_it) its_table (slots_of with_it) positive).0 breaks,
            answers 12 (answer_first (breaks_demand with_it) (breaks_start with_it ∷ []) breaks),
          ))
      go (yes keeps) (no breaks) =
          by_outcome with_it r (success_change is)
          (inr (inl (
            (demand_exact (streams_in with_it) its_table (slots_of with_it) positive).0 keeps,
            (start_fails_exactly (slots_of with_it) (now_of with_it) (streams_in with_it) positive its_table keeps its_due_times).0 breaks,
            answers 13 (not_12 keeps ∙ answer_first (breaks_start with_it) [] breaks),
          )))
      go (yes keeps) (yes keeps_start) =
          by_outcome with_it r (success_change is)
          (inr (inr (
            (demand_exact (streams_in with_it) its_table (slots_of with_it) positive).0 keeps,
            (start_exact (slots_of with_it) (now_of with_it) (streams_in with_it) positive its_table keeps its_due_times).0 keeps_start,
            answers 0 (not_12 keeps ∙ answer_later (breaks_start with_it) [] (λ fails. fails keeps_start)),
          )))

-- Annex 12.4, 12.5: the contracts of round and add meet demand 2.
pub demand_2 : Demand2
demand_2 =
    record {
      round_is_lazy = λ p sound before after long r is.
          record {
            has_start = sound_start p sound;
            exactly = held_if p sound before after long r is;
            seventeen = late_if p sound before after long r is;
            held = success_round is;
            slots = λ zero. held_writes_slots p sound before after r (success_round is zero);
            without_streams = round_at_cap p sound before after long r is;
          };
      add_is_exact = exact_add;
    }
