-- Demand 2: the right round, and every stream that can be served. Annex, chapter 12.
use Rattle.std.specs.Prelude.{◌≡◌, ◌↔◌, List, [], ◌++◌, map, ℕ, ◌-◌, ◌≤◌, ◌<◌, length, take, drop}
use Rattle.std.proofs.Math.Logic.{◌∨₁◌}
use Rattle.basics.specs.Limits.{last_start}
use Rattle.rules.specs.Streams.{Packet, at_zero}
use Rattle.rules.specs.Slots.{IsSlots}
use Rattle.rules.specs.Plans.{Servable}
use Rattle.state.specs.Content.{Content, content, now_of, cap_of, with_last, with_waiting, slots_of, streams_in}
use Rattle.state.specs.Sound.{Sound}
use Rattle.planner.specs.declared.Offer.{Offer}
use Rattle.planner.specs.AddRemove.{added, IsWellFormed, IsSoundWith, IsAdd}
use Rattle.planner.specs.Round.{IsHeldRound, IsRound}
use Rattle.state.specs.Start.{IsStart}
use Rattle.state.specs.declared.Planner.{Planner}
use Rattle.state.specs.declared.Changed.{Changed}
use Rattle.planner.specs.declared.Rounded.{Rounded}

-- Annex 12.4: what a round lists in the buffer's first n elements: the ids of its slots, which are, of the packets that may ride, the first by due time,
-- then release, then id, in that order, as many as there are slots for streams; then the waiting messages that fit in the slots of B which these leave free.
-- There is only one such list of packets (`slots_unique` of the rules), and of those due at the same time none is left out that has waited longer
-- than one in it (`among_equals_longest_first` of the rules).
pub record WritesSlots (p : Planner) (after : List ℕ) (r : Rounded) : Type 0 where
  pub packets : List Packet
  pub are_slots : IsSlots (slots_of (content p)) r.start (streams_in (content p)) packets
  pub listed : take r.n after ≡ map (λ (q : Packet). q.number) packets ++ take (p.setting.slots - length packets) (content p).waiting
  pub n : length (take r.n after) ≡ r.n

-- Annex 7.32: a round where there is no stream: at L + 1 + G, with as many waiting messages as B slots hold, and with none of them nothing is written; L
-- moves, and these no longer wait; 17 where the cap is after 1,000,000,000. The lazy rule and the slot rule come to this by themselves.
pub record RoundIsAtCap (p : Planner) (before after : List ℕ) (r : Rounded) : Type 0 where
  pub exactly : (r.answer ≡ 0) ↔ (cap_of (content p) ≤ last_start)
  pub seventeen : (r.answer ≡ 17) ↔ (last_start < cap_of (content p))
  pub start : r.answer ≡ 0 → r.start ≡ cap_of (content p)
  pub n : r.answer ≡ 0 → r.n ≡ length (take p.setting.slots (content p).waiting)
  pub buffer : r.answer ≡ 0 → after ≡ take p.setting.slots (content p).waiting ++ drop r.n before
  pub leaves : r.answer ≡ 0
      → content r.planner ≡ with_waiting (with_last (content p) (cap_of (content p))) (drop p.setting.slots (content p).waiting)

-- Annex 12.4: there is a lazy start; the round is held exactly if it is at most 1,000,000,000, and gets 17 exactly if not. Held, it is as `IsHeldRound`
-- states by the lazy rule and the slot rule, and the slots are said of all packets that may ride; without streams it is at the cap.
pub record RoundIsLazy (p : Planner) (before after : List ℕ) (r : Rounded) : Type 0 where
  pub has_start : (s : ℕ) × IsStart (content p) s
  pub exactly : (s : ℕ) → IsStart (content p) s → (r.answer ≡ 0) ↔ (s ≤ last_start)
  pub seventeen : (s : ℕ) → IsStart (content p) s → (r.answer ≡ 17) ↔ (last_start < s)
  pub held : r.answer ≡ 0 → IsHeldRound p before after r
  pub slots : r.answer ≡ 0 → WritesSlots p after r
  pub without_streams : (content p).table ≡ [] → RoundIsAtCap p before after r

-- Annex 6.6: some plan serves the table with all releases at 0: every unserved packet's, and the plan's moment.
abbrev pub ServableTogether : Content → Type 0
ServableTogether h = Servable (slots_of h) 0 (map at_zero (streams_in h))

-- Annex 6.5: some plan from now serves the table with the packets now held.
abbrev pub ServableFromNow : Content → Type 0
ServableFromNow h = Servable (slots_of h) (now_of h) (streams_in h)

-- Annex 12.5: 12 exactly if the table of h cannot be served together, 13 exactly if it can but not from now, 0 exactly if both; with 0 it is held.
-- h is the planner's content with the stream.
pub record AddIsExact (h : Content) (r : Changed) : Type 0 where
  pub twelve : (r.answer ≡ 12) ↔ (ServableTogether h → ⊥)
  pub thirteen : (r.answer ≡ 13) ↔ (ServableTogether h × (ServableFromNow h → ⊥))
  pub accepted : (r.answer ≡ 0) ↔ (ServableTogether h × ServableFromNow h)
  pub refused : (r.answer ≡ 0 → ⊥) ↔ ((ServableTogether h → ⊥) ∨₁ (ServableFromNow h → ⊥))
  pub stored : r.answer ≡ 0 → IsSoundWith h r.planner

-- Annex 12.4, 12.5: of every sound planner: each round into a buffer of at least B elements, and each add of a well-formed stream with a place free.
pub record Demand2 : Type 0 where
  pub round_is_lazy : (p : Planner) → Sound p → (before after : List ℕ) → (content p).setting.slots ≤ length before
      → (r : Rounded) → IsRound p before after r → RoundIsLazy p before after r
  pub add_is_exact : (p : Planner) → Sound p → (o : Offer) → IsWellFormed (content p) o → (r : Changed) → IsAdd p o r → AddIsExact (added (content p) o) r
