-- What round answers and leaves: Annex, chapter 7.
use Rattle.std.specs.Prelude.{◌≡◌, Result, Ok, Err, ℕ, ◌-◌, ◌<◌, length, take, drop}
use Rattle.std.proofs.Math.Logic.{ite}
use mathlib.Core.List.{List, [], ◌∷◌, ◌++◌, map, dec_mem}
use Rattle.std.proofs.Math.Decide.{dec_lt, ℕ_discrete}
use Rattle.basics.specs.Refusals.{Refusal, answer_of}
use Rattle.basics.specs.Answers.{number_of}
use Rattle.basics.specs.declared.refusals.Refusal.{Refusal as Named}
use Rattle.rules.specs.Streams.{Stream}
use Rattle.rules.specs.Slots.{slots}
use Rattle.table.specs.Changes.{sent}
use Rattle.table.specs.declared.Record.{Record}
use Rattle.state.specs.Content.{slots_of, streams_in, Content, content, with_table, with_last, with_waiting}
use Rattle.state.proofs.Decide.{decide_sound, decide_late}
use Rattle.planner.specs.AddRemove.{unsound, IsSoundWith}
use Rattle.state.specs.declared.Planner.{Planner}
use Rattle.planner.specs.declared.Rounded.{Rounded}
use Rattle.planner.specs.declared.HeldRound.{HeldRound}
use Rattle.state.specs.Start.{IsStart, StartsLate}

-- Annex 7.26: 16 if the buffer has fewer than B elements, however many numbers there are to write.
abbrev pub short_buffer : Content → List ℕ → Refusal
short_buffer h buffer = record { number = 16; Applies = length buffer < h.setting.slots; decided = dec_lt (length buffer) h.setting.slots }

-- Annex 7.27: 17 if the lazy start is after 1,000,000,000.
abbrev pub late_start : Planner → Refusal
late_start p = record { number = 17; Applies = StartsLate p; decided = decide_late p (decide_sound p) }

-- Annex 7.24, 7.33: the refusals of round in their order: 5, 16, 17. Whether there is a stream is not asked, so there is no 15.
abbrev pub round_refusals : Planner → List ℕ → List Refusal
round_refusals p buffer = unsound p ∷ short_buffer (content p) buffer ∷ late_start p ∷ []

-- Annex 7.29, 7.48: the ids that a round at s lists: those of its slots, in their order.
abbrev pub ids_at : Content → ℕ → List ℕ
ids_at h s = map (λ (x : Stream). x.number) (slots (slots_of h) s (streams_in h))

-- Annex 7.30: a record whose id is listed at its next packet, another as it is.
abbrev pub sent_in : List ℕ → Record → Record
sent_in ids r = ite (dec_mem ℕ_discrete r.id ids) (sent r) r

-- Annex 7.30: what a round at s does to L and the records: L is s, each record served is at its next packet, and the rest is as it was.
abbrev pub rounded : Content → ℕ → Content
rounded h s = with_table (with_last h s) (map (sent_in (ids_at h s)) h.table)

-- Annex 7.46: the slots of B that the ids of a round at s leave free.
abbrev pub free_at : Content → ℕ → ℕ
free_at h s = h.setting.slots - length (ids_at h s)

-- Annex 7.29, 7.46: what a round at s lists: its ids, then as many waiting messages as fit in the free slots, those that were sent first.
abbrev pub listed_at : Content → ℕ → List ℕ
listed_at h s = ids_at h s ++ take (free_at h s) h.waiting

-- Annex 7.30, 7.47: what the planner holds after a round at s: the messages that were listed no longer wait, the others do.
abbrev pub left_at : Content → ℕ → Content
left_at h s = with_waiting (rounded h s) (drop (free_at h s) h.waiting)

-- Annex 7.4, 7.31: a refused round hands back the planner just as it was, gives start 0 and n 0, and leaves every place of the buffer.
pub record IsRefusedRound (p : Planner) (before after : List ℕ) (r : Rounded) : Type 0 where
  pub planner : r.planner ≡ p
  pub start : r.start ≡ 0
  pub n : r.n ≡ 0
  pub buffer : after ≡ before

-- Annex 7.28, 7.29: a held round gives the lazy start, and for n the number of what it lists, which stands in the buffer's first n elements; the later
-- ones are untouched; and the planner is sound and holds what is left after the round.
pub record IsHeldRound (p : Planner) (before after : List ℕ) (r : Rounded) : Type 0 where
  pub start : IsStart (content p) r.start
  pub n : r.n ≡ length (listed_at (content p) r.start)
  pub buffer : after ≡ listed_at (content p) r.start ++ drop r.n before
  pub planner : IsSoundWith (left_at (content p) r.start) r.planner

-- Annex 7.3: a round gives the answer of its refusals; it is refused where that is not 0, else held.
pub record IsRound (p : Planner) (before after : List ℕ) (r : Rounded) : Type 0 where
  pub answer : r.answer ≡ answer_of (round_refusals p before)
  pub refused : (answer_of (round_refusals p before) ≡ 0 → ⊥) → IsRefusedRound p before after r
  pub held : answer_of (round_refusals p before) ≡ 0 → IsHeldRound p before after r

-- Annex 7.2, 7.31: what a round answers by its outcome, and the planner after it: 0 for start and n where it is refused.
abbrev pub rounded_by : Result HeldRound Named → Planner → Rounded
rounded_by (Ok held) p = record { answer = 0; planner = p; start = held.start; n = held.n }
rounded_by (Err refusal) p = record { answer = number_of refusal; planner = p; start = 0; n = 0 }
