-- What a held round wrote: the ids of its slots, and behind them the first messages that waited.
use Rattle.std.specs.Prelude.{◌≡◌, ℕ, ◌≤◌, take, drop}
use Rattle.std.proofs.Common.{sym, ap, ◌∙◌, take_at}
use mathlib.Core.List.{List, Mem}
use Rattle.basics.specs.Limits.{largest_id}
use Rattle.messages.specs.Waiting.{IsMessage}
use Rattle.messages.specs.Numbers.{stream_ids, message_numbers}
use Rattle.messages.specs.Facts.Numbers.{stream_ids_of, message_numbers_of}
use Rattle.state.specs.Content.{Content, content}
use Rattle.state.specs.Sound.{Sound}
use Rattle.planner.specs.Round.{ids_at, free_at, listed_at, IsHeldRound}
use Rattle.planner.proofs.Facts.Listed.{listed_ids, listed_messages}
use Rattle.state.specs.declared.Planner.{Planner}
use Rattle.planner.specs.declared.Rounded.{Rounded}

-- the first n elements are what the round lists
pub written : (q : Planner) (before after : List ℕ) (r : Rounded) → IsHeldRound q before after r → take r.n after ≡ listed_at (content q) r.start
written q before after r is = ap (take r.n) is.buffer ∙ take_at (listed_at (content q) r.start) (drop r.n before) r.n (sym is.n)

module _ (q : Planner) (sound : Sound q) (before after : List ℕ) (r : Rounded) (is : IsHeldRound q before after r) where
  abbrev h : Content
  h = content q

  low : (id : ℕ) → Mem id (ids_at h r.start) → id ≤ largest_id
  low id m = (listed_ids h sound.content_sound r.start is.start id m).1

  each : (n : ℕ) → Mem n (take (free_at h r.start) h.waiting) → IsMessage n
  each = listed_messages sound.content_sound.in_range.mail (free_at h r.start)

  -- the ids among them are those of the slots ..
  pub ids_written : stream_ids (take r.n after) ≡ ids_at h r.start
  ids_written = ap stream_ids (written q before after r is) ∙ stream_ids_of (ids_at h r.start) (take (free_at h r.start) h.waiting) low each

  -- .. and the others the first messages that waited
  pub messages_written : message_numbers (take r.n after) ≡ take (free_at h r.start) h.waiting
  messages_written =
      ap message_numbers (written q before after r is) ∙ message_numbers_of (ids_at h r.start) (take (free_at h r.start) h.waiting) low each
