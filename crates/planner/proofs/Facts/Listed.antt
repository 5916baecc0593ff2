-- How many numbers a round lists, and which: ids of records, and behind them messages.
use Rattle.std.specs.Prelude.{◌≡◌, ℕ, ◌≤◌, length, take, drop}
use Rattle.std.proofs.Common.{subst, arith, length-append, length-take, take-append-drop}
use Rattle.std.proofs.Math.Logic.{∥∥₁_elim}
use mathlib.Core.HLevel.{×_prop}
use mathlib.Core.List.{List, Mem, mem-map, mem-append_left}
use Rattle.std.proofs.Math.Bridge.{le_prop}
use Rattle.std.proofs.lemmas.List.{length-map}
use Rattle.basics.specs.Limits.{largest_id}
use Rattle.basics.specs.OneTo.{OneTo}
use Rattle.rules.specs.Streams.{Stream}
use Rattle.rules.specs.Slots.{slots}
use Rattle.rules.proofs.Facts.Slots.{IsChoice}
use Rattle.rules.proofs.Facts.RoundKept.{round_choice}
use Rattle.table.specs.Facts.Streams.{all_streams}
use Rattle.messages.specs.Waiting.{IsMessage}
use Rattle.state.specs.Content.{Content, slots_of, streams_in, now_of, cap_of}
use Rattle.state.specs.Sound.{MailInRange, ContentSound}
use Rattle.planner.specs.Round.{ids_at, free_at, listed_at}
use Rattle.state.specs.Start.{IsStart}
use Rattle.state.proofs.Facts.Sound.{content_ready}

-- a round has no more ids than slots for streams ..
few_ids : (h : Content) (s : ℕ) → length (ids_at h s) ≤ slots_of h
unfolding slots
few_ids h s = rw (length-map (slots (slots_of h) s (streams_in h)) (λ (x : Stream). x.number), length-take) (omega arith)

-- .. so that with messages on a slot of B is free for them ..
pub slot_free : (h : Content) → ContentSound h → h.setting.messages ≡ 1 → (s : ℕ) → 1 ≤ free_at h s
slot_free h sound on s = omega (arith, few_ids h s, on, sound.in_range.setting.slots)

-- .. and with them it lists B numbers at most
pub few_listed : (h : Content) (s : ℕ) → length (listed_at h s) ≤ h.setting.slots
few_listed h s =
    omega (arith, few_ids h s, length-append (ids_at h s) (take (free_at h s) h.waiting), length-take (free_at h s) h.waiting)

-- the messages that it lists are messages
pub listed_messages : {on : ℕ} {ns : List ℕ} → MailInRange on ns → (k n : ℕ) → Mem n (take k ns) → IsMessage n
listed_messages {ns = ns} mail k n m = mail.range n (subst (λ (l : List ℕ). Mem n l) (take-append-drop k ns) (mem-append_left (drop k ns) m))

module _ (h : Content) (sound : ContentSound h) (s : ℕ) (start : IsStart h s) where
  -- the streams of its slots are a choice of those that it may serve
  pub is_choice : IsChoice (slots_of h) s (streams_in h) (slots (slots_of h) s (streams_in h))
  is_choice =
      round_choice (slots_of h) (now_of h) (streams_in h) (content_ready h sound) sound.in_range.setting.slots.0 (cap_of h) s s start (omega arith)

  -- the ids that it lists are those of records
  pub listed_ids : (id : ℕ) → Mem id (ids_at h s) → OneTo largest_id id
  listed_ids id m =
      ∥∥₁_elim (mem-map.0 m) (×_prop le_prop le_prop)
      (λ (x, slot, same). subst (λ (n : ℕ). OneTo largest_id n) same (of_record x (is_choice.inside x slot)))
    where
      of_record : (x : Stream) → Mem x (streams_in h) → OneTo largest_id x.number
      of_record =
          all_streams (λ (x : Stream). OneTo largest_id x.number) (λ x. ×_prop le_prop le_prop) h.table (λ q m. (sound.in_range.records.each q m).id)
