-- What a layer above may use of a queue: its entries, with nothing about places or links. The calls' contracts say how they change.
use Rattle.std.specs.Prelude.{◌≡◌, refl, ◌↔◌, ℕ, ◌≤◌, length}
use Rattle.std.proofs.Math.Path.{sym, ap, subst⁻¹}
use Rattle.std.proofs.Common.{◌∙◌, arith}
use Rattle.std.proofs.Math.Logic.Or
use Rattle.std.proofs.Math.Logic.{◌∨₁◌, ∥∥₁_elim, ∥∥₁_prop}
use Rattle.std.proofs.Math.Logic.Dec.{not as Dec-not}
use Rattle.std.proofs.Math.Logic.Iff.{or as Iff-or, rfl as Iff-rfl, trans as Iff-trans}
use mathlib.Core.HLevel.{×_prop}
use mathlib.Core.List.{List, [], Mem, mem-filter}
use Rattle.std.proofs.Math.Bridge.{le_prop}
use Rattle.std.proofs.Math.Decide.{ℕ_discrete}
use Rattle.std.proofs.lemmas.List.{get_or-replicate}
use Rattle.basics.specs.Limits.{largest_id, places}
use Rattle.basics.specs.OneTo.{OneTo}
use Rattle.places.specs.Order.{Entry}
use Rattle.places.specs.Entries.{put, without, moved_on}
use Rattle.places.specs.Facts.Entries.{InOrder, entry_set, in_put, put_new, put_old}
use Rattle.places.specs.Facts.Collected.{of_collected, collected_in_order, collected_length}
use Rattle.queue.specs.Layout.{entry_at, entries, empty_queue, Sound}
use Rattle.queue.specs.Calls.{moved, HasEntries}
use Rattle.queue.specs.Layout.SoundRanks.{sound_once}
use Rattle.queue.specs.Layout.Change.{filed_as_only}
use Rattle.queue.specs.Layout.Heads.{lone_heads_alone, alone_empty}
use Rattle.queue.specs.declared.Queue.{Queue}

-- the empty queue is sound and has no entry
pub empty_has_none : HasEntries empty_queue []
unfolding empty_queue
empty_has_none = alone_empty empty_queue (λ i below. get_or-replicate places i 0 0 below) lone_heads_alone lone_heads_alone

-- No two entries have one id.
abbrev pub AreOnce : List Entry → Type 0
AreOnce es = (d e : Entry) → Mem d es → Mem e es → d.id ≡ e.id → d ≡ e

module _ (q : Queue) (sound : Sound q) where
  -- entries are in order, by key, then release, then id
  pub entries_in_order : InOrder (entries q)
  unfolding entries
  entries_in_order = collected_in_order (entry_at q) (sound_once q sound) places (omega arith)

  -- there are at most 64
  pub entries_at_most : length (entries q) ≤ places
  unfolding entries
  entries_at_most = collected_length (entry_at q) places

  -- ids are 1 to 32,767 ..
  pub entry_id_in_range : (e : Entry) → Mem e (entries q) → OneTo largest_id e.id
  unfolding entries
  entry_id_in_range e m =
      ∥∥₁_elim (of_collected (entry_at q) places e m) (×_prop le_prop le_prop)
      (λ w. subst⁻¹ (λ (a : Entry). OneTo largest_id a.id) w.3 (w.2, sound.ids_in_range w.0 (w.1, w.2)))

  -- .. and each is filed once
  pub entry_once : AreOnce (entries q)
  unfolding entries
  entry_once d e md me same =
      ∥∥₁_elim (of_collected (entry_at q) places d md) (entry_set d e)
      (λ v. ∥∥₁_elim (of_collected (entry_at q) places e me) (entry_set d e)
      (λ w. v.3
      ∙ (ap (entry_at q)
      (sound_once q sound v.0 w.0 v.1 w.1 v.2 (sym (ap (λ (a : Entry). a.id) v.3) ∙ (same ∙ ap (λ (a : Entry). a.id) w.3)))
      ∙ sym w.3)))

-- an entry is left by `without` exactly if it was there under another id
pub in_without_iff : (id : ℕ) (es : List Entry) (e : Entry) → Mem e (without id es) ↔ (Mem e es × (e.id ≡ id → ⊥))
unfolding without
in_without_iff id es e = mem-filter (λ (a : Entry). Dec-not (ℕ_discrete a.id id))

-- the entries after an insertion: the new one, and all that were there
pub in_put_iff : (new : Entry) (es : List Entry) (e : Entry) → Mem e (put new es) ↔ ((e ≡ new) ∨₁ Mem e es)
in_put_iff new es e = (in_put new es e, λ either. Or.elim ∥∥₁_prop either (λ same. rw same (put_new new es)) (put_old new es e))

-- the entries after a move: the moved one, and those of other ids
pub in_moved_iff : (es : List Entry) → AreOnce es → (d : Entry) → Mem d es → (amount : ℕ) → (e : Entry)
    → Mem e (moved d.id amount es) ↔ ((e ≡ moved_on amount d) ∨₁ (Mem e es × (e.id ≡ d.id → ⊥)))
in_moved_iff es once d m amount e =
    rw (filed_as_only d.id es d m refl (λ c mc same. once c d mc m same))
    (Iff-trans (in_put_iff (moved_on amount d) (without d.id es) e)
    (Iff-or Iff-rfl (in_without_iff d.id es e)))
