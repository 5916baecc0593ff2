-- When each refusal applies, from what the code's tests find.
use Rattle.std.specs.Prelude.{◌≡◌, true, false, Option, Some, None, is_some, MatchOption, ℕ, ◌+◌, ◌≤◌, ◌<◌, length}
use Rattle.std.proofs.Math.Path.{sym, subst⁻¹}
use Rattle.std.proofs.Common.{ap, subst, ◌∙◌, true≢false, arith}
use Rattle.std.proofs.lemmas.Option.{same_Some}
use Rattle.std.proofs.Math.Logic.Or
use Rattle.std.proofs.Math.Logic.{∥∥₁_elim, ∥∥₁_map}
use Rattle.std.proofs.Math.Logic.Dec.{not as Dec-not}
use mathlib.Core.HLevel.{×_prop}
use mathlib.Core.List.{List, Mem, mem-filter}
use Rattle.std.proofs.Math.Bridge.{le_prop}
use Rattle.std.proofs.Math.Decide.{ℕ_discrete}
use Rattle.basics.specs.Limits.{key_span, places}
use Rattle.places.specs.Order.{Entry}
use Rattle.places.specs.Entries.{put, without, filed_as, moved_on, Filed, InBounds}
use Rattle.places.specs.Facts.Collected.{of_collected, in_collected, collected_room, collected_full}
use Rattle.places.specs.Facts.Entries.{in_put, put_new, put_old}
use Rattle.places.specs.Changes.{IsPlaceOf, IsNowhere, KeyFits}
use Rattle.queue.specs.Layout.{id_at, key_at, entry_at, Holds, entries, Sound}
use Rattle.queue.specs.Calls.{moved}
use Rattle.queue.specs.Layout.SoundRanks.{sound_in_bounds}
use Rattle.queue.specs.Layout.SoundChange.{fewer_in_bounds, in_without}
use Rattle.queue.specs.declared.Queue.{Queue}
use Rattle.queue.specs.Layout.Change.{place_filed, filed_place, filed_somewhere, filed_as_place}

positive : (n : ℕ) → (n ≡ 0 → ⊥) → 1 ≤ n
positive n other = omega arith

-- id 0 is never filed
filed_some : (q : Queue) (id : ℕ) → Filed id (entries q) → 1 ≤ id
unfolding entries
filed_some q id filed =
    ∥∥₁_elim filed le_prop
    (λ w. ∥∥₁_elim (of_collected (entry_at q) places w.0 w.1) le_prop (λ v. omega (arith, v.2, ap (λ (e : Entry). e.id) v.3, w.2)))

-- 21: no place is free
pub full_if : (q : Queue) (free : Option ℕ) → MatchOption free (IsNowhere q.ids 0) (IsPlaceOf q.ids 0) → is_some free ≡ false → places ≤ length (entries q)
unfolding entries
full_if q None none is = omega (arith, collected_full (entry_at q) places (λ i below. positive (id_at q i) (none i below)))
full_if q (Some x) place is = absurd (true≢false is)

-- with a free place found, fewer than 64 entries are filed
pub room_if : (q : Queue) (free : Option ℕ) → MatchOption free (IsNowhere q.ids 0) (IsPlaceOf q.ids 0) → is_some free ≡ true → length (entries q) < places
unfolding entries
room_if q None none is = absurd (true≢false (sym is))
room_if q (Some x) place is = collected_room (entry_at q) places x place.within place.found

-- 22 and 24: an id that a place holds is filed
pub filed_at : (q : Queue) (id x : ℕ) → (1 ≤ id) × IsPlaceOf q.ids id x → Filed id (entries q)
filed_at q id x w = subst (λ (n : ℕ). Filed n (entries q)) w.1.found (place_filed q x (w.1.within, rw w.1.found w.0))

pub filed_if : (q : Queue) (id : ℕ) (held : Option ℕ) → MatchOption held (1 ≤ id → IsNowhere q.ids id) (λ i. (1 ≤ id) × IsPlaceOf q.ids id i)
    → is_some held ≡ true → Filed id (entries q)
filed_if q id None none is = absurd (true≢false (sym is))
filed_if q id (Some x) place is = filed_at q id x place

-- an id that no place holds is not filed, nor is id 0
pub not_filed_at : (q : Queue) (id : ℕ) → (1 ≤ id → IsNowhere q.ids id) → Filed id (entries q) → ⊥
not_filed_at q id none filed = filed_somewhere q id filed (none (filed_some q id filed))

pub not_filed_if : (q : Queue) (id : ℕ) (held : Option ℕ) → MatchOption held (1 ≤ id → IsNowhere q.ids id) (λ i. (1 ≤ id) × IsPlaceOf q.ids id i)
    → is_some held ≡ false → Filed id (entries q) → ⊥
not_filed_if q id None none is = not_filed_at q id none
not_filed_if q id (Some x) place is = absurd (true≢false is)

-- 23: the bounds of the entries with one more are those of its key beside the others
module _ (q : Queue) (out : Option ℕ) (new : Entry) (es : List Entry) (bounds : InBounds es)
    (inside : (e : Entry) → Mem e es → ∥ ((i : ℕ) × (i < places) × (out ≡ Some i → ⊥) × (1 ≤ id_at q i) × (e ≡ entry_at q i)) ∥₁)
    (all : (i : ℕ) → i < places → (out ≡ Some i → ⊥) → 1 ≤ id_at q i → Mem (entry_at q i) es) where
  beside : KeyFits q.ids q.keys out new.key → (e : Entry) → Mem e es → (new.key ≤ e.key + key_span) × (e.key ≤ new.key + key_span)
  beside fits e m =
      ∥∥₁_elim (inside e m) (×_prop le_prop le_prop)
      (λ w. subst⁻¹ (λ (f : Entry). (new.key ≤ f.key + key_span) × (f.key ≤ new.key + key_span)) w.4 (fits.1 w.0 w.1 w.2 w.3))

  fits_in_bounds : new.release ≤ new.key → KeyFits q.ids q.keys out new.key → InBounds (put new es)
  fits_in_bounds before fits =
      record {
        keys = λ e m. Or.elim le_prop (in_put new es e m) (λ same. rw same fits.0) (bounds.keys e);
        released = λ e m. Or.elim le_prop (in_put new es e m) (λ same. rw same before) (bounds.released e);
        span = λ d e md me.
            Or.elim le_prop (in_put new es d md)
            (λ d_new. Or.elim le_prop (in_put new es e me) (λ e_new. rw (d_new, e_new) (omega arith)) (λ e_old. rw d_new (beside fits e e_old).0))
            (λ d_old. Or.elim le_prop (in_put new es e me) (λ e_new. rw e_new (beside fits d d_old).1) (λ e_old. bounds.span d e d_old e_old));
      }

  in_bounds_fits : InBounds (put new es) → KeyFits q.ids q.keys out new.key
  in_bounds_fits within = (
    within.keys new (put_new new es),
    λ i below other some.
        let there = put_old new es (entry_at q i) (all i below other some) in
        (within.span new (entry_at q i) (put_new new es) there, within.span (entry_at q i) new there (put_new new es)),
  )

module _ (q : Queue) (sound : Sound q) where
  of_entries : (e : Entry) → Mem e (entries q) → ∥ ((i : ℕ) × (i < places) × (None ≡ Some i → ⊥) × (1 ≤ id_at q i) × (e ≡ entry_at q i)) ∥₁
  unfolding entries
  of_entries e m = ∥∥₁_map (of_collected (entry_at q) places e m) (λ w. (w.0, w.1, (λ same. cc), w.2, w.3))

  all_entries : (i : ℕ) → i < places → 1 ≤ id_at q i → Mem (entry_at q i) (entries q)
  unfolding entries
  all_entries i below some = in_collected (entry_at q) places i below some

  -- where the key of an entry fits beside those filed, and its release is not above it, the entries with it are within the bounds ..
  pub insert_bounds : (e : Entry) → e.release ≤ e.key → KeyFits q.ids q.keys None e.key → InBounds (put e (entries q))
  insert_bounds e = fits_in_bounds q None e (entries q) (sound_in_bounds q sound) of_entries (λ i below _. all_entries i below)

  -- .. and where they are, its key fits beside those filed ..
  pub insert_fits : (e : Entry) → InBounds (put e (entries q)) → KeyFits q.ids q.keys None e.key
  insert_fits e = in_bounds_fits q None e (entries q) (sound_in_bounds q sound) of_entries (λ i below _. all_entries i below)

  -- .. and its release is not above its key
  pub insert_released : (e : Entry) → InBounds (put e (entries q)) → e.release ≤ e.key
  insert_released e bounds = bounds.released e (put_new e (entries q))

  module _ (id x : ℕ) (holds : Holds q x) (has : id_at q x ≡ id) where
    of_rest : (e : Entry) → Mem e (without id (entries q)) → ∥ ((i : ℕ) × (i < places) × (Some x ≡ Some i → ⊥) × (1 ≤ id_at q i) × (e ≡ entry_at q i)) ∥₁
    unfolding without
    of_rest e m =
        let w = (mem-filter (λ (d : Entry). Dec-not (ℕ_discrete d.id id)) {l = entries q}).0 m in
        ∥∥₁_map (of_entries e w.0) (λ v. (v.0, v.1, (λ same. w.1 (ap (λ (d : Entry). d.id) v.4 ∙ (ap (id_at q) (sym (same_Some x v.0 same)) ∙ has))), v.3, v.4))

    all_rest : (i : ℕ) → i < places → (Some x ≡ Some i → ⊥) → 1 ≤ id_at q i → Mem (entry_at q i) (without id (entries q))
    unfolding without
    all_rest i below other some =
        (mem-filter (λ (d : Entry). Dec-not (ℕ_discrete d.id id))).1
        (all_entries i below some, λ same. other (ap Some (sound.once x i holds (below, some) (has ∙ sym same))))

    rest_bounds : InBounds (without id (entries q))
    rest_bounds = fewer_in_bounds (entries q) (without id (entries q)) (in_without id (entries q)) (sound_in_bounds q sound)

    move_bounds : (e : Entry) → e.release ≤ e.key → KeyFits q.ids q.keys (Some x) e.key → InBounds (put e (without id (entries q)))
    move_bounds e = fits_in_bounds q (Some x) e (without id (entries q)) rest_bounds of_rest all_rest

    move_key_fits : (e : Entry) → InBounds (put e (without id (entries q))) → KeyFits q.ids q.keys (Some x) e.key
    move_key_fits e = in_bounds_fits q (Some x) e (without id (entries q)) rest_bounds of_rest all_rest

-- 23 of a move, on the key at the id's place
module _ (q : Queue) (sound : Sound q) (id x amount : ℕ) (filed : Filed id (entries q)) (place : IsPlaceOf q.ids id x) where
  filed_there : filed_as id (entries q) ≡ entry_at q x
  filed_there = filed_as_place q sound id x (filed_place q id x filed place).0 (filed_place q id x filed place).1

  -- where the moved key fits beside the keys at the other places, the entries after the move are within the bounds ..
  pub moved_bounds : KeyFits q.ids q.keys (Some x) (key_at q x + amount) → InBounds (moved id amount (entries q))
  moved_bounds fits =
      let here = filed_place q id x filed place in
      rw filed_there (move_bounds q sound id x here.0 here.1 (moved_on amount (entry_at q x)) (omega (arith, sound.released x here.0)) fits)

  -- .. and where they are, it fits beside them
  pub moved_fits : InBounds (moved id amount (entries q)) → KeyFits q.ids q.keys (Some x) (key_at q x + amount)
  moved_fits within =
      let here = filed_place q id x filed place in
      move_key_fits q sound id x here.0 here.1 (moved_on amount (entry_at q x)) (rw filed_there at within)
