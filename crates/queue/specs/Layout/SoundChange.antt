-- A sound queue stays sound when an entry is put in or taken out, and its entries change as the list says.
use Rattle.std.specs.Prelude.{◌≡◌, ℕ, ◌≤◌, ◌<◌, length, get_or, set}
use Rattle.std.proofs.Math.Path.{refl, sym, ap, subst, subst⁻¹}
use Rattle.std.proofs.Common.{◌∙◌, inl, inr, arith}
use Rattle.std.proofs.Math.Logic.Dec.{not as Dec-not}
use mathlib.Core.List.{List, Mem, mem-filter}
use Rattle.std.proofs.Math.Nat.{lt_irrefl}
use Rattle.std.proofs.Math.Decide.{ℕ_discrete}
use Rattle.std.proofs.Math.ListN.{length-set}
use Rattle.std.proofs.Math.Seq.{get_or-set_same, get_or-set_other}
use Rattle.basics.specs.Limits.{largest_id, places}
use Rattle.places.specs.Order.{Entry, triple}
use Rattle.places.specs.Entries.{put, without, InBounds}
use Rattle.places.specs.Changes.{IsSet}
use Rattle.places.specs.Facts.Collected.{put_once, put_collected, taken_once, taken_collected}
use Rattle.places.specs.Facts.Entries.{entry_path}
use Rattle.queue.specs.Layout.{id_at, key_at, release_at, entry_at, next_at, prev_at, Holds, entries, IsNode, bucket_of, Sound}
use Rattle.queue.specs.Layout.Ranks.{rank, rank_at, RankLinked, AllRankLinked, rank_none, rank_holds}
use Rattle.queue.specs.Layout.SoundRanks.{node_below, sound_once, sound_in_bounds, made_sound, rank_links}
use Rattle.queue.specs.Layout.LinkChange.{next_differs, prev_differs, put_linked, taken_linked}
use Rattle.queue.specs.Linking.{HasShape, put_before, taken_out, IsPosition}
use Rattle.queue.specs.declared.Queue.{Queue}

is_set : (l : List ℕ) (x v : ℕ) → x < length l → IsSet (λ i. get_or l i 0) x v (λ i. get_or (set l x v) i 0)
is_set l x v inside = record { at = get_or-set_same l x v 0 inside; elsewhere = λ y other. get_or-set_other l x y v 0 other }

-- an entry set at a place, and its rank
entry_set_at : (q q' : Queue) (x : ℕ) (e : Entry) → IsSet (id_at q) x e.id (id_at q') → IsSet (key_at q) x e.key (key_at q')
    → IsSet (release_at q) x e.release (release_at q') → IsSet (entry_at q) x e (entry_at q')
entry_set_at q q' x e id key release =
    record {
      at = entry_path (entry_at q' x) e key.at release.at id.at;
      elsewhere = λ y other. entry_path (entry_at q' y) (entry_at q y) (key.elsewhere y other) (release.elsewhere y other) (id.elsewhere y other);
    }

rank_set_at : (q q' : Queue) (x : ℕ) (e : Entry) → IsSet (entry_at q) x e (entry_at q') → IsSet (rank_at q) x (rank e.release e.id) (rank_at q')
rank_set_at q q' x e set =
    record {
      at = ap (λ (a : Entry). rank a.release a.id) set.at;
      elsewhere = λ y other. ap (λ (a : Entry). rank a.release a.id) (set.elsewhere y other);
    }

module _ (q : Queue) (sound : Sound q) (shape : HasShape q) (x : ℕ) (e : Entry) (n : ℕ)
    (inside : x < places) (free : id_at q x ≡ 0) (some : 1 ≤ e.id) (small : e.id ≤ largest_id)
    (unused : (i : ℕ) → i < places → id_at q i ≡ e.id → ⊥) (position : IsPosition q e.key (rank e.release e.id) n) where
  q' : Queue
  q' = put_before q x e n

  p : ℕ
  p = prev_at q n

  node : IsNode (rank_at q) n
  node = position.node

  here : RankLinked (rank_at q) (key_at q) (next_at q) (prev_at q) n
  here = rank_links q sound n node

  set_entry : IsSet (entry_at q) x e (entry_at q')
  unfolding q'
  set_entry =
      entry_set_at q q' x e (is_set q.ids x e.id (omega (arith, shape.ids))) (is_set q.keys x e.key (omega (arith, shape.keys)))
      (is_set q.releases x e.release (omega (arith, shape.releases)))

  set_key : IsSet (key_at q) x e.key (key_at q')
  unfolding q'
  set_key = is_set q.keys x e.key (omega (arith, shape.keys))

  free_rank : rank_at q x ≡ 0
  free_rank = rank_none (release_at q x) (id_at q x) free

  not_x : (y : ℕ) → IsNode (rank_at q) y → y ≡ x → ⊥
  not_x y (inl place) e = lt_irrefl 0 (omega (arith, subst (λ (z : ℕ). 1 ≤ rank_at q z) e place.1, free_rank))
  not_x y (inr head) e = lt_irrefl 0 (omega (arith, e))

  -- a new id at a free place, linked in where its rank goes, is put where it belongs among the entries
  pub put_entries : entries (put_before q x e n) ≡ put e (entries q)
  unfolding entries q'
  put_entries = put_collected (entry_at q) (entry_at q') x e inside set_entry free some (sound_once q sound) unused

  links' : AllRankLinked (rank_at q') (key_at q') (next_at q') (prev_at q')
  unfolding q' p node
  links' =
      let p_node = here.prev_is_node in
      let p_below = node_below (rank_at q) p p_node in
      let n_below = node_below (rank_at q) n node in
      put_linked (rank_at q) (rank_at q') (key_at q) (key_at q') (next_at q) (next_at q') (prev_at q) (prev_at q') x (rank e.release e.id) e.key p
      (rank_links q sound) (rank_set_at q q' x e set_entry) set_key inside free_rank (rank_holds e.release e.id some) p_node
      (sym (rank_links q sound p p_node).next_in_bucket ∙ (ap (bucket_of (key_at q)) here.prev_returns ∙ position.bucket))
      position.above (rw here.prev_returns position.below)
      (get_or-set_other (set q.next p x) x p n 0 (not_x p p_node) ∙ get_or-set_same q.next p x 0 (omega (arith, shape.next)))
      (get_or-set_same (set q.next p x) x n 0 (omega (arith, shape.next, length-set q.next p x)) ∙ sym here.prev_returns)
      (λ y not_p not_here. get_or-set_other (set q.next p x) x y n 0 not_here ∙ get_or-set_other q.next p y x 0 not_p)
      (ap (prev_at q') here.prev_returns
      ∙ (get_or-set_other (set q.prev n x) x n p 0 (not_x n node) ∙ get_or-set_same q.prev n x 0 (omega (arith, shape.prev))))
      (get_or-set_same (set q.prev n x) x p 0 (omega (arith, shape.prev, length-set q.prev n x)))
      (λ y not_n not_here. get_or-set_other (set q.prev n x) x y p 0 not_here ∙ get_or-set_other q.prev n y x 0 (λ e. not_n (e ∙ sym here.prev_returns)))

  -- and the queue is still sound, if the entries with the new one are within the bounds
  pub put_sound : InBounds (put e (entries q)) → Sound (put_before q x e n)
  unfolding q'
  put_sound bounds =
      made_sound q' range (put_once (entry_at q) (entry_at q') x e inside set_entry free some (sound_once q sound) unused) (rw put_entries bounds) links'
    where
      range : (i : ℕ) → Holds q' i → id_at q' i ≤ largest_id
      range i holds = go (ℕ_discrete i x)
        where
          go : Dec (i ≡ x) → id_at q' i ≤ largest_id
          go (yes same) = subst⁻¹ (λ (j : ℕ). id_at q' j ≤ largest_id) same (subst⁻¹ (λ (a : Entry). a.id ≤ largest_id) set_entry.at small)
          go (no other) =
              let old = ap (λ (a : Entry). a.id) (set_entry.elsewhere i other) in
              rw old (sound.ids_in_range i (holds.0, rw old at holds.1))

-- fewer entries are within the bounds too
pub fewer_in_bounds : (es fs : List Entry) → ((e : Entry) → Mem e fs → Mem e es) → InBounds es → InBounds fs
fewer_in_bounds es fs inside bounds =
    record {
      keys = λ e m. bounds.keys e (inside e m);
      released = λ e m. bounds.released e (inside e m);
      span = λ d e md me. bounds.span d e (inside d md) (inside e me);
    }

-- what is left without an id was there before
pub in_without : (id : ℕ) (es : List Entry) (e : Entry) → Mem e (without id es) → Mem e es
unfolding without
in_without id es e m = ((mem-filter (λ (x : Entry). Dec-not (ℕ_discrete x.id id))).0 m).0

module _ (q : Queue) (sound : Sound q) (shape : HasShape q) (x : ℕ) (holds : Holds q x) where
  out : Queue
  out = taken_out q x

  there : RankLinked (rank_at q) (key_at q) (next_at q) (prev_at q) x
  there = rank_links q sound x (inl (holds.0, rank_holds (release_at q x) (id_at q x) holds.1))

  free_entry : IsSet (entry_at q) x (triple 0 0 0) (entry_at out)
  unfolding out
  free_entry =
      entry_set_at q out x (triple 0 0 0) (is_set q.ids x 0 (omega (arith, shape.ids))) (is_set q.keys x 0 (omega (arith, shape.keys)))
      (is_set q.releases x 0 (omega (arith, shape.releases)))

  free_key : IsSet (key_at q) x 0 (key_at out)
  unfolding out
  free_key = is_set q.keys x 0 (omega (arith, shape.keys, holds.0))

  freed_rank : IsSet (rank_at q) x 0 (rank_at out)
  freed_rank =
      let set_rank = rank_set_at q out x (triple 0 0 0) free_entry in
      record { at = set_rank.at ∙ rank_none 0 0 refl; elsewhere = set_rank.elsewhere }

  -- with the entry at a place taken out, the entries are those of the other ids, as they stood
  pub taken_entries : entries (taken_out q x) ≡ without (id_at q x) (entries q)
  unfolding entries out
  taken_entries = taken_collected (entry_at q) (entry_at out) x (triple 0 0 0) holds.0 free_entry refl holds.1 (sound_once q sound)

  -- and the queue is still sound
  pub taken_sound : Sound (taken_out q x)
  unfolding out
  taken_sound =
      let p = prev_at q x in
      let n = next_at q x in
      let p_below = node_below (rank_at q) p there.prev_is_node in
      let n_below = node_below (rank_at q) n there.next_is_node in
      let ranked = rank_holds (release_at q x) (id_at q x) holds.1 in
      let n_differs = next_differs (rank_at q) (key_at q) (next_at q) (prev_at q) x there holds.0 in
      let p_differs = prev_differs (rank_at q) (key_at q) (next_at q) (prev_at q) x there holds.0 in
      made_sound out
      (λ i held.
      let other : i ≡ x → ⊥ = λ e. lt_irrefl 0 (omega (arith, subst (λ (j : ℕ). 1 ≤ id_at out j) e held.1, ap (λ (a : Entry). a.id) free_entry.at)) in
      let old = ap (λ (a : Entry). a.id) (free_entry.elsewhere i other) in
      rw old (sound.ids_in_range i (held.0, rw old at held.1)))
      (taken_once (entry_at q) (entry_at out) x (triple 0 0 0) holds.0 free_entry refl holds.1 (sound_once q sound))
      (rw taken_entries (fewer_in_bounds (entries q) (without (id_at q x) (entries q)) (in_without (id_at q x) (entries q)) (sound_in_bounds q sound)))
      (taken_linked (rank_at q) (rank_at out) (key_at q) (key_at out) (next_at q) (next_at out) (prev_at q) (prev_at out) x 0
      (rank_links q sound) freed_rank free_key holds.0 ranked
      (get_or-set_other (set q.next p n) x p 0 0 p_differs ∙ get_or-set_same q.next p n 0 (omega (arith, shape.next)))
      (λ y not_p not_here. get_or-set_other (set q.next p n) x y 0 0 not_here ∙ get_or-set_other q.next p y n 0 not_p)
      (get_or-set_other (set q.prev n p) x n 0 0 n_differs ∙ get_or-set_same q.prev n p 0 (omega (arith, shape.prev)))
      (λ y not_n not_here. get_or-set_other (set q.prev n p) x y 0 0 not_here ∙ get_or-set_other q.prev n y p 0 not_n))
