-- A sound queue by its places and ranks: ids and ranks differ from place to place, nodes are linked by rank, and links by rank make it sound.
use Rattle.std.specs.Prelude.{◌≡◌, ℕ, ◌+◌, ◌≤◌, ◌<◌}
use Rattle.std.proofs.Common.{inl, inr, lt_irrefl, arith}
use Rattle.std.proofs.Math.Logic.{∥∥₁_elim}
use mathlib.Core.List.{Mem}
use Rattle.std.proofs.Math.Bridge.{le_prop}
use Rattle.std.proofs.Math.Decide.{dec_le}
use Rattle.basics.specs.Facts.Lexicographic.{then_rest}
use Rattle.basics.specs.Limits.{key_span, largest_id, largest_key, places}
use Rattle.places.specs.Order.{Before}
use Rattle.places.specs.Entries.{InBounds}
use Rattle.places.specs.Collected.{Once}
use Rattle.places.specs.Facts.Collected.{of_collected, in_collected}
use Rattle.queue.specs.Layout.{id_at, key_at, release_at, entry_at, next_at, prev_at, Holds, entries, IsNode, bucket_of, AllLinked, Sound}
use Rattle.queue.specs.Layout.Ranks.{rank, rank_at, low, high, RankLinked, AllRankLinked, low_place, low_head, high_place, high_head, bucket_place}
use Rattle.queue.specs.Layout.Ranks.{rank_some, rank_none, rank_holds, holds_rank, rank_id, rank_less, less_rank}
use Rattle.queue.specs.declared.Queue.{Queue}

-- nodes are numbered below 544
pub node_below : (ids : ℕ → ℕ) (x : ℕ) → IsNode ids x → x < 544
node_below ids x (inl place) = omega (arith, place.0)
node_below ids x (inr head) = head.1

-- in a sound queue ids differ from place to place
pub sound_once : (q : Queue) → Sound q → Once (id_at q)
sound_once q sound i j li lj holds same = sound.once i j (li, holds) (lj, rw same at holds) same

-- the entries of a sound queue are within bounds
pub sound_in_bounds : (q : Queue) → Sound q → InBounds (entries q)
unfolding entries
sound_in_bounds q sound =
    record {
      keys = λ e m. ∥∥₁_elim (of_collected (entry_at q) places e m) le_prop (λ w. rw w.3 (sound.keys_in_range w.0 (w.1, w.2)));
      released = λ e m. ∥∥₁_elim (of_collected (entry_at q) places e m) le_prop (λ w. rw w.3 (sound.released w.0 (w.1, w.2)));
      span = λ d e md me.
          ∥∥₁_elim (of_collected (entry_at q) places d md) le_prop
          (λ v. ∥∥₁_elim (of_collected (entry_at q) places e me) le_prop (λ w. rw (v.3, w.3) (sound.span v.0 w.0 (v.1, v.2) (w.1, w.2))));
    }

in_entries : (q : Queue) (i : ℕ) → Holds q i → Mem (entry_at q i) (entries q)
unfolding entries
in_entries q i holds = in_collected (entry_at q) places i holds.0 holds.1

-- a node is one by its rank as by its id
rank_node : (q : Queue) (x : ℕ) → IsNode (rank_at q) x → IsNode (id_at q) x
rank_node q x (inl place) = inl (place.0, holds_rank (release_at q x) (id_at q x) place.1)
rank_node q x (inr head) = inr head

node_rank : (q : Queue) (x : ℕ) → IsNode (id_at q) x → IsNode (rank_at q) x
node_rank q x (inl place) = inl (place.0, rank_holds (release_at q x) (id_at q x) place.1)
node_rank q x (inr head) = inr head

-- a node below 64 is a place that holds an entry
pub node_place : (q : Queue) (n : ℕ) → IsNode (rank_at q) n → n < places → Holds q n
node_place q n (inl place) inside = (inside, holds_rank (release_at q n) (id_at q n) place.1)
node_place q n (inr head) inside = absurd (lt_irrefl places (omega (arith, head.0)))

abbrev ShortSpan : Queue → Type 0
ShortSpan q = (i j : ℕ) → Holds q i → Holds q j → key_at q i ≤ key_at q j + key_span

-- keys of one bucket that are at most 479 apart are one
one_key : (q : Queue) → ShortSpan q → (i j : ℕ) → Holds q i → Holds q j → bucket_of (key_at q) j ≡ bucket_of (key_at q) i → key_at q i ≡ key_at q j
one_key q span i j hi hj same = omega (arith, span i j hi hj, span j i hj hi, same, bucket_place (key_at q) i hi.0, bucket_place (key_at q) j hj.0)

-- nodes that are linked by their ranks are linked ..
ranks_linked : (q : Queue) → ((i : ℕ) → Holds q i → id_at q i ≤ largest_id) → ShortSpan q
    → AllRankLinked (rank_at q) (key_at q) (next_at q) (prev_at q) → AllLinked (entry_at q) (next_at q) (prev_at q)
ranks_linked q range span linked x node =
    let l = linked x (node_rank q x node) in
    let n = next_at q x in
    record {
      next_is_node = rank_node q n l.next_is_node;
      next_in_bucket = l.next_in_bucket;
      next_returns = l.next_returns;
      in_order = λ inside below.
          let here = node_place q x (node_rank q x node) inside in
          let there = node_place q n l.next_is_node below in
          inr (
            one_key q span x n here there l.next_in_bucket,
            less_rank (release_at q x) (release_at q n) (id_at q x) (id_at q n) here.1 there.1 (range n there)
                (omega (arith, l.in_order, low_place (rank_at q) x inside, high_place (rank_at q) n below)),
          );
      prev_is_node = rank_node q (prev_at q x) l.prev_is_node;
      prev_returns = l.prev_returns;
    }

-- ids in range, ids apart, entries within the bounds, and links: that is all there is to soundness
pub made_sound : (q : Queue) → ((i : ℕ) → Holds q i → id_at q i ≤ largest_id) → Once (id_at q)
    → InBounds (entries q) → AllRankLinked (rank_at q) (key_at q) (next_at q) (prev_at q) → Sound q
made_sound q range once bounds links =
    record {
      ids_in_range = range;
      once = λ i j hi hj. once i j hi.0 hj.0 hi.1;
      keys_in_range = λ i hi. bounds.keys (entry_at q i) (in_entries q i hi);
      released = λ i hi. bounds.released (entry_at q i) (in_entries q i hi);
      span = span;
      links = ranks_linked q range span links;
    }
  where
    span : ShortSpan q
    span i j hi hj = bounds.span (entry_at q i) (entry_at q j) (in_entries q i hi) (in_entries q j hj)

-- ranks in a sound queue are below that of a head that the list comes back to
pub rank_small : (release key id : ℕ) → release ≤ key → key ≤ largest_key → id ≤ largest_id → rank release id < 65_536_000_032_768
rank_small release key id before within small = go (dec_le 1 id)
  where
    go : Dec (1 ≤ id) → rank release id < 65_536_000_032_768
    go (yes some) = omega (arith, rank_some release id some)
    go (no none) = omega (arith, rank_none release id (omega arith))

-- so the rank of an entry in a sound queue is below 65,536,000,032,768
pub sound_rank : (q : Queue) → Sound q → (i : ℕ) → Holds q i → rank_at q i < 65_536_000_032_768
sound_rank q sound i holds =
    rank_small (release_at q i) (key_at q i) (id_at q i) (sound.released i holds) (sound.keys_in_range i holds) (sound.ids_in_range i holds)

-- .. and in a sound queue nodes are linked by their ranks
module _ (q : Queue) (sound : Sound q) (x : ℕ) where
  by_rank : (n : ℕ) → IsNode (id_at q) x → IsNode (id_at q) n → bucket_of (key_at q) n ≡ bucket_of (key_at q) x
      → (x < places → n < places → Before (entry_at q x) (entry_at q n)) → low (rank_at q) x < high (rank_at q) n
  by_rank n (inr head) (inr on) bucket order = omega (arith, low_head (rank_at q) x head.0, high_head (rank_at q) n on.0)
  by_rank n (inr head) (inl on) bucket order =
      let ranked = rank_holds (release_at q n) (id_at q n) on.1 in
      omega (arith, low_head (rank_at q) x head.0, high_place (rank_at q) n on.0)
  by_rank n (inl place) (inr on) bucket order = omega (arith, low_place (rank_at q) x place.0, high_head (rank_at q) n on.0, sound_rank q sound x place)
  by_rank n (inl place) (inl on) bucket order =
      rw (low_place (rank_at q) x place.0, high_place (rank_at q) n on.0)
      (rank_less (release_at q x) (release_at q n) (id_at q x) (id_at q n) place.1 (sound.ids_in_range x place) on.1
      (then_rest (one_key q sound.span x n place on bucket) (order place.0 on.0)))

  -- a node's next and prev are nodes that lead back to it, and the next is in its bucket and above it by rank
  pub rank_links : IsNode (rank_at q) x → RankLinked (rank_at q) (key_at q) (next_at q) (prev_at q) x
  rank_links node =
      let here = rank_node q x node in
      let l = sound.links x here in
      record {
        next_is_node = node_rank q (next_at q x) l.next_is_node;
        next_in_bucket = l.next_in_bucket;
        next_returns = l.next_returns;
        in_order = by_rank (next_at q x) here l.next_is_node l.next_in_bucket l.in_order;
        prev_is_node = node_rank q (prev_at q x) l.prev_is_node;
        prev_returns = l.prev_returns;
      }

-- a new id has a new rank
pub new_rank : (q : Queue) → Sound q → (release id : ℕ) → 1 ≤ id → id ≤ largest_id
    → ((i : ℕ) → i < places → id_at q i ≡ id → ⊥) → (i : ℕ) → i < places → rank_at q i ≡ rank release id → ⊥
new_rank q sound release id some small unused i below same = go (dec_le 1 (id_at q i))
  where
    go : Dec (1 ≤ id_at q i) → ⊥
    go (yes holds) = unused i below (rank_id (release_at q i) release (id_at q i) id holds (sound.ids_in_range i (below, holds)) some small same)
    go (no free) = lt_irrefl 0 (omega (arith, same, rank_none (release_at q i) (id_at q i) (omega arith), rank_holds release id some))

-- and so do ids that differ
pub sound_rank_once : (q : Queue) → Sound q → Once (rank_at q)
sound_rank_once q sound i j li lj holds same =
    let hi = holds_rank (release_at q i) (id_at q i) holds in
    let hj = holds_rank (release_at q j) (id_at q j) (rw same at holds) in
    let small_i = sound.ids_in_range i (li, hi) in
    let small_j = sound.ids_in_range j (lj, hj) in
    sound.once i j (li, hi) (lj, hj) (rank_id (release_at q i) (release_at q j) (id_at q i) (id_at q j) hi small_i hj small_j same)
