-- The entry that follows a node: along its bucket's list, or first in a later bucket.
use Rattle.std.specs.Prelude.{◌≡◌, refl, ℕ, ◌+◌, ◌≤◌, ◌<◌}
use Rattle.std.proofs.Common.{sym, subst, ◌∙◌, inl, inr, lt_irrefl, arith}
use Rattle.std.proofs.Math.Logic.{∥∥₁_elim}
use mathlib.Core.HLevel.{×_prop}
use Rattle.std.proofs.Math.Bridge.{le_prop}
use Rattle.basics.specs.Lexicographic.{Then}
use Rattle.basics.specs.Facts.Lexicographic.{then_zero}
use Rattle.basics.specs.Limits.{buckets, key_span, places}
use Rattle.places.specs.Order.{Entry, Before}
use Rattle.queue.specs.Layout.{id_at, key_at, release_at, next_at, entry_at, Holds, IsNode, Sound, bucket_of_key, bucket_after}
use Rattle.queue.specs.Layout.Ranks.{rank_at, low, rank_less, less_rank, low_place, low_head, high_place, bucket_place}
use Rattle.queue.specs.Linking.{SearchFrom, IsFirstAfter, IsNoneAfter, StandsAt, point_at}
use Rattle.queue.specs.Layout.Buckets.{place_rank, AtBucket, AtNode, at_first_bucket, bucket_below, ahead_of_next}
use Rattle.queue.specs.Layout.Buckets.{at_first_node, at_next_bucket, left_at_node, left_with_none}
use Rattle.queue.specs.Layout.SoundRanks.{node_place, rank_links}
use Rattle.queue.specs.declared.Queue.{Queue}

module _ (q : Queue) (sound : Sound q) (key n : ℕ) (stands : StandsAt q key n) where
  abbrev point : Entry
  point = point_at q key n

  not_before : (i : ℕ) → Before point (entry_at q i) → key ≤ key_at q i
  not_before i (inl less) = omega arith
  not_before i (inr w) = omega (arith, w.0)

  -- keys lie within 479 of one that is held
  near : (i : ℕ) → Holds q i → (key_at q i ≤ key + key_span) × (key ≤ key_at q i + key_span)
  near i holds =
      ∥∥₁_elim stands.held (×_prop le_prop le_prop)
      (λ h. (omega (arith, sound.span i h.0 holds h.1, h.2), omega (arith, sound.span h.0 i h.1 holds, h.2)))

  from_here : SearchFrom q key point
  from_here i holds after = (not_before i after, (near i holds).0)

  -- so the bucket has no other key
  own_key : (i : ℕ) → Holds q i → bucket_of_key (key_at q i) ≡ bucket_of_key key → key_at q i ≡ key
  own_key i holds same = let w = near i holds in omega (arith, same)

  at_own_bucket : AtBucket q key point (bucket_of_key key) 0
  at_own_bucket = at_first_bucket q sound key point from_here (bucket_of_key key) refl

  -- what a node stands for is before an entry of the bucket exactly if its rank is
  node_rank_less : (i : ℕ) → Holds q i → IsNode (rank_at q) n
      → Then (low (release_at q) n) (release_at q i) (low (id_at q) n < id_at q i) → low (rank_at q) n < rank_at q i
  node_rank_less i holds (inr head) earlier = omega (arith, low_head (rank_at q) n head.0, place_rank q i holds)
  node_rank_less i holds (inl place) earlier =
      let here = node_place q n (inl place) place.0 in
      rw (low_place (rank_at q) n place.0)
      (rank_less (release_at q n) (release_at q i) (id_at q n) (id_at q i) here.1 (sound.ids_in_range n here) holds.1
      (rw (low_place (release_at q) n place.0, low_place (id_at q) n place.0) at earlier))

  less_node_rank : (i : ℕ) → Holds q i → IsNode (rank_at q) n → low (rank_at q) n < rank_at q i
      → Then (low (release_at q) n) (release_at q i) (low (id_at q) n < id_at q i)
  less_node_rank i holds (inr head) less = rw (low_head (release_at q) n head.0, low_head (id_at q) n head.0) (then_zero (release_at q i) holds.1)
  less_node_rank i holds (inl place) less =
      let here = node_place q n (inl place) place.0 in
      rw (low_place (release_at q) n place.0, low_place (id_at q) n place.0)
      (less_rank (release_at q n) (release_at q i) (id_at q n) (id_at q i) here.1 holds.1 (sound.ids_in_range i holds)
      (rw (low_place (rank_at q) n place.0) at less))

  at_own_next : AtNode q point (bucket_of_key key) (next_at q n)
  at_own_next =
      let l = rank_links q sound n stands.node in
      record {
        node = l.next_is_node;
        in_bucket = l.next_in_bucket ∙ stands.in_bucket;
        ahead = λ i holds after same.
            ahead_of_next q sound key point from_here n i stands.node holds (stands.in_bucket ∙ sym same) (above i holds (own_key i holds same) after);
      }
    where
      above : (i : ℕ) → Holds q i → key_at q i ≡ key → Before point (entry_at q i) → low (rank_at q) n < rank_at q i
      above i holds same (inl less) = absurd (lt_irrefl key (omega arith))
      above i holds same (inr w) = node_rank_less i holds stands.node w.1

  -- the next of the list follows
  pub next_follows : (x : ℕ) → x ≡ next_at q n → x < places → IsFirstAfter q point x
  next_follows x is inside = subst (IsFirstAfter q point) (sym is) (go (subst (λ (y : ℕ). y < places) is inside))
    where
      go : next_at q n < places → IsFirstAfter q point (next_at q n)
      go below =
          let l = rank_links q sound n stands.node in
          let here = node_place q (next_at q n) l.next_is_node below in
          let same = own_key (next_at q n) here (sym (bucket_place (key_at q) (next_at q n) below) ∙ (l.next_in_bucket ∙ stands.in_bucket)) in
          left_at_node q sound key point from_here (bucket_of_key key) 0 (next_at q n) at_own_bucket at_own_next below
          (inr (sym same, less_node_rank (next_at q n) here stands.node (omega (arith, l.in_order, high_place (rank_at q) (next_at q n) below))))

  -- with the list at its end, the later buckets are searched
  pub after_own : (x bucket own : ℕ) → x ≡ next_at q n → places ≤ x → own ≡ bucket_of_key key → bucket ≡ bucket_after own
      → AtBucket q key point bucket 1
  after_own x bucket own is end is_own is_bucket =
      at_next_bucket q sound key point from_here (bucket_of_key key) 0 (next_at q n) bucket at_own_bucket at_own_next
      (omega arith) (omega arith) (is_bucket ∙ omega (arith, is_own))

  module _ (bucket turn : ℕ) (at : AtBucket q key point bucket turn) (first : ℕ) (is : first ≡ next_at q (places + bucket)) where
    at_first : AtNode q point bucket first
    at_first = at_first_node q sound key point from_here bucket first (bucket_below q sound key point from_here bucket turn at) is

    -- a bucket whose list is empty is passed, and the next one searched
    pub one_bucket_on : (bucket' : ℕ) → places ≤ first → turn < buckets → bucket' ≡ bucket_after bucket → AtBucket q key point bucket' (turn + 1)
    one_bucket_on bucket' end more = at_next_bucket q sound key point from_here bucket turn first bucket' at at_first end more

    -- the first entry of the bucket searched, if its key is above the one stood at, is what follows
    pub first_follows : first < places → key < key_at q first → IsFirstAfter q point first
    first_follows inside later = left_at_node q sound key point from_here bucket turn first at at_first inside (inl later)

    -- an earlier key there shows that the circle has come round
    pub come_round : 1 ≤ turn → first < places → key_at q first ≤ key → IsNoneAfter q point
    come_round began inside earlier i holds after =
        let here = node_place q first at_first.node inside in
        let in_bucket : bucket_of_key (key_at q first) ≡ bucket = sym (bucket_place (key_at q) first inside) ∙ at_first.in_bucket in
        let w = near first here in
        let its_key : key_at q first + buckets ≡ key + turn = omega (arith, in_bucket, at.is_bucket, at.within, began, earlier) in
        omega (arith, at.ahead i holds after, sound.span i first holds here, its_key, at.within)

  -- the bucket that the walk is at is one of the 480
  pub following_below : (bucket turn : ℕ) → AtBucket q key point bucket turn → bucket < buckets
  following_below = bucket_below q sound key point from_here

  -- with no bucket left to search, no entry follows
  pub none_follows : (bucket turn : ℕ) → AtBucket q key point bucket turn → buckets ≤ turn → IsNoneAfter q point
  none_follows bucket turn at = left_with_none q sound key point from_here bucket turn at
