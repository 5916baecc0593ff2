-- The search over buckets and lists: what is known at each bucket, at each node, and where it is left.
use Rattle.std.specs.Prelude.{◌≡◌, ◌⊎◌, ℕ, ◌+◌, ◌≤◌, ◌<◌, max}
use Rattle.std.proofs.Common.{sym, ap, ◌∙◌, inl, inr, lt_irrefl, mod-lt, arith}
use Rattle.std.proofs.Math.Path.{subst⁻¹}
use Rattle.std.proofs.Math.Decide.{dec_le, ℕ_discrete}
use Rattle.basics.specs.Limits.{buckets, key_span, largest_key, places}
use Rattle.places.specs.Order.{Entry, Before}
use Rattle.places.specs.Soundness.{IsLeast}
use Rattle.queue.specs.Layout.{id_at, key_at, release_at, next_at, prev_at, entry_at, Holds, IsNode, bucket_of_key, bucket_after, bucket_of, Sound}
use Rattle.queue.specs.Layout.Ranks.{rank_at, low, high, rank_holds, rank_less, low_place, low_head, high_place, high_head, bucket_place, bucket_head}
use Rattle.queue.specs.Layout.LinkFacts.{none_between}
use Rattle.queue.specs.Layout.SoundRanks.{node_place, rank_links, sound_rank, sound_rank_once}
use Rattle.queue.specs.Linking.{SearchFrom, IsFirstAfter, IsNoneAfter}
use Rattle.queue.specs.declared.Queue.{Queue}

-- at a bucket: no entry after the point has a key that was passed already
pub record AtBucket (q : Queue) (from : ℕ) (point : Entry) (bucket turn : ℕ) : Type 0 where
  pub within : turn ≤ buckets
  pub is_bucket : bucket ≡ bucket_of_key (from + turn)
  pub ahead : (i : ℕ) → Holds q i → Before point (entry_at q i) → from + turn ≤ key_at q i

-- at a node of the bucket: no entry after the point lies before it
pub record AtNode (q : Queue) (point : Entry) (bucket n : ℕ) : Type 0 where
  pub node : IsNode (rank_at q) n
  pub in_bucket : bucket_of (key_at q) n ≡ bucket
  pub ahead : (i : ℕ) → Holds q i → Before point (entry_at q i) → bucket_of_key (key_at q i) ≡ bucket → high (rank_at q) n ≤ rank_at q i

-- a place that holds an entry has a rank of 1 or more
pub place_rank : (q : Queue) (i : ℕ) → Holds q i → 1 ≤ rank_at q i
place_rank q i holds = rank_holds (release_at q i) (id_at q i) holds.1

module _ (q : Queue) (sound : Sound q) (from : ℕ) (point : Entry) (start : SearchFrom q from point) where
  -- the search begins at the bucket of the key it starts from, with no bucket passed
  pub at_first_bucket : (bucket : ℕ) → bucket ≡ bucket_of_key from → AtBucket q from point bucket 0
  at_first_bucket bucket is =
      record {
        within = omega arith;
        is_bucket = is ∙ ap bucket_of_key (omega arith);
        ahead = λ i holds after. omega (arith, (start i holds after).0);
      }

  -- the bucket that the search is at is one of the 480
  pub bucket_below : (bucket turn : ℕ) → AtBucket q from point bucket turn → bucket < buckets
  bucket_below bucket turn at = rw at.is_bucket (mod-lt (from + turn) {m = buckets} (omega arith))

  -- no entry of the bucket lies between a node and the next, so what is ahead of the node and not the node is ahead of the next
  pub ahead_of_next : (x i : ℕ) → IsNode (rank_at q) x → Holds q i → bucket_of (key_at q) x ≡ bucket_of_key (key_at q i)
      → low (rank_at q) x < rank_at q i → high (rank_at q) (next_at q x) ≤ rank_at q i
  ahead_of_next x i node holds bucket above = go (dec_le (high (rank_at q) (next_at q x)) (rank_at q i))
    where
      go : Dec (high (rank_at q) (next_at q x) ≤ rank_at q i) → high (rank_at q) (next_at q x) ≤ rank_at q i
      go (yes ahead) = ahead
      go (no between) =
          absurd
          (none_between (rank_at q) (key_at q) (next_at q) (prev_at q) (sound_rank_once q sound) (rank_links q sound) i holds.0 (place_rank q i holds) x node
          (bucket ∙ sym (bucket_place (key_at q) i holds.0)) above (omega arith))

  -- in a bucket the search begins at the node after the head, before which no entry of the bucket lies
  pub at_first_node : (bucket n : ℕ) → bucket < buckets → n ≡ next_at q (places + bucket) → AtNode q point bucket n
  at_first_node bucket n below is =
      let h = places + bucket in
      let head : IsNode (rank_at q) h = inr (omega arith, omega arith) in
      let own : bucket_of (key_at q) h ≡ bucket = bucket_head (key_at q) h (omega arith) ∙ omega arith in
      let l = rank_links q sound h head in
      subst⁻¹ (AtNode q point bucket) is
      (record {
        node = l.next_is_node;
        in_bucket = l.next_in_bucket ∙ own;
        ahead = λ i holds after same. ahead_of_next h i head holds (own ∙ sym same) (omega (arith, low_head (rank_at q) h (omega arith), place_rank q i holds));
      })

  -- an entry that does not come after the point is passed, and the search is at the next node
  pub at_next_node : (bucket n m : ℕ) → AtNode q point bucket n → n < places
      → (Before point (entry_at q n) → ⊥) → m ≡ next_at q n → AtNode q point bucket m
  at_next_node bucket n m at inside not_after is =
      let l = rank_links q sound n at.node in
      subst⁻¹ (AtNode q point bucket) is
      (record {
        node = l.next_is_node;
        in_bucket = l.next_in_bucket ∙ at.in_bucket;
        ahead = λ i holds after same. ahead_of_next n i at.node holds (at.in_bucket ∙ sym same) (above i holds after (at.ahead i holds after same));
      })
    where
      above : (i : ℕ) → Holds q i → Before point (entry_at q i) → high (rank_at q) n ≤ rank_at q i → low (rank_at q) n < rank_at q i
      above i holds after from_n = go (ℕ_discrete (rank_at q n) (rank_at q i))
        where
          go : Dec (rank_at q n ≡ rank_at q i) → low (rank_at q) n < rank_at q i
          go (yes same) =
              let here = node_place q n at.node inside in
              let one : n ≡ i = sound_rank_once q sound n i inside holds.0 (place_rank q n here) same in
              absurd (not_after (subst⁻¹ (λ (j : ℕ). Before point (entry_at q j)) one after))
          go (no differ) = omega (arith, low_place (rank_at q) n inside, high_place (rank_at q) n inside)

  -- a bucket whose list is passed is passed
  pub at_next_bucket : (bucket turn n bucket' : ℕ) → AtBucket q from point bucket turn → AtNode q point bucket n
      → places ≤ n → turn < buckets → bucket' ≡ bucket_after bucket → AtBucket q from point bucket' (turn + 1)
  at_next_bucket bucket turn n bucket' at node head more is =
      record {
        within = omega arith;
        is_bucket = omega (arith, is, at.is_bucket);
        ahead = λ i holds after. go i holds after (ℕ_discrete (bucket_of_key (key_at q i)) bucket);
      }
    where
      go : (i : ℕ) → Holds q i → Before point (entry_at q i) → Dec (bucket_of_key (key_at q i) ≡ bucket) → from + (turn + 1) ≤ key_at q i
      go i holds after (yes same) =
          absurd (lt_irrefl 0 (omega (arith, node.ahead i holds after same, high_head (rank_at q) n head, sound_rank q sound i holds)))
      go i holds after (no other) = omega (arith, at.ahead i holds after, at.is_bucket)

  -- the node where the search is left is the first after the point
  pub left_at_node : (bucket turn n : ℕ) → AtBucket q from point bucket turn
      → AtNode q point bucket n → n < places → Before point (entry_at q n) → IsFirstAfter q point n
  left_at_node bucket turn n at node inside after =
      let here = node_place q n node.node inside in
      let in_bucket : bucket_of_key (key_at q n) ≡ bucket = sym (bucket_place (key_at q) n inside) ∙ node.in_bucket in
      let its_key : key_at q n ≡ from + turn = omega (arith, in_bucket, at.is_bucket, at.ahead n here after, (start n here after).1) in
      record { holds = here; after = after; first = λ i holds later before. no_earlier i holds later its_key in_bucket before }
    where
      no_earlier : (i : ℕ) → Holds q i → Before point (entry_at q i) → key_at q n ≡ from + turn
          → bucket_of_key (key_at q n) ≡ bucket → Before (entry_at q i) (entry_at q n) → ⊥
      no_earlier i holds later its_key in_bucket (inl less) = omega (arith, at.ahead i holds later)
      no_earlier i holds later its_key in_bucket (inr w) =
          let here = node_place q n node.node inside in
          omega (
            arith,
            rank_less (release_at q i) (release_at q n) (id_at q i) (id_at q n) holds.1 (sound.ids_in_range i holds) here.1 w.1,
            node.ahead i holds later (ap bucket_of_key w.0 ∙ in_bucket),
            high_place (rank_at q) n inside,
          )

  -- with every bucket passed there is none
  pub left_with_none : (bucket turn : ℕ) → AtBucket q from point bucket turn → buckets ≤ turn → IsNoneAfter q point
  left_with_none bucket turn at all i holds after = omega (arith, at.ahead i holds after, (start i holds after).1)

-- whatever the point, every entry after it has its key among the 480 from the least key on
pub from_least : (q : Queue) (least : ℕ) (point : Entry) → Sound q → IsLeast (id_at q) (key_at q) places least → SearchFrom q least point
from_least q least point sound is i holds after = (is.at_most i holds.0 holds.1, go is.reached)
  where
    go : (least ≡ largest_key) ⊎ ((j : ℕ) × (j < places) × (1 ≤ id_at q j) × (least ≡ key_at q j)) → key_at q i ≤ least + key_span
    go (inl none) = omega (arith, sound.keys_in_range i holds)
    go (inr w) = omega (arith, sound.span i w.0 holds (w.1, w.2), w.3)

-- every entry after a point has its key among the 480 from the greater of the point's key and the least key on
pub from_greater : (q : Queue) (least : ℕ) (point : Entry) → Sound q → IsLeast (id_at q) (key_at q) places least → SearchFrom q (max point.key least) point
from_greater q least point sound is i holds after =
    let inside = from_least q least point sound is i holds after in
    (omega (arith, not_before after, inside.0), omega (arith, inside.1))
  where
    not_before : Before point (entry_at q i) → point.key ≤ key_at q i
    not_before (inl less) = omega arith
    not_before (inr w) = omega (arith, w.0)
