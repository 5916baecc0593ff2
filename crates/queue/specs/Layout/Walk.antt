-- A walk along a bucket's list: what is known of the node reached.
use Rattle.std.specs.Prelude.{◌≡◌, ℕ, ◌+◌, ◌-◌, ◌≤◌, ◌<◌}
use Rattle.std.proofs.Math.Path.{subst⁻¹}
use Rattle.std.proofs.Common.{◌∙◌, inr, mod-lt, arith}
use Rattle.std.proofs.Math.Arith.{lt_of_le-ne}
use Rattle.basics.specs.Limits.{buckets, places}
use Rattle.queue.specs.Layout.{key_at, next_at, prev_at, IsNode, bucket_of_key, bucket_of, Sound}
use Rattle.queue.specs.Layout.Ranks.{rank_at, low, high, low_place, low_head, high_place, high_head, bucket_head}
use Rattle.queue.specs.Layout.SoundRanks.{node_place, rank_links, sound_rank}
use Rattle.queue.specs.Linking.{IsPosition, IsNewRank}
use Rattle.queue.specs.declared.Queue.{Queue}

-- the head of a key's bucket is numbered below 544
pub head_below : (key : ℕ) → places + bucket_of_key key < 544
head_below key = omega (arith, mod-lt key {m = buckets} (omega arith))

-- a node of the key's bucket with only smaller ranks before it
pub record Reached (q : Queue) (key rank n : ℕ) : Type 0 where
  pub node : IsNode (rank_at q) n
  pub bucket : bucket_of (key_at q) n ≡ bucket_of_key key
  pub above : low (rank_at q) (prev_at q n) < rank

module _ (q : Queue) (sound : Sound q) where
  -- from a node to the next
  step : (key rank x : ℕ) → IsNode (rank_at q) x → bucket_of (key_at q) x ≡ bucket_of_key key → low (rank_at q) x < rank → Reached q key rank (next_at q x)
  step key rank x node bucket less =
      let l = rank_links q sound x node in
      record { node = l.next_is_node; bucket = l.next_in_bucket ∙ bucket; above = rw l.next_returns less }

  -- the walk begins at the node after the head of the key's bucket, with no rank before it
  pub reached_first : (key rank n : ℕ) → 1 ≤ rank → n ≡ next_at q (places + bucket_of_key key) → Reached q key rank n
  reached_first key rank n some e =
      let h = places + bucket_of_key key in
      let from : places ≤ h = omega arith in
      subst⁻¹ (Reached q key rank) e
      (step key rank h (inr (from, head_below key)) (bucket_head (key_at q) h from ∙ omega arith) (omega (arith, low_head (rank_at q) h from)))

  -- where the rank of an entry is not above the new one, the walk goes on to the next node
  pub reached_next : (key rank n m : ℕ) → IsNewRank q rank → Reached q key rank n → n < places → rank_at q n ≤ rank → m ≡ next_at q n → Reached q key rank m
  reached_next key rank n m new reached inside no_more e =
      subst⁻¹ (Reached q key rank) e
      (step key rank n reached.node reached.bucket (omega (arith, low_place (rank_at q) n inside, lt_of_le-ne no_more (new.unused n inside))))

  -- ranks rise along the walk
  pub walk_falls : (n m : ℕ) → IsNode (rank_at q) n → n < places → m ≡ next_at q n
      → 65_536_000_032_768 - high (rank_at q) m < 65_536_000_032_768 - high (rank_at q) n
  walk_falls n m node inside e =
      let here = node_place q n node inside in
      let l = rank_links q sound n node in
      let up : high (rank_at q) n < high (rank_at q) m = subst⁻¹ (λ (x : ℕ). high (rank_at q) n < high (rank_at q) x) e
      (omega (arith, l.in_order, low_place (rank_at q) n inside, high_place (rank_at q) n inside)) in
      omega (arith, high_place (rank_at q) n inside, sound_rank q sound n here)

  -- the walk may stop at a larger rank, and at the head
  pub stop_at_place : (key rank n : ℕ) → Reached q key rank n → n < places → rank < rank_at q n → IsPosition q key rank n
  stop_at_place key rank n reached inside more =
      record { node = reached.node; bucket = reached.bucket; above = reached.above; below = rw (high_place (rank_at q) n inside) more }

  -- a walk that is back at the head is at the position, if its rank is below 65,536,000,032,768
  pub stop_at_head : (key rank n : ℕ) → rank < 65_536_000_032_768 → Reached q key rank n → places ≤ n → IsPosition q key rank n
  stop_at_head key rank n small reached head =
      record { node = reached.node; bucket = reached.bucket; above = reached.above; below = omega (arith, high_head (rank_at q) n head) }
