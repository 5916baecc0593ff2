-- What the functions that test a queue's links promise one another, and why those tests, with that of the places, decide soundness.
use Rattle.std.specs.Prelude.{◌≡◌, Bool, ℕ, ◌-◌, ◌/◌, ◌<◌}
use Rattle.std.proofs.Common.{sym, ap, subst, ◌∙◌, inl, inr, lt_irrefl, arith}
use Rattle.std.proofs.Math.Path.{subst⁻¹}
use Rattle.basics.specs.Below.{Below, Between}
use Rattle.basics.specs.Decides.{Decides}
use Rattle.basics.specs.Facts.Decides.{same_as}
use Rattle.basics.specs.Limits.{places}
use Rattle.places.specs.Order.{Entry, Before}
use Rattle.places.specs.Soundness.{PlacesSound}
use Rattle.queue.specs.Layout.{id_at, key_at, release_at, entry_at, next_at, prev_at, bucket_of, Linked, AllLinked, Sound}
use Rattle.queue.specs.declared.Queue.{Queue}
use Rattle.queue.specs.Layout.Soundness.{BlockRight, EntryNext, HeadRight, PlaceRight, PrevRight}

-- a node is linked by its two links, n the next node and p the one before ..
module _ {rows : ℕ → Entry} {next prev : ℕ → ℕ} {x n p : ℕ} (on : n ≡ next x) (back : p ≡ prev x) where
  -- .. it is linked if its link on to n and its link back to p are right ..
  pub linked_from : EntryNext rows prev x n → PrevRight (λ i. (rows i).id) next x p → Linked rows next prev x
  linked_from r l =
      record {
        next_is_node = rw (← on) r.0.node;
        next_in_bucket = ap (bucket_of (λ i. (rows i).key)) (sym on) ∙ r.0.bucket;
        next_returns = ap prev (sym on) ∙ r.0.returns;
        in_order = λ _. subst (λ (m : ℕ). m < places → Before (rows x) (rows m)) on r.1;
        prev_is_node = rw (← back) l.node;
        prev_returns = ap next (sym back) ∙ l.returns;
      }

  -- .. and has them
  pub linked_next : x < places → Linked rows next prev x → EntryNext rows prev x n
  linked_next inside l = (
    record { node = rw on l.next_is_node; bucket = ap (bucket_of (λ i. (rows i).key)) on ∙ l.next_in_bucket; returns = ap prev on ∙ l.next_returns },
    subst⁻¹ (λ (m : ℕ). m < places → Before (rows x) (rows m)) on (l.in_order inside),
  )

  -- the link of a linked node to the one before it is right
  pub linked_prev : Linked rows next prev x → PrevRight (λ i. (rows i).id) next x p
  linked_prev l = record { node = rw back l.prev_is_node; returns = ap next back ∙ l.prev_returns }

-- places and heads are all the nodes
pub all_from : {rows : ℕ → Entry} {next prev : ℕ → ℕ} → Between 0 places (PlaceRight rows next prev)
    → Between places 544 (HeadRight (λ i. (rows i).id) (λ i. (rows i).key) next prev) → AllLinked rows next prev
all_from held heads x (inl place) = (held x (omega arith) place.0).linked place.1
all_from {rows} {next} {prev} held heads x (inr head) = let w = heads x head.0 head.1 in
    record {
      next_is_node = w.0.node;
      next_in_bucket = w.0.bucket;
      next_returns = w.0.returns;
      in_order = λ inside. absurd (lt_irrefl places (omega (arith, inside, head.0)));
      prev_is_node = w.1.node;
      prev_returns = w.1.returns;
    }

-- where every node is linked, each head has its two links right
pub all_heads : {rows : ℕ → Entry} {next prev : ℕ → ℕ} → AllLinked rows next prev
    → Between places 544 (HeadRight (λ i. (rows i).id) (λ i. (rows i).key) next prev)
all_heads all x head below =
    let l = all x (inr (head, below)) in
    (record { node = l.next_is_node; bucket = l.next_in_bucket; returns = l.next_returns }, record { node = l.prev_is_node; returns = l.prev_returns })

-- the places and the links make up a queue
pub sound_places : (q : Queue) → Sound q → PlacesSound (id_at q) (key_at q) (release_at q)
sound_places q s = record { ids_in_range = s.ids_in_range; once = s.once; keys_in_range = s.keys_in_range; released = s.released; span = s.span }

-- a queue whose places are sound and whose nodes are all linked is sound
pub sound_from : (q : Queue) → PlacesSound (id_at q) (key_at q) (release_at q) → AllLinked (entry_at q) (next_at q) (prev_at q) → Sound q
sound_from q p links =
    record {
      ids_in_range = p.ids_in_range;
      once = p.once;
      keys_in_range = p.keys_in_range;
      released = p.released;
      span = p.span;
      links = links;
    }

-- where the places are sound, what decides whether all nodes are linked decides whether the queue is sound
pub sound_last : (q : Queue) {b : Bool} → PlacesSound (id_at q) (key_at q) (release_at q)
    → Decides b (AllLinked (entry_at q) (next_at q) (prev_at q)) → Decides b (Sound q)
sound_last q p = same_as (sound_from q p) (λ s. s.links)

-- thirty blocks of sixteen are all the heads ..
pub heads_of_blocks : {ids keys next prev : ℕ → ℕ} → Below 30 (BlockRight ids keys next prev) → Between places 544 (HeadRight ids keys next prev)
heads_of_blocks blocks x low high =
    (blocks ((x - places) / 16) (omega (arith, low, high))).heads x (omega (arith, low)) (omega (arith, low))

-- .. and no others
pub blocks_of_heads : {ids keys next prev : ℕ → ℕ} → Between places 544 (HeadRight ids keys next prev) → Below 30 (BlockRight ids keys next prev)
blocks_of_heads heads block before = record { heads = λ x low high. heads x (omega (arith, low)) (omega (arith, before, high)) }
