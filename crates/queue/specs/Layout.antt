-- How a queue's entries lie in its places and links, and when that is sound. The modules below this one can open these definitions;
-- nobody else can.
pub mod Ranks
pub mod LinkFacts
pub mod LinkChange
pub mod Decide
pub mod SoundRanks
pub mod SoundChange
pub mod SoundnessFacts
pub mod Soundness
pub mod Walk
pub mod Change
pub mod Buckets
pub mod Answers
pub mod First
pub mod Heads
pub mod FilingSound
pub mod Following
pub mod InOrder
pub mod Moves
pub mod Laws
use Rattle.std.specs.Prelude.{◌≡◌, ◌⊎◌, List, [], ◌∷◌, ◌++◌, ℕ, zero, suc, ◌+◌, ◌-◌, ◌%◌, ◌≤◌, ◌<◌, get_or, replicate}
use Rattle.std.proofs.Math.Logic.{ite}
use Rattle.std.proofs.Math.Decide.{dec_lt}
use Rattle.basics.specs.Limits.{places, largest_id, buckets, key_span, largest_key}
use Rattle.places.specs.Order.{Entry, Before}
use Rattle.places.specs.Collected.{collected}
use Rattle.queue.specs.declared.Queue.{Queue}

-- Annex 8.6, 8.7: a queue of these ids, keys, releases and links.
abbrev pub queue_of : (ids keys releases next prev : List ℕ) → Queue
queue_of ids keys releases next prev = record { ids = ids; keys = keys; releases = releases; next = next; prev = prev }

-- Annex 8.8: the n numbers from x on.
pub numbers_from : ℕ → ℕ → List ℕ
numbers_from x zero = []
numbers_from x (suc n) = x ∷ numbers_from (suc x) n

-- Annex 8.8: the links of an empty queue: 0 at its places, and each of its 480 heads, nodes 64 on, its own neighbour.
pub lone_heads : List ℕ
lone_heads = replicate places 0 ++ numbers_from places buckets

-- Annex 8.8: the empty queue, one value: id 0, key 0 and release 0 at every place, and no link, on or back, from a head to another node.
pub empty_queue : Queue
empty_queue = queue_of (replicate places 0) (replicate places 0) (replicate places 0) lone_heads lone_heads

-- Annex 8.6: the id at a place ..
abbrev pub id_at : Queue → ℕ → ℕ
id_at q i = get_or q.ids i 0

-- Annex 8.6: .. its key ..
abbrev pub key_at : Queue → ℕ → ℕ
key_at q i = get_or q.keys i 0

-- Annex 8.6: .. and its release.
abbrev pub release_at : Queue → ℕ → ℕ
release_at q i = get_or q.releases i 0

-- Annex 8.7: the next of a node ..
abbrev pub next_at : Queue → ℕ → ℕ
next_at q x = get_or q.next x 0

-- Annex 8.7: .. and its prev.
abbrev pub prev_at : Queue → ℕ → ℕ
prev_at q x = get_or q.prev x 0

-- Annex 8.6: what stands at a place, as an entry; whether the place holds one is not asked here.
abbrev pub entry_at : Queue → ℕ → Entry
entry_at q i = record { key = key_at q i; release = release_at q i; id = id_at q i }

-- Annex 8.6: one of the 64 places holds an entry unless its id is 0.
abbrev pub Holds : Queue → ℕ → Type 0
Holds q i = (i < places) × (1 ≤ id_at q i)

-- Annex 8.3: a queue's entries, of all 64 places, sorted by key, then release, then id.
pub entries : Queue → List Entry
entries q = collected (entry_at q) places

-- Annex 8.6: a node is a place that holds an entry, or the head of a bucket: node 64 + b for bucket b, 64 to 543.
abbrev pub IsNode : (ids : ℕ → ℕ) → ℕ → Type 0
IsNode ids x = ((x < places) × (1 ≤ ids x)) ⊎ ((places ≤ x) × (x < 544))

-- Annex 8.6: the bucket of a key: there are 480, in a circle.
abbrev pub bucket_of_key : ℕ → ℕ
bucket_of_key key = key % buckets

-- Annex 8.6: the bucket after a bucket, round the circle.
abbrev pub bucket_after : ℕ → ℕ
bucket_after bucket = (bucket + 1) % buckets

-- Annex 8.6: the bucket of a node: that of an entry's key, a head's own.
pub bucket_of : (keys : ℕ → ℕ) → ℕ → ℕ
bucket_of keys x = ite (dec_lt x places) (bucket_of_key (keys x)) (x - places)

-- Annex 8.7: one node's links: its next and its prev are nodes that lead back to it, and its next is in its bucket. A list runs from its head
-- and back to it, so the order is asked of two entries that follow one another.
pub record Linked (rows : ℕ → Entry) (next prev : ℕ → ℕ) (x : ℕ) : Type 0 where
  next_is_node : IsNode (λ i. (rows i).id) (next x)
  next_in_bucket : bucket_of (λ i. (rows i).key) (next x) ≡ bucket_of (λ i. (rows i).key) x
  next_returns : prev (next x) ≡ x
  in_order : x < places → next x < places → Before (rows x) (rows (next x))
  prev_is_node : IsNode (λ i. (rows i).id) (prev x)
  prev_returns : next (prev x) ≡ x

-- Annex 8.7: every node is linked so; the links of free places are not looked at.
abbrev pub AllLinked : (rows : ℕ → Entry) (next prev : ℕ → ℕ) → Type 0
AllLinked rows next prev = (x : ℕ) → IsNode (λ i. (rows i).id) x → Linked rows next prev x

-- Annex 8.4: a queue is sound: ids of entries are at most 32,767 (and 1 or more, since a place with 0 is free) and stand at one place each; keys,
-- releases and span are within the bounds of Annex 8.5; every node is linked. There are 64 places, so no more than 64 ids can be filed.
pub record Sound (q : Queue) : Type 0 where
  ids_in_range : (i : ℕ) → Holds q i → id_at q i ≤ largest_id
  once : (i j : ℕ) → Holds q i → Holds q j → id_at q i ≡ id_at q j → i ≡ j
  keys_in_range : (i : ℕ) → Holds q i → key_at q i ≤ largest_key
  released : (i : ℕ) → Holds q i → release_at q i ≤ key_at q i
  span : (i j : ℕ) → Holds q i → Holds q j → key_at q i ≤ key_at q j + key_span
  links : AllLinked (entry_at q) (next_at q) (prev_at q)

-- Annex 8.6: an id is filed at this place.
pub record IsPlacedAt (q : Queue) (id place : ℕ) : Type 0 where
  holds : Holds q place
  has_id : id_at q place ≡ id
