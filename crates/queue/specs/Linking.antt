-- What the inner functions of the crate promise one another.
use Rattle.std.specs.Prelude.{◌≡◌, Result, Ok, Err, ℕ, zero, suc, ◌+◌, ◌≤◌, ◌<◌, List, length, get_or, set}
use Rattle.basics.specs.Limits.{places, largest_id, key_span}
use Rattle.basics.specs.Refusals.{Refusal}
use Rattle.places.specs.Order.{Entry, Before, triple}
use Rattle.places.specs.Entries.{put, Filed, InBounds}
use Rattle.queue.specs.Calls.{moved, HasEntries, IsChange, refused_find}
use Rattle.queue.specs.Layout.{id_at, key_at, release_at, prev_at, entry_at, Holds, IsNode, bucket_of_key, bucket_of, entries, Sound, IsPlacedAt}
use Rattle.queue.specs.Layout.Ranks.{rank_at, low, high}
use Rattle.queue.specs.declared.Queue.{Queue}
use Rattle.queue.specs.declared.Placed.{Placed}
use Rattle.queue.specs.declared.Found.{Found}
use Rattle.places.specs.declared.Entry as code
use Rattle.basics.specs.declared.refusals.Refusal as reason
use Rattle.basics.specs.Answers.{number_of}

-- The arrays are as long as their types say.
pub record HasShape (q : Queue) : Type 0 where
  pub ids : length q.ids ≡ places
  pub keys : length q.keys ≡ places
  pub releases : length q.releases ≡ places
  pub next : length q.next ≡ 544
  pub prev : length q.prev ≡ 544

-- These are a queue's ids, keys and releases.
abbrev pub ArePlacesOf : Queue → (ids keys releases : List ℕ) → Type 0
ArePlacesOf q ids keys releases = (ids ≡ q.ids) × (keys ≡ q.keys) × (releases ≡ q.releases)

-- What a search answers from what it found or why it found nothing.
abbrev pub found_of : Result code.Entry reason.Refusal → Found
found_of (Ok e) = record { answer = 0; key = e.key; release = e.release; id = e.id }
found_of (Err refusal) = refused_find (number_of refusal)

-- A change of q that was tried, with its answer and the queue after it.
abbrev pub IsTried : List Refusal → Queue → List Entry → ℕ → Queue → Type 0
IsTried refusals q es answer r = IsChange refusals q es (record { answer = answer; queue = r })

-- x is a place, and n and what is linked before it are below 544, as nodes are.
abbrev pub CanLink : (prev : List ℕ) → ℕ → ℕ → Type 0
CanLink prev x n = (x < places) × (n < 544) × (get_or prev n 0 < 544)

-- The links with x put between n and the node before it.
abbrev pub linked_next : (next prev : List ℕ) → ℕ → ℕ → List ℕ
linked_next next prev x n = set (set next (get_or prev n 0) x) x n

abbrev pub linked_prev : (prev : List ℕ) → ℕ → ℕ → List ℕ
linked_prev prev x n = set (set prev n x) x (get_or prev n 0)

-- x is a place, and what is linked on both sides of it is below 544, as nodes are.
abbrev pub CanUnlink : (next prev : List ℕ) → ℕ → Type 0
CanUnlink next prev x = (x < places) × (get_or next x 0 < 544) × (get_or prev x 0 < 544)

-- The links with x taken out from between its neighbours, and zeros there.
abbrev pub unlinked_next : (next prev : List ℕ) → ℕ → List ℕ
unlinked_next next prev x = set (set next (get_or prev x 0) (get_or next x 0)) x 0

abbrev pub unlinked_prev : (next prev : List ℕ) → ℕ → List ℕ
unlinked_prev next prev x = set (set prev (get_or next x 0) (get_or prev x 0)) x 0

-- The queue with an entry put at place x between n and the node before it.
abbrev pub put_before : Queue → ℕ → Entry → ℕ → Queue
put_before q x e n =
    record {
      ids = set q.ids x e.id;
      keys = set q.keys x e.key;
      releases = set q.releases x e.release;
      next = linked_next q.next q.prev x n;
      prev = linked_prev q.prev x n;
    }

-- The queue with the entry at place x taken out, and zeros there.
abbrev pub taken_out : Queue → ℕ → Queue
taken_out q x =
    record {
      ids = set q.ids x 0;
      keys = set q.keys x 0;
      releases = set q.releases x 0;
      next = unlinked_next q.next q.prev x;
      prev = unlinked_prev q.next q.prev x;
    }

-- What putting an entry before n, and taking one out at x, need of a queue.
abbrev pub CanPut : Queue → ℕ → ℕ → Type 0
CanPut q x n = CanLink q.prev x n

abbrev pub CanTake : Queue → ℕ → Type 0
CanTake q x = CanUnlink q.next q.prev x

-- n is the node before which a rank goes in the bucket of a key: ranks before it are smaller, ranks from it on larger.
pub record IsPosition (q : Queue) (key rank n : ℕ) : Type 0 where
  pub node : IsNode (rank_at q) n
  pub bucket : bucket_of (key_at q) n ≡ bucket_of_key key
  pub above : low (rank_at q) (prev_at q n) < rank
  pub below : rank < high (rank_at q) n

-- A rank in range that no place has.
pub record IsNewRank (q : Queue) (rank : ℕ) : Type 0 where
  pub some : 1 ≤ rank
  pub small : rank < 65_536_000_032_768
  pub unused : (i : ℕ) → i < places → rank_at q i ≡ rank → ⊥

-- An id in range that no place has.
pub record IsNew (q : Queue) (id : ℕ) : Type 0 where
  pub some : 1 ≤ id
  pub small : id ≤ largest_id
  pub unused : (i : ℕ) → i < places → id_at q i ≡ id → ⊥

-- What insert, delete and move need beyond a sound queue: that no refusal applies.
pub record CanInsert (q : Queue) (e : Entry) : Type 0 where
  pub sound : Sound q
  pub some : 1 ≤ e.id
  pub small : e.id ≤ largest_id
  pub room : length (entries q) < places
  pub new : Filed e.id (entries q) → ⊥
  pub bounds : InBounds (put e (entries q))

pub record CanDelete (q : Queue) (id : ℕ) : Type 0 where
  pub sound : Sound q
  pub filed : Filed id (entries q)

pub record CanMove (q : Queue) (id amount : ℕ) : Type 0 where
  pub sound : Sound q
  pub filed : Filed id (entries q)
  pub bounds : InBounds (moved id amount (entries q))

-- The same for the id at a place that holds one.
pub record CanMoveAt (q : Queue) (x amount : ℕ) : Type 0 where
  pub holds : Holds q x
  pub can : CanMove q (id_at q x) amount

-- The amount is added to the key and the release of the id at place x, and every id stays at its place.
pub record IsMovedAt (q : Queue) (x amount : ℕ) (r : Queue) : Type 0 where
  pub has_entries : HasEntries r (moved (id_at q x) amount (entries q))
  pub places : r.ids ≡ q.ids

-- The first n of some entries are at their places.
abbrev pub ArePlaced : Queue → Placed → ℕ → Type 0
ArePlaced q placed n = (k : ℕ) → k < n → IsPlacedAt q (get_or placed.ids k 0) (get_or placed.places k 0)

-- The entries after n moves, one after the other, of these ids by these amounts.
unfoldable pub moved_all : (ids amounts : List ℕ) → ℕ → List Entry → List Entry
moved_all ids amounts zero es = es
moved_all ids amounts (suc k) es = moved (get_or ids k 0) (get_or amounts k 0) (moved_all ids amounts k es)

-- What n moves need beyond a sound queue: each id is at its place, and no move leaves the bounds.
pub record CanMoveAll (q : Queue) (placed : Placed) (amounts : List ℕ) (n : ℕ) : Type 0 where
  pub sound : Sound q
  pub few : n ≤ places
  pub placed_there : ArePlaced q placed n
  pub bounds : (k : ℕ) → k < n → InBounds (moved_all placed.ids amounts (suc k) (entries q))

-- Every entry after a point has its key among the 480 from a given key on.
abbrev pub SearchFrom : Queue → ℕ → Entry → Type 0
SearchFrom q from point = (i : ℕ) → Holds q i → Before point (entry_at q i) → (from ≤ key_at q i) × (key_at q i ≤ from + key_span)

-- x is the place of the first entry after a point.
pub record IsFirstAfter (q : Queue) (point : Entry) (x : ℕ) : Type 0 where
  pub holds : Holds q x
  pub after : Before point (entry_at q x)
  pub first : (i : ℕ) → Holds q i → Before point (entry_at q i) → Before (entry_at q i) (entry_at q x) → ⊥

-- No entry is after a point.
abbrev pub IsNoneAfter : Queue → Entry → Type 0
IsNoneAfter q point = (i : ℕ) → Holds q i → Before point (entry_at q i) → ⊥

-- A node in the bucket of a key that some entry has.
pub record StandsAt (q : Queue) (key n : ℕ) : Type 0 where
  pub node : IsNode (rank_at q) n
  pub in_bucket : bucket_of (key_at q) n ≡ bucket_of_key key
  pub held : ∥ ((j : ℕ) × Holds q j × (key_at q j ≡ key)) ∥₁

-- What a node stands for: an entry, or something before all entries of the bucket.
abbrev pub point_at : Queue → ℕ → ℕ → Entry
point_at q key n = record { key = key; release = low (release_at q) n; id = low (id_at q) n }

-- The first n of some ids are those of the queue's first n entries, in order, and each is at its place.
pub record IsInOrder (q : Queue) (n : ℕ) (r : Placed) : Type 0 where
  pub ids : (k : ℕ) → k < n → get_or r.ids k 0 ≡ (get_or (entries q) k (triple 0 0 0)).id
  pub places : ArePlaced q r n
