-- What the functions that test links promise one another.
use Rattle.std.specs.Prelude.{◌≡◌, ℕ, ◌+◌, ◌*◌, ◌≤◌, ◌<◌}
use Rattle.basics.specs.Below.{Between}
use Rattle.basics.specs.Limits.{places}
use Rattle.places.specs.Order.{Entry, Before}
use Rattle.queue.specs.Layout.{IsNode, bucket_of, Linked}

-- The link of x to the next node, n, but for the order.
pub record NextRight (ids keys prev : ℕ → ℕ) (x n : ℕ) : Type 0 where
  pub node : IsNode ids n
  pub bucket : bucket_of keys n ≡ bucket_of keys x
  pub returns : prev n ≡ x

-- The link of x to the node before, p.
pub record PrevRight (ids next : ℕ → ℕ) (x p : ℕ) : Type 0 where
  pub node : IsNode ids p
  pub returns : next p ≡ x

-- The link of an entry at x to the next node, n.
abbrev pub EntryNext : (rows : ℕ → Entry) (prev : ℕ → ℕ) → ℕ → ℕ → Type 0
EntryNext rows prev x n = NextRight (λ i. (rows i).id) (λ i. (rows i).key) prev x n × (n < places → Before (rows x) (rows n))

-- The links of a place that holds an entry, and those of a head, of which no order is asked.
pub record PlaceRight (rows : ℕ → Entry) (next prev : ℕ → ℕ) (x : ℕ) : Type 0 where
  pub linked : 1 ≤ (rows x).id → Linked rows next prev x

abbrev pub HeadRight : (ids keys next prev : ℕ → ℕ) → ℕ → Type 0
HeadRight ids keys next prev x = NextRight ids keys prev x (next x) × PrevRight ids next x (prev x)

-- A head that is its own neighbour, as that of an empty bucket is.
abbrev pub HeadAlone : (next prev : ℕ → ℕ) → ℕ → Type 0
HeadAlone next prev x = (next x ≡ x) × (prev x ≡ x)

-- The heads of one block of sixteen, of which there are thirty.
pub record BlockRight (ids keys next prev : ℕ → ℕ) (block : ℕ) : Type 0 where
  pub heads : Between (places + 16 * block) (places + 16 * block + 16) (HeadRight ids keys next prev)
