-- What a change looks for among the places: where an id is, and whether a key fits beside the others.
use Rattle.std.specs.Prelude.{◌≡◌, List, ℕ, ◌+◌, ◌≤◌, ◌<◌, Option, Some, get_or}
use Rattle.basics.specs.Limits.{key_span, largest_key, places}

-- f' is f with the value v at x.
pub record IsSet {A : Type 0} (f : ℕ → A) (x : ℕ) (v : A) (f' : ℕ → A) : Type 0 where
  pub at : f' x ≡ v
  pub elsewhere : (y : ℕ) → (y ≡ x → ⊥) → f' y ≡ f y

-- i is a place of an id, 0 where a place is free.
pub record IsPlaceOf (ids : List ℕ) (id i : ℕ) : Type 0 where
  pub within : i < places
  pub found : get_or ids i 0 ≡ id

-- No place has an id.
abbrev pub IsNowhere : (ids : List ℕ) → ℕ → Type 0
IsNowhere ids id = (i : ℕ) → i < places → get_or ids i 0 ≡ id → ⊥

-- The key at place i leaves a key within the span, unless the place is free or is the one left out.
abbrev pub PlaceFits : (ids keys : List ℕ) → Option ℕ → ℕ → ℕ → Type 0
PlaceFits ids keys out key i = (out ≡ Some i → ⊥) → 1 ≤ get_or ids i 0 → (key ≤ get_or keys i 0 + key_span) × (get_or keys i 0 ≤ key + key_span)

-- A key is within the bounds beside the entries at all places but one that may be left out.
abbrev pub KeyFits : (ids keys : List ℕ) → Option ℕ → ℕ → Type 0
KeyFits ids keys out key = (key ≤ largest_key) × ((i : ℕ) → i < places → PlaceFits ids keys out key i)
