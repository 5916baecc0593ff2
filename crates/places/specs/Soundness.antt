-- When ids, keys and releases at 64 places are sound, and what the functions that test it promise one another.
use Rattle.std.specs.Prelude.{◌≡◌, ◌⊎◌, ℕ, ◌+◌, ◌≤◌, ◌<◌}
use Rattle.basics.specs.Limits.{largest_id, key_span, largest_key, places}
use Rattle.basics.specs.Below.{Below}

-- A free place has no key, so none that is too large.
abbrev pub KeyWithin : (id key top : ℕ) → Type 0
KeyWithin id key top = 1 ≤ id → key ≤ top

-- No place that holds an entry has a number above its bound.
abbrev pub AllWithin : (ids values tops : ℕ → ℕ) → Type 0
AllWithin ids values tops = Below places (λ i. KeyWithin (ids i) (values i) (tops i))

-- No key of an entry is above the one bound.
abbrev pub KeysWithin : (ids keys : ℕ → ℕ) → ℕ → Type 0
KeysWithin ids keys top = AllWithin ids keys (λ _. top)

-- r is at most the key at each of the first n places that hold an entry, and is one of these keys, or the limit on keys.
pub record IsLeast (ids keys : ℕ → ℕ) (n r : ℕ) : Type 0 where
  pub bounded : r ≤ largest_key
  pub at_most : (i : ℕ) → i < n → 1 ≤ ids i → r ≤ keys i
  pub reached : (r ≡ largest_key) ⊎ ((j : ℕ) × (j < n) × (1 ≤ ids j) × (r ≡ keys j))

-- A place that holds an entry: its id is not 0.
abbrev pub Full : (ids : ℕ → ℕ) → ℕ → Type 0
Full ids i = (i < places) × (1 ≤ ids i)

-- No two keys of entries are more than 479 apart.
abbrev pub ShortSpan : (ids keys : ℕ → ℕ) → Type 0
ShortSpan ids keys = (i j : ℕ) → Full ids i → Full ids j → keys i ≤ keys j + key_span

-- What a sound queue asks of its places: ids 1 to 32,767 and once only, and no key, release or span beyond the bounds of 23.
pub record PlacesSound (ids keys releases : ℕ → ℕ) : Type 0 where
  pub ids_in_range : (i : ℕ) → Full ids i → ids i ≤ largest_id
  pub once : (i j : ℕ) → Full ids i → Full ids j → ids i ≡ ids j → i ≡ j
  pub keys_in_range : (i : ℕ) → Full ids i → keys i ≤ largest_key
  pub released : (i : ℕ) → Full ids i → releases i ≤ keys i
  pub span : ShortSpan ids keys
