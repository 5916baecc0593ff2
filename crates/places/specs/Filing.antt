-- Rows of key, release and id that places are compared with, and when the places hold just these.
use Rattle.std.specs.Prelude.{◌≡◌, List, ℕ, ◌+◌, ◌≤◌, ◌<◌, get_or}
use Rattle.basics.specs.Limits.{places, largest_id, key_span, largest_key}
use Rattle.basics.specs.Places.{Rises}
use Rattle.places.specs.Order.{Entry}
use Rattle.places.specs.Entries.{row_of}
use Rattle.places.specs.Soundness.{Full}

-- n rows that a sound queue can file, in ascending id, with larger numbers behind them.
pub record CanFile (ids keys releases : List ℕ) (n : ℕ) : Type 0 where
  pub few : n ≤ places
  pub rise : Rises ids
  pub ascend : (i j : ℕ) → i < j → j < n → get_or ids i 0 < get_or ids j 0
  pub some : (i : ℕ) → i < n → 1 ≤ get_or ids i 0
  pub small : (i : ℕ) → i < n → get_or ids i 0 ≤ largest_id
  pub keys_in_range : (i : ℕ) → i < n → get_or keys i 0 ≤ largest_key
  pub released : (i : ℕ) → i < n → get_or releases i 0 ≤ get_or keys i 0
  pub span : (i j : ℕ) → i < n → j < n → get_or keys i 0 ≤ get_or keys j 0 + key_span

-- r is which of the first n rows this entry is.
pub record IsRow (ids keys releases : List ℕ) (n : ℕ) (e : Entry) (r : ℕ) : Type 0 where
  pub within : r < n
  pub is : row_of ids keys releases r ≡ e

-- This entry is none of the first n rows.
abbrev pub IsNoRow : (ids keys releases : List ℕ) → ℕ → Entry → Type 0
IsNoRow ids keys releases n e = (i : ℕ) → i < n → row_of ids keys releases i ≡ e → ⊥

-- A place that holds an entry, said of entries by place.
abbrev pub Filled : (ℕ → Entry) → ℕ → Type 0
Filled filed = Full (λ i. (filed i).id)

-- The places hold just the first n rows, each at one place.
pub record PlacesFile (filed rows : ℕ → Entry) (n : ℕ) : Type 0 where
  pub listed : (x : ℕ) → Filled filed x → ∥ ((i : ℕ) × (i < n) × (rows i ≡ filed x)) ∥₁
  pub once : (x y : ℕ) → Filled filed x → Filled filed y → (filed x).id ≡ (filed y).id → x ≡ y
  pub placed : (i : ℕ) → i < n → ∥ ((x : ℕ) × Filled filed x × (rows i ≡ filed x)) ∥₁
