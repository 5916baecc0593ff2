-- Lists of entries in order, and what the calls do to them.
use Rattle.std.specs.Prelude.{◌≡◌, ◌↔◌, ℕ, ◌+◌, ◌≤◌, ◌<◌, get_or}
use Rattle.std.proofs.Math.Logic.{ite}
use Rattle.std.proofs.Math.Logic.Dec.{not as Dec-not}
use mathlib.Core.List.{List, [], ◌∷◌, Mem, filter}
use Rattle.std.proofs.Math.Decide.{ℕ_discrete}
use Rattle.basics.specs.Limits.{key_span, largest_key}
use Rattle.places.specs.Order.{Entry, before, triple}

-- Annex 8.10: an entry put into a list in order: in front of the first entry that it comes before, at the end if there is none.
unfoldable pub put : Entry → List Entry → List Entry
put e [] = e ∷ []
put e (x ∷ xs) = ite (before e x) (e ∷ x ∷ xs) (x ∷ put e xs)

-- Annex 8.11: the list without any entry of an id, the others as they stood.
unfoldable pub without : ℕ → List Entry → List Entry
without id es = filter (λ (e : Entry). Dec-not (ℕ_discrete e.id id)) es

-- Annex 8.14: the entries that come after a key, a release and an id, strictly, as they stood.
unfoldable pub after : Entry → List Entry → List Entry
after point es = filter (λ (e : Entry). before point e) es

-- Annex 8.12: what an id is filed as: its first entry, zeros if it has none.
unfoldable pub filed_as : ℕ → List Entry → Entry
filed_as id [] = triple 0 0 0
filed_as id (e ∷ es) = ite (ℕ_discrete e.id id) e (filed_as id es)

-- Annex 8.12: an entry moved on: the amount is added to its key and to its release, and the id stays.
abbrev pub moved_on : ℕ → Entry → Entry
moved_on amount e = record { key = e.key + amount; release = e.release + amount; id = e.id }

-- Annex 8.10, 8.11: some entry has the id: it is filed.
abbrev pub Filed : ℕ → List Entry → Type 0
Filed id es = ∥ ((e : Entry) × Mem e es × (e.id ≡ id)) ∥₁

-- Annex 3.11: the i-th of some entries that are given by their columns.
abbrev pub row_of : (ids keys releases : List ℕ) → ℕ → Entry
row_of ids keys releases i = record { key = get_or keys i 0; release = get_or releases i 0; id = get_or ids i 0 }

-- Annex 3.11: the entries are just the first n of these rows.
abbrev pub FilesJust : (ids keys releases : List ℕ) → ℕ → List Entry → Type 0
FilesJust ids keys releases n es = (e : Entry) → Mem e es ↔ ∥ ((i : ℕ) × (i < n) × (e ≡ row_of ids keys releases i)) ∥₁

-- Annex 8.5: no key is above 2,000,000,000, no release above its key, and no key more than 479 above another. Equality is within bounds.
pub record InBounds (es : List Entry) : Type 0 where
  pub keys : (e : Entry) → Mem e es → e.key ≤ largest_key
  pub released : (e : Entry) → Mem e es → e.release ≤ e.key
  pub span : (d e : Entry) → Mem d es → Mem e es → d.key ≤ e.key + key_span
