-- Ids at the places of an array: one that stands at no earlier place.
use Rattle.std.specs.Prelude.{◌≡◌, List, ℕ, ◌≤◌, get_or}
use Rattle.basics.specs.Below.{Below}

-- An array as the function of places that the definitions speak of.
abbrev pub at : List ℕ → ℕ → ℕ
at l i = get_or l i 0

-- The id at place i, if there is one, stands at no place before it.
abbrev pub New : (ids : ℕ → ℕ) → ℕ → Type 0
New ids i = 1 ≤ ids i → Below i (λ j. ids j ≡ ids i → ⊥)
