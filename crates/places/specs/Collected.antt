-- Entries by their places, and all of them in order.
use Rattle.std.specs.Prelude.{◌≡◌, List, [], ℕ, zero, suc, ◌≤◌, ◌<◌}
use Rattle.std.proofs.Math.Logic.{ite}
use Rattle.std.proofs.Math.Decide.{dec_le}
use Rattle.basics.specs.Limits.{places}
use Rattle.places.specs.Order.{Entry}
use Rattle.places.specs.Entries.{put}

-- Annex 8.3: the entries in the first n places, each put where it belongs in the order. A place with id 0 is free.
unfoldable pub collected : (at : ℕ → Entry) → ℕ → List Entry
collected at zero = []
collected at (suc i) = ite (dec_le 1 (at i).id) (put (at i) (collected at i)) (collected at i)

-- Annex 8.4: ids differ from place to place.
abbrev pub Once : (ids : ℕ → ℕ) → Type 0
Once ids = (i j : ℕ) → i < places → j < places → 1 ≤ ids i → ids i ≡ ids j → i ≡ j
