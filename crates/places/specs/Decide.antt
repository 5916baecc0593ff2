-- What is asked of entries and of their places can be decided on any value whatever.
use Rattle.std.specs.Prelude.{◌≡◌, ℕ, ◌+◌, ◌≤◌}
use Rattle.std.proofs.Math.Logic.Dec.{and as Dec-and}
use mathlib.Core.List.{List, decidable_b_all, decidable_b_ex}
use Rattle.std.proofs.Math.Decide.{dec_le, ℕ_discrete, map_dec}
use Rattle.basics.specs.Limits.{key_span, largest_key, largest_id, places}
use Rattle.basics.specs.Below.{decide_below, decide_implies}
use Rattle.places.specs.Order.{Entry}
use Rattle.places.specs.Entries.{Filed, InBounds}
use Rattle.places.specs.Soundness.{Full, PlacesSound}

-- whether some entry of a list has an id can be decided
pub decide_filed : (id : ℕ) (es : List Entry) → Dec (Filed id es)
decide_filed id es = decidable_b_ex (λ (e : Entry). ℕ_discrete e.id id) es

-- whether keys, releases and span of some entries are within the bounds can be decided
pub decide_in_bounds : (es : List Entry) → Dec (InBounds es)
decide_in_bounds es =
    map_dec
    (λ w. record { keys = w.0; released = w.1.0; span = λ d e md me. w.1.1 d md e me })
    (λ b. (b.keys, (b.released, λ d md e me. b.span d e md me)))
    (Dec-and (decidable_b_all (λ (e : Entry). dec_le e.key largest_key) es)
    (Dec-and (decidable_b_all (λ (e : Entry). dec_le e.release e.key) es)
    (decidable_b_all (λ (d : Entry). decidable_b_all (λ (e : Entry). dec_le d.key (e.key + key_span)) es) es)))

-- what is asked of the places that hold an entry
decide_full : (ids : ℕ → ℕ) (P : ℕ → Type 0) → ((i : ℕ) → Dec (P i)) → Dec ((i : ℕ) → Full ids i → P i)
decide_full ids P decide =
    map_dec (λ all i holds. all i holds.0 holds.1) (λ all i below some. all i (below, some))
    (decide_below (λ i. 1 ≤ ids i → P i) (λ i. decide_implies (dec_le 1 (ids i)) (decide i)) places)

-- whether ids, keys and releases at 64 places are sound can be decided
pub decide_places_sound : (ids keys releases : ℕ → ℕ) → Dec (PlacesSound ids keys releases)
decide_places_sound ids keys releases =
    map_dec
    (λ w. record {
      ids_in_range = w.0;
      once = λ i j hi hj. w.1.0 i hi j hj;
      keys_in_range = w.1.1.0;
      released = w.1.1.1.0;
      span = λ i j hi hj. w.1.1.1.1 i hi j hj;
    })
    (λ s. (s.ids_in_range, ((λ i hi j hj. s.once i j hi hj), (s.keys_in_range, (s.released, λ i hi j hj. s.span i j hi hj)))))
    (Dec-and (decide_full ids (λ i. ids i ≤ largest_id) (λ i. dec_le (ids i) largest_id))
    (Dec-and (decide_full ids (λ i. (j : ℕ) → Full ids j → ids i ≡ ids j → i ≡ j)
    (λ i. decide_full ids (λ j. ids i ≡ ids j → i ≡ j) (λ j. decide_implies (ℕ_discrete (ids i) (ids j)) (ℕ_discrete i j))))
    (Dec-and (decide_full ids (λ i. keys i ≤ largest_key) (λ i. dec_le (keys i) largest_key))
    (Dec-and (decide_full ids (λ i. releases i ≤ keys i) (λ i. dec_le (releases i) (keys i)))
    (decide_full ids (λ i. (j : ℕ) → Full ids j → keys i ≤ keys j + key_span)
    (λ i. decide_full ids (λ j. keys i ≤ keys j + key_span) (λ j. dec_le (keys i) (keys j + key_span))))))))
