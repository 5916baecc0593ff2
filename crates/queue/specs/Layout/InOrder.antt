-- The walk over all entries in order: what has been met, and where it stands.
use Rattle.std.specs.Prelude.{◌≡◌, refl, ◌⊎◌, ℕ, zero, suc, ◌+◌, ◌≤◌, ◌<◌, length, drop, get_or, set}
use Rattle.std.proofs.Common.{sym, ap, ◌∙◌, inl, lt_irrefl, arith, length-set, drop-cons, get_or-set_same, get_or-set_other}
use Rattle.std.proofs.Math.Path.{subst⁻¹}
use Rattle.std.proofs.Math.Logic.{inr, ∥∥₁_elim, ∥∥₁_map, if_neg}
use mathlib.Core.List.{List, [], ◌∷◌, Mem, Pairwise-cons, filter-eq_self}
use Rattle.std.proofs.Math.Decide.{dec_lt}
use Rattle.basics.specs.Facts.Members.{get_or_mem}
use Rattle.basics.specs.Facts.Lexicographic.{then_zero}
use Rattle.basics.specs.Limits.{largest_key, places}
use Rattle.places.specs.Order.{Entry, Before, before, triple}
use Rattle.places.specs.Entries.{after}
use Rattle.places.specs.Facts.Entries.{InOrder, entry_path, before_asym, before_prop}
use Rattle.places.specs.Soundness.{IsLeast}
use Rattle.places.specs.Facts.Collected.{of_collected, collected_in_order, collected_length}
use Rattle.queue.specs.Layout.{id_at, key_at, release_at, entry_at, Holds, entries, Sound, bucket_of_key, IsPlacedAt}
use Rattle.queue.specs.Layout.Ranks.{low_place, low_head, bucket_place, bucket_head}
use Rattle.queue.specs.Layout.Decide.{decide_sound}
use Rattle.queue.specs.Layout.First.{first_some, after_found, after_none}
use Rattle.queue.specs.Layout.SoundRanks.{sound_once}
use Rattle.queue.specs.Layout.Walk.{head_below}
use Rattle.queue.specs.Layout.Buckets.{place_rank}
use Rattle.queue.specs.Calls.{first_of}
use Rattle.queue.specs.Linking.{IsFirstAfter, IsNoneAfter, StandsAt, point_at, IsInOrder}
use Rattle.queue.specs.declared.Queue.{Queue}
use Rattle.queue.specs.declared.Placed.{Placed}
use Rattle.queue.specs.declared.Found.{Found}

abbrev no_entry : Entry
no_entry = triple 0 0 0

-- the entries after the one at place i are those that stand after it
after_place : (es : List Entry) → InOrder es → (i : ℕ) (d : Entry) → i < length es → after (get_or es i d) es ≡ drop (suc i) es
unfolding after
after_place [] ordered i d within = elim within [ ]
after_place (x ∷ xs) ordered zero d within =
    if_neg (before x x) (λ self. before_asym x x self self) (x ∷ after x xs) (after x xs)
    ∙ (filter-eq_self (λ (e : Entry). before x e)).1 (Pairwise-cons.0 ordered).0
after_place (x ∷ xs) ordered (suc i) d within =
    let split = Pairwise-cons.0 ordered in
    let e = get_or xs i d in
    let earlier = split.0 e (get_or_mem xs i d (omega arith)) in
    if_neg (before e x) (λ later. before_asym x e earlier later) (x ∷ after e xs) (after e xs) ∙ after_place xs split.1 i d (omega arith)

-- with k entries met, the walk stands at a node before the others
pub record Met (q : Queue) (count k key n : ℕ) (placed : Placed) : Type 0 where
  pub within : k ≤ count
  pub met : IsInOrder q k placed
  pub stands : k < count → StandsAt q key n
  pub cursor : k < count → after (point_at q key n) (entries q) ≡ drop k (entries q)
  pub node : n < 544
  pub long_ids : length placed.ids ≡ places
  pub long_places : length placed.places ≡ places

-- an entry stored as the k-th
abbrev pub with_place : Placed → (k id place : ℕ) → Placed
with_place placed k id place = record { ids = set placed.ids k id; places = set placed.places k place }

module _ (q : Queue) (sound : Sound q) (count : ℕ) (some : count ≤ length (entries q)) where
  ordered : InOrder (entries q)
  unfolding entries
  ordered = collected_in_order (entry_at q) (sound_once q sound) places (omega arith)

  entries_at_most : length (entries q) ≤ places
  unfolding entries
  entries_at_most = collected_length (entry_at q) places

  in_room : (k : ℕ) → k < count → k < places
  in_room k below = omega (arith, some, entries_at_most)

  -- it begins at the head of the least key's bucket
  pub none_met : (key n : ℕ) (placed : Placed) → length placed.ids ≡ places → length placed.places ≡ places → IsLeast (id_at q) (key_at q) places key
      → n ≡ places + bucket_of_key key → Met q count 0 key n placed
  unfolding after entries
  none_met key n placed long_ids long_places least is =
      record {
        within = omega arith;
        met = record { ids = λ k below. absurd (lt_irrefl 0 (omega arith)); places = λ k below. absurd (lt_irrefl 0 (omega arith)) };
        stands = λ more.
            record {
              node = inr (head, omega (arith, is, head_below key));
              in_bucket = bucket_head (key_at q) n head ∙ omega (arith, is);
              held = go least.reached (get_or_mem (entries q) 0 no_entry (omega (arith, some, more)));
            };
        cursor = λ more. (filter-eq_self (λ (e : Entry). before (point_at q key n) e)).1
            (λ e m. ∥∥₁_elim (of_collected (entry_at q) places e m) (before_prop (point_at q key n) e)
            (λ w. subst⁻¹ (Before (point_at q key n)) w.3 (later w.0 (least.at_most w.0 w.1 w.2) w.2 (dec_lt key (key_at q w.0)))));
        node = omega (arith, is, head_below key);
        long_ids = long_ids;
        long_places = long_places;
      }
    where
      head : places ≤ n
      head = omega (arith, is)

      go : (key ≡ largest_key) ⊎ ((j : ℕ) × (j < places) × (1 ≤ id_at q j) × (key ≡ key_at q j)) → Mem (get_or (entries q) 0 no_entry) (entries q)
          → ∥ ((j : ℕ) × Holds q j × (key_at q j ≡ key)) ∥₁
      go (inl top) m =
          ∥∥₁_map (of_collected (entry_at q) places (get_or (entries q) 0 no_entry) m)
          (λ w. let holds : Holds q w.0 = (w.1, w.2) in
          (w.0, holds, omega (arith, top, least.at_most w.0 w.1 w.2, sound.keys_in_range w.0 holds)))
      go (inr w) m = ∣ (w.0, (w.1, w.2), sym w.3) ∣₁

      later : (i : ℕ) → key ≤ key_at q i → 1 ≤ id_at q i → Dec (key < key_at q i) → Before (point_at q key n) (entry_at q i)
      later i from id (yes less) = inl less
      later i from id (no equal) = inr (omega arith, rw (low_head (release_at q) n head, low_head (id_at q) n head) (then_zero (release_at q i) id))

  module _ (k key n : ℕ) (placed : Placed) (at : Met q count k key n placed) (more : k < count) where
    abbrev entry_k : Entry
    entry_k = get_or (entries q) k no_entry

    rest : after (point_at q key n) (entries q) ≡ entry_k ∷ drop (suc k) (entries q)
    rest = at.cursor more ∙ drop-cons (entries q) k no_entry (omega (arith, some))

    first_left : first_of (decide_sound q) (after (point_at q key n) (entries q))
        ≡ record { answer = 0; key = entry_k.key; release = entry_k.release; id = entry_k.id }
    first_left = ap (first_of (decide_sound q)) rest ∙ first_some (decide_sound q) sound entry_k (drop (suc k) (entries q))

    -- one is left, so one is found
    pub one_left : IsNoneAfter q (point_at q key n) → ⊥
    one_left none =
        let absent : 25 ≡ 0 = ap (λ (f : Found). f.answer) (sym (after_none q sound (point_at q key n) (decide_sound q) none) ∙ first_left) in
        lt_irrefl 0 (omega (arith, absent))

    module _ (x : ℕ) (is : IsFirstAfter q (point_at q key n) x) where
      found_entry : entry_at q x ≡ entry_k
      found_entry =
          let same = sym (after_found q sound (point_at q key n) (decide_sound q) x is) ∙ first_left in
          entry_path (entry_at q x) entry_k (ap (λ (f : Found). f.key) same) (ap (λ (f : Found). f.release) same) (ap (λ (f : Found). f.id) same)

      abbrev ids' : List ℕ
      ids' = set placed.ids k (id_at q x)

      abbrev places' : List ℕ
      places' = set placed.places k x

      -- with the entry found stored as the k-th, one more is met, and the walk stands at its place
      pub one_more_met : (j key' : ℕ) → j ≡ k + 1 → key' ≡ key_at q x → Met q count j key' x (with_place placed k (id_at q x) x)
      one_more_met j key' is_j is_key =
          let holds = is.holds in
          let next_place : suc k ≡ j = omega (arith, is_j) in
          let as_found = entry_path (point_at q key' x) (entry_at q x) is_key (low_place (release_at q) x is.holds.0) (low_place (id_at q) x is.holds.0) in
          let point_is : point_at q key' x ≡ entry_k = as_found ∙ found_entry in
          record {
            within = omega (arith, is_j);
            met = record { ids = λ i below. listed i (dec_lt i k) below; places = λ i below. there i (dec_lt i k) below };
            stands = λ _.
                record {
                  node = inl (holds.0, place_rank q x holds);
                  in_bucket = bucket_place (key_at q) x is.holds.0 ∙ ap bucket_of_key (sym is_key);
                  held = ∣ (x, holds, sym is_key) ∣₁;
                };
            cursor = λ _.
                ap (λ (e : Entry). after e (entries q)) point_is ∙ after_place (entries q) ordered k no_entry (omega (arith, some))
                ∙ ap (λ (i : ℕ). drop i (entries q)) next_place;
            node = omega (arith, is.holds.0);
            long_ids = length-set placed.ids k (id_at q x) ∙ at.long_ids;
            long_places = length-set placed.places k x ∙ at.long_places;
          }
        where
          last : (i : ℕ) → i < j → (i < k → ⊥) → i ≡ k
          last i below not_before = omega (arith, is_j)

          other : (i : ℕ) → i < k → i ≡ k → ⊥
          other i less same = lt_irrefl k (omega arith)

          id_here : get_or ids' k 0 ≡ id_at q x
          id_here = get_or-set_same placed.ids k (id_at q x) 0 (omega (arith, at.long_ids, in_room k more))

          place_here : get_or places' k 0 ≡ x
          place_here = get_or-set_same placed.places k x 0 (omega (arith, at.long_places, in_room k more))

          listed : (i : ℕ) → Dec (i < k) → i < j → get_or ids' i 0 ≡ (get_or (entries q) i no_entry).id
          listed i (yes less) below = get_or-set_other placed.ids k i (id_at q x) 0 (other i less) ∙ at.met.ids i less
          listed i (no not_before) below =
              rw (last i below not_before) (id_here ∙ ap (λ (e : Entry). e.id) found_entry)

          there : (i : ℕ) → Dec (i < k) → i < j → IsPlacedAt q (get_or ids' i 0) (get_or places' i 0)
          there i (yes less) below =
              rw (get_or-set_other placed.ids k i (id_at q x) 0 (other i less), get_or-set_other placed.places k i x 0 (other i less))
              (at.met.places i less)
          there i (no not_before) below =
              rw (last i below not_before) (rw (id_here, place_here) (record { holds = is.holds; has_id = refl }))
