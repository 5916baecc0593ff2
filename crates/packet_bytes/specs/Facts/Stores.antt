-- What storing the ids of a packet one after the other leaves, and what taking them from it gives.
use Rattle.std.specs.Prelude.{◌≡◌, List, [], ◌∷◌, ◌++◌, ℕ, zero, suc, ◌+◌, ◌-◌, ◌*◌, ◌/◌, ◌%◌, ◌^◌, ◌≤◌, ◌<◌, length, get_or, take, drop, set}
use Rattle.std.specs.Int.{to_be_bytes}
use Rattle.std.proofs.Common.{refl, sym, ap, ◌∙◌, arith, length-set, drop-drop, w16}
use Rattle.std.proofs.lemmas.List.{take_more, take_more_set}
use Rattle.std.proofs.lemmas.Slice.{take-put_mid, drop-put_mid}
use borrow.Rule.Slice.PartMut.{put_mid}
use Rattle.packet_bytes.specs.Layout.{id_bytes}
use Rattle.packet_bytes.specs.Parts.{most_read, ids_in}

id_bytes_append : (xs ys : List ℕ) → id_bytes (xs ++ ys) ≡ id_bytes xs ++ id_bytes ys
unfolding id_bytes
id_bytes_append [] ys = refl
id_bytes_append (x ∷ xs) ys = ap (λ (l : List ℕ). x / 256 ∷ x % 256 ∷ l) (id_bytes_append xs ys)

-- the two bytes of an id
bytes_of_id : (id : ℕ) → id < 2 ^ 16 → to_be_bytes w16 id ≡ id_bytes (id ∷ [])
unfolding id_bytes
bytes_of_id id small = let high : id / 256 % 256 ≡ id / 256 = omega arith in λ i. high i ∷ id % 256 ∷ []

-- The first k ids are stored; later bytes are as they were.
pub record AreStored (part ids : List ℕ) (k : ℕ) (after : List ℕ) : Type 0 where
  pub stored : take (2 * k) after ≡ id_bytes (take k ids)
  pub later : drop (2 * k) after ≡ drop (2 * k) part

module _ (part ids : List ℕ) where
  -- with no id stored yet the bytes are as they were
  pub none_stored : AreStored part ids 0 part
  unfolding id_bytes
  none_stored = record { stored = refl; later = refl }

  -- with the first k ids stored, the two bytes of the next one make it k + 1
  pub one_more_stored : (k : ℕ) (after two : List ℕ) → AreStored part ids k after → k < length ids → 2 * length ids ≤ length after
      → get_or ids k 0 < 2 ^ 16 → two ≡ to_be_bytes w16 (get_or ids k 0)
      → AreStored part ids (k + 1) (put_mid (2 * k) (2 * k + 2 - 2 * k) after two)
  one_more_stored k after two is more room small bytes =
      let id = get_or ids k 0 in
      let many : length two ≡ 2 = ap (length {A = ℕ}) bytes in
      let next : (l : List ℕ) → drop (2 * (k + 1)) l ≡ drop 2 (drop (2 * k) l) = λ l. simp drop-drop (ap (λ (n : ℕ). drop n l) (omega arith)) in
      record {
        stored =
            take-put_mid (2 * k) (2 * k + 2 - 2 * k) after two (2 * (k + 1)) (omega arith) (omega arith)
            ∙ (λ i. is.stored i ++ (bytes ∙ bytes_of_id id small) i)
            ∙ sym (id_bytes_append (take k ids) (id ∷ []))
            ∙ ap id_bytes (sym (take_more ids k 0 more));
        later =
            drop-put_mid (2 * k) (2 * k + 2 - 2 * k) after two (2 * (k + 1)) (omega arith) (omega arith) (omega arith)
            ∙ next after
            ∙ ap (drop 2) is.later
            ∙ sym (next part);
      }

-- a pair of bytes more is an id more
pair_more : (k : ℕ) (p : List ℕ) → 2 * k + 1 < length p
    → ids_in (take (2 * (k + 1)) p) ≡ ids_in (take (2 * k) p) ++ ((get_or p (2 * k) 0 * 256 + get_or p (2 * k + 1) 0) ∷ [])
unfolding ids_in
pair_more k [] inside = absurd (omega arith)
pair_more k (a ∷ []) inside = absurd (omega arith)
pair_more zero (a ∷ b ∷ rest) inside = refl
pair_more (suc k) (a ∷ b ∷ rest) inside =
    let e : 2 * (suc k + 1) ≡ suc (suc (2 * (k + 1))) = omega arith in
    let f : 2 * suc k ≡ suc (suc (2 * k)) = omega arith in
    let g : suc (suc (2 * k)) + 1 ≡ suc (suc (2 * k + 1)) = omega arith in
    rw (e, f, g) (ap (λ (l : List ℕ). (a * 256 + b) ∷ l) (pair_more k rest (omega arith)))

-- The first k places hold the ids of the first k pairs.
pub record AreTaken (part : List ℕ) (k : ℕ) (ids : List ℕ) : Type 0 where
  pub size : length ids ≡ most_read
  pub taken : take k ids ≡ ids_in (take (2 * k) part)

module _ (part : List ℕ) where
  -- at first there are none
  pub none_taken : (ids : List ℕ) → length ids ≡ most_read → AreTaken part 0 ids
  unfolding ids_in
  none_taken ids size = record { size = size; taken = refl }

  -- with the ids of the first k pairs in the first k places, that of the next pair put at place k makes it k + 1
  pub one_more_pair : (k : ℕ) (ids : List ℕ) (x : ℕ) → AreTaken part k ids → 2 * k + 1 < length part → k < most_read
      → x ≡ get_or part (2 * k) 0 * 256 + get_or part (2 * k + 1) 0 → AreTaken part (k + 1) (set ids k x)
  one_more_pair k ids x are inside few is =
      record {
        size = length-set ids k x ∙ are.size;
        taken =
            take_more_set ids k x (omega (arith, are.size))
            ∙ (λ i. are.taken i ++ is i ∷ [])
            ∙ sym (pair_more k part inside);
      }
