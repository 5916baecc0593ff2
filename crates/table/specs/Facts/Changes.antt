-- Where put-by-id, without-id and serve act on a list, and on the records of a table.
use Rattle.std.specs.Prelude.{◌≡◌, refl, ℕ, zero, suc, ◌≤◌, ◌<◌, set, take, length}
use Rattle.std.proofs.Common.{sym, ap, subst, ◌∙◌, lt_irrefl, arith, length-take-le}
use mathlib.Core.HLevel.{¬_prop}
use Rattle.std.proofs.Math.Logic.{if_pos, if_neg, ∥∥₁_elim}
use Rattle.std.proofs.Math.Logic.Dec.{not as Dec-not}
use mathlib.Core.List.{List, [], ◌∷◌, filter-eq_self, map_congr_left, map-id, Mem, Pairwise-cons, exists_of_mem-map, mem-map_of_mem}
use Rattle.std.proofs.Math.Decide.{dec_lt, ℕ_discrete}
use Rattle.std.proofs.Math.Seq.{take-set-lt}
use Rattle.basics.specs.Facts.Members.{get_or_mem}
use Rattle.table.specs.Table.{records_of, record_at, no_record}
use Rattle.table.specs.Facts.Table.{row_at, record_at_mem, all_records, row_there}
use Rattle.table.specs.Changes.{HasId, put_by_id, without_id, sent, Ascending}
use Rattle.table.specs.Needs.{serve}
use Rattle.table.specs.Places.{opened, closed, IsPlaceBefore}
use Rattle.table.specs.declared.Record.{Record}
use Rattle.table.specs.declared.Table.{Table}

-- a new record belongs before the first greater id
put_at : (x : Record) (rs : List Record) (k : ℕ) → k ≤ length rs → ((j : ℕ) → j < k → (row_at rs j).id ≤ x.id)
    → (k < length rs → x.id < (row_at rs k).id) → put_by_id x rs ≡ opened k x rs
unfolding put_by_id
put_at x [] zero within earlier later = refl
put_at x [] (suc k) within earlier later = absurd (lt_irrefl 0 (omega arith))
put_at x (y ∷ ys) zero within earlier later = if_pos (dec_lt x.id y.id) (later (omega arith)) (x ∷ y ∷ ys) (y ∷ put_by_id x ys)
put_at x (y ∷ ys) (suc k) within earlier later =
    if_neg (dec_lt x.id y.id) (λ less. lt_irrefl 0 (omega (arith, earlier 0 (omega arith)))) (x ∷ y ∷ ys) (y ∷ put_by_id x ys)
    ∙ ap (λ (r : List Record). y ∷ r) (put_at x ys k (omega arith) (λ j low. earlier (suc j) (omega arith)) (λ low. later (omega arith)))

-- in ascending ids, a record before the one that has the id has another
earlier_differs : (x : Record) (xs : List Record) → Ascending (x ∷ xs) → (k id : ℕ) → k < length xs → (row_at xs k).id ≡ id → x.id ≡ id → ⊥
earlier_differs x xs ascending k id within here same =
    let behind = get_or_mem xs k no_record within in
    lt_irrefl id (omega (arith, (Pairwise-cons.0 ascending).0 (row_at xs k) behind))

-- and so has one after it
later_differs : (x : Record) (xs : List Record) → Ascending (x ∷ xs) → (id : ℕ) → x.id ≡ id → (y : Record) → Mem y xs → y.id ≡ id → ⊥
later_differs x xs ascending id here y m same = lt_irrefl id (omega (arith, (Pairwise-cons.0 ascending).0 y m))

without_at : (id : ℕ) (rs : List Record) → Ascending rs → (k : ℕ) → k < length rs → (row_at rs k).id ≡ id → without_id id rs ≡ closed k rs
unfolding without_id
without_at id [] ascending k within here = absurd (lt_irrefl 0 (omega arith))
without_at id (x ∷ xs) ascending zero within here =
    if_neg (Dec-not (ℕ_discrete x.id id)) (λ differs. differs here) (x ∷ without_id id xs) (without_id id xs)
    ∙ (filter-eq_self (λ (r : Record). Dec-not (ℕ_discrete r.id id))).1 (later_differs x xs ascending id here)
without_at id (x ∷ xs) ascending (suc k) within here =
    if_pos (Dec-not (ℕ_discrete x.id id)) (earlier_differs x xs ascending k id (omega arith) here) (x ∷ without_id id xs) (without_id id xs)
    ∙ ap (λ (r : List Record). x ∷ r) (without_at id xs (Pairwise-cons.0 ascending).1 k (omega arith) here)

serve_at : (id : ℕ) (rs : List Record) → Ascending rs → (k : ℕ) → k < length rs → (row_at rs k).id ≡ id → serve id rs ≡ set rs k (sent (row_at rs k))
unfolding serve
serve_at id [] ascending k within here = absurd (lt_irrefl 0 (omega arith))
serve_at id (x ∷ xs) ascending zero within here =
    ap (λ (y : Record). y ∷ serve id xs) (if_pos (ℕ_discrete x.id id) here (sent x) x)
    ∙ ap (λ (r : List Record). sent x ∷ r)
    (map_congr_left (λ y m. if_neg (ℕ_discrete y.id id) (later_differs x xs ascending id here y m) (sent y) y) ∙ map-id xs)
serve_at id (x ∷ xs) ascending (suc k) within here =
    ap (λ (y : Record). y ∷ serve id xs) (if_neg (ℕ_discrete x.id id) (earlier_differs x xs ascending k id (omega arith) here) (sent x) x)
    ∙ ap (λ (r : List Record). x ∷ r) (serve_at id xs (Pairwise-cons.0 ascending).1 k (omega arith) here)

-- an id that no place has is not in the table
pub absent_by_place : (table : Table) (id : ℕ) → ((k : ℕ) → k < table.count → (record_at table k).id ≡ id → ⊥) → HasId id (records_of table) → ⊥
absent_by_place table id differ held =
    ∥∥₁_elim
    (exists_of_mem-map held)
    (λ x y. absurd x)
    (λ found. all_records (λ r. r.id ≡ id → ⊥) (λ r. ¬_prop) table differ found.0 found.1 found.2)

-- a table whose count its places can hold
module _ (table : Table) (held : table.count ≤ length table.streams) where
  -- there are as many records as the count says
  pub records_count : length (records_of table) ≡ table.count
  records_count = length-take-le table.count table.streams held

  -- an id that a place has is in the table
  pub held_at_place : (id r : ℕ) → r < table.count → (record_at table r).id ≡ id → HasId id (records_of table)
  held_at_place id r low same =
      subst (λ (n : ℕ). HasId n (records_of table)) same (mem-map_of_mem (λ (r : Record). r.id) (record_at_mem table held r low))

  -- a record put in by id goes before the first greater id, or behind the last record
  pub put_at_place : (x : Record) (r : ℕ) → IsPlaceBefore table x.id r → put_by_id x (records_of table) ≡ opened r x (records_of table)
  put_at_place x r place =
      let id_at : (k : ℕ) → k < table.count → (row_at (records_of table) k).id ≡ (record_at table k).id =
      λ k low. ap (λ (y : Record). y.id) (row_there table k low) in
      put_at x (records_of table) r (omega (arith, records_count))
      (λ j low. omega (arith, id_at j (omega arith), place.earlier j low))
      (λ low. let inside : r < table.count = omega (arith, records_count) in omega (arith, id_at r inside, place.later inside))

  module _ (ascending : Ascending (records_of table)) (id r : ℕ) (low : r < table.count) (same : (record_at table r).id ≡ id) where
    inside : r < length (records_of table)
    inside = omega (arith, records_count, low)

    here : (row_at (records_of table) r).id ≡ id
    here = ap (λ (x : Record). x.id) (row_there table r low) ∙ same

    -- the records without a held id are those with the id's place closed
    pub without_at_place : without_id id (records_of table) ≡ closed r (records_of table)
    without_at_place = without_at id (records_of table) ascending r inside here

    -- with the record at a held id's place at its next packet, the records are those with that id served
    pub serve_at_place : take table.count (set table.streams r (sent (record_at table r))) ≡ serve id (records_of table)
    serve_at_place =
        take-set-lt table.count table.streams r (sent (record_at table r)) low
        ∙ ap (λ (x : Record). set (records_of table) r (sent x)) (sym (row_there table r low))
        ∙ sym (serve_at id (records_of table) ascending r inside here)
