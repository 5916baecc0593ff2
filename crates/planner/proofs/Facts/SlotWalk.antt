-- A walk of the queue in order finds the slots of a round: of the entries in order, those that are released.
use Rattle.std.specs.Prelude.{◌≡◌, refl, ℕ, zero, suc, ◌≤◌, ◌<◌, length, take, drop, get_or}
use Rattle.std.proofs.Common.{sym, subst, ◌∙◌, arith, take-append-drop, take-suc, take_all, take_at}
use Rattle.std.proofs.Math.Path.{ap, subst⁻¹}
use Rattle.std.proofs.Math.Logic.{if_pos, if_neg, ∥∥₁_elim}
use mathlib.Core.List.Perm
use mathlib.Core.List.Pairwise
use mathlib.Core.List.{List, [], ◌∷◌, ◌++◌, Mem, Mem-prop}
use mathlib.Core.List.{map, filter, map-map, map-append, filter-append, append-nil, mem-map, mem-map_of_mem, mem-filter}
use Rattle.std.proofs.Math.Decide.{dec_le}
use Rattle.rules.specs.Streams.{Stream, due, IsTable}
use Rattle.rules.specs.Demand.{DueAfter}
use Rattle.rules.specs.Slots.{riders, in_order, slots}
use Rattle.rules.proofs.Facts.Slots.{in_order_perm, rider_iff}
use Rattle.rules.proofs.Facts.SlotOrder.{line_in_order}
use Rattle.table.specs.Facts.Streams.{seen, seen_from}
use Rattle.table.specs.Table.{stream_of, as_streams}
use Rattle.table.specs.declared.Record.{Record}
use Rattle.queue.specs.Interface.{Entry}
use Rattle.queue.specs.InterfaceLaws.{InOrder, before_prop, in_order_unique}
use Rattle.state.specs.Sound.{entry_of, Files}

-- Whether an entry is released by s.
pub released : (s : ℕ) (e : Entry) → Dec (e.release ≤ s)
released s e = dec_le e.release s

-- The ids of those of some entries that are released by s.
unfoldable pub released_ids : ℕ → List Entry → List ℕ
released_ids s es = map (λ (e : Entry). e.id) (filter (released s) es)

-- the entry of a stream, as the rules see it
abbrev seen_entry : Stream → Entry
seen_entry x = record { key = due x; release = x.release; id = x.number }

module _ (s : ℕ) (rs : List Record) (es : List Entry) (table : IsTable (as_streams rs)) (later : DueAfter s (as_streams rs)) (ordered : InOrder es)
    (files : Files es rs)
  where
    abbrev line : List Stream
    line = in_order (riders s (as_streams rs))

    to_line : (e : Entry) → Mem e (filter (released s) es) → Mem e (map seen_entry line)
    to_line e m =
        let (there, early) = (mem-filter (released s)).0 m in
        ∥∥₁_elim ((files e).0 there) Mem-prop
        (λ filed.
        let x = stream_of filed.0 in
        let held : Mem x (as_streams rs) = seen filed.1 in
        let by_start : x.release ≤ s = subst (λ (a : Entry). a.release ≤ s) filed.2 early in
        let after = later x held in
        let rides : Mem x (riders s (as_streams rs)) = (rider_iff s (as_streams rs) x).1 (held, (omega arith, omega arith)) in
        subst⁻¹ (λ (a : Entry). Mem a (map seen_entry line)) filed.2
        (mem-map_of_mem seen_entry ((Perm.mem_iff (in_order_perm (riders s (as_streams rs)))).1 rides)))

    from_line : (e : Entry) → Mem e (map seen_entry line) → Mem e (filter (released s) es)
    from_line e m =
        ∥∥₁_elim (mem-map.0 m) Mem-prop
        (λ w.
        let rides = (rider_iff s (as_streams rs) w.0).0 ((Perm.mem_iff (in_order_perm (riders s (as_streams rs)))).0 w.1) in
        ∥∥₁_elim (seen_from rides.0) Mem-prop
        (λ v.
        let is : e ≡ entry_of v.0 = sym w.2 ∙ ap seen_entry (sym v.2) in
        let begun : w.0.release ≤ s = omega (arith, rides.1.0) in
        let early : e.release ≤ s = subst (λ (a : Entry). a.release ≤ s) w.2 begun in
        (mem-filter (released s)).1 ((files e).1 ∣ (v.0, v.1, is) ∣₁, early)))

    -- the released entries, in order, are those of the packets that may ride
    released_line : filter (released s) es ≡ map seen_entry line
    released_line =
        in_order_unique (filter (released s) es) (map seen_entry line) (Pairwise.filter (released s) ordered)
        (Pairwise.map before_prop seen_entry (λ x y earlier. earlier) (line_in_order s (as_streams rs) table)) to_line from_line

    line_ids : released_ids s es ≡ map (λ (x : Stream). x.number) line
    unfolding released_ids
    line_ids = ap (map (λ (e : Entry). e.id)) released_line ∙ map-map (λ (e : Entry). e.id) seen_entry line

map_take : {A B : Type 0} (f : A → B) (n : ℕ) (xs : List A) → map f (take n xs) ≡ take n (map f xs)
map_take f zero xs = refl
map_take f (suc n) [] = refl
map_take f (suc n) (x ∷ xs) = ap (λ (r : List _). f x ∷ r) (map_take f n xs)

-- the slots are the first b of the released entries
pub slots_ids : (b s : ℕ) (rs : List Record) (es : List Entry) → IsTable (as_streams rs) → DueAfter s (as_streams rs) → InOrder es → Files es rs
    → map (λ (x : Stream). x.number) (slots b s (as_streams rs)) ≡ take b (released_ids s es)
unfolding slots
slots_ids b s rs es table later ordered files =
    map_take (λ (x : Stream). x.number) b (in_order (riders s (as_streams rs))) ∙ ap (take b) (sym (line_ids s rs es table later ordered files))

module _ (s : ℕ) where
  released_append : (xs ys : List Entry) → released_ids s (xs ++ ys) ≡ released_ids s xs ++ released_ids s ys
  unfolding released_ids
  released_append xs ys =
      ap (map (λ (e : Entry). e.id)) (filter-append (released s) xs ys)
      ∙ map-append (λ (e : Entry). e.id) (filter (released s) xs) (filter (released s) ys)

  -- one entry more: its id if it is released, else nothing
  pub one_more_taken : (es : List Entry) (i : ℕ) (e : Entry) → i < length es → (get_or es i e).release ≤ s
      → released_ids s (take (suc i) es) ≡ released_ids s (take i es) ++ ((get_or es i e).id ∷ [])
  unfolding released_ids
  one_more_taken es i e within early =
      ap (released_ids s) (take-suc es i e within) ∙ released_append (take i es) (get_or es i e ∷ [])
      ∙ ap (λ (r : List Entry). released_ids s (take i es) ++ map (λ (a : Entry). a.id) r)
      (if_pos (released s (get_or es i e)) early (get_or es i e ∷ []) [])

  -- an entry that is released after s adds no id
  pub one_more_skipped : (es : List Entry) (i : ℕ) (e : Entry) → i < length es → ((get_or es i e).release ≤ s → ⊥)
      → released_ids s (take (suc i) es) ≡ released_ids s (take i es)
  unfolding released_ids
  one_more_skipped es i e within late =
      ap (released_ids s) (take-suc es i e within) ∙ released_append (take i es) (get_or es i e ∷ [])
      ∙ ap (λ (r : List Entry). released_ids s (take i es) ++ map (λ (a : Entry). a.id) r)
      (if_neg (released s (get_or es i e)) late (get_or es i e ∷ []) [])
      ∙ append-nil (released_ids s (take i es))

  -- once there are b of them, they are the first b of all
  pub enough : (es : List Entry) (i b : ℕ) → length (released_ids s (take i es)) ≡ b → take b (released_ids s es) ≡ released_ids s (take i es)
  enough es i b full =
      ap (λ (r : List Entry). take b (released_ids s r)) (sym (take-append-drop i es)) ∙ ap (take b) (released_append (take i es) (drop i es))
      ∙ take_at (released_ids s (take i es)) (released_ids s (drop i es)) b full

  -- and once all entries are seen, at most b of them are all
  pub all_seen : (es : List Entry) (i b : ℕ) → length es ≤ i → length (released_ids s (take i es)) ≤ b
      → take b (released_ids s es) ≡ released_ids s (take i es)
  all_seen es i b seen few =
      let all : take i es ≡ es = take_all i es seen in
      rw all (take_all b (released_ids s es) (rw all at few))
