-- Facts on a table with a record put in or taken out.
use Rattle.std.specs.Prelude.{◌≡◌, refl, ◌↔◌, ℕ, suc, ◌+◌, ◌≤◌, ◌<◌, length}
use Rattle.std.proofs.Common.{ap, subst, ◌∙◌, lt_irrefl, lt_trans, arith}
use Rattle.std.proofs.Math.Path.{subst⁻¹}
use Rattle.std.proofs.Math.Logic.Or
use Rattle.std.proofs.Math.Logic.{◌∨₁◌, ite, ∥∥₁_elim}
use Rattle.std.proofs.Math.Logic.Dec.{not as Dec-not}
use Rattle.std.proofs.Math.Logic.Iff.{trans as Iff-trans}
use mathlib.Core.HLevel.{hedberg, ¬_prop}
use mathlib.Core.List.{List, [], ◌∷◌, map, Mem, Nodup, Nodup-cons}
use mathlib.Core.List.{mem-cons, mem-filter, mem-cons_self, mem-cons_of_mem, not-mem-nil, eq-or-mem_of_mem-cons}
use mathlib.Core.List.{Permᴰ}
use mathlib.Core.List.Perm
use mathlib.Core.List.{Perm}
use mathlib.Core.List.Pairwise
use mathlib.Core.List.{Pairwise, Pairwise-cons}
use Rattle.std.proofs.Math.Bridge.{le_prop}
use Rattle.std.proofs.Math.Decide.{dec_lt, ℕ_discrete}
use Rattle.rules.specs.Streams.{Stream, due, WellFormed, IsTable}
use Rattle.rules.specs.Demand.{demand, future, DueAfter}
use Rattle.rules.proofs.Facts.Sums.{well_formed_prop}
use Rattle.rules.specs.Ready.{AllWellFormed, count_by}
use Rattle.rules.proofs.Facts.CountBy.{count_by_demand, count_by_future, count_by_filter_le}
use Rattle.rules.proofs.Facts.Lists.{filter_halves}
use Rattle.table.specs.Table.{stream_of, as_streams, due_of}
use Rattle.table.specs.Changes.{HasId, Ascending, put_by_id, without_id}
use Rattle.table.specs.Facts.Streams.{numbers, as_streams_put, as_streams_without}
use Rattle.table.specs.declared.Record.{Record}

-- the table with a stream has that stream and those it had
put_by_id_perm : (x : Record) (rs : List Record) → Perm (put_by_id x rs) (x ∷ rs)
unfolding put_by_id
put_by_id_perm x [] = Perm.refl (x ∷ [])
put_by_id_perm x (y ∷ ys) = go (dec_lt x.id y.id) (put_by_id_perm x ys)
  where
    go : (d : Dec (x.id < y.id)) → Perm (put_by_id x ys) (x ∷ ys) → Perm (ite d (x ∷ y ∷ ys) (y ∷ put_by_id x ys)) (x ∷ y ∷ ys)
    go (yes first) below = Perm.refl (x ∷ y ∷ ys)
    go (no later) below = Perm.trans (Perm.cons y below) (Perm.swap x y ys)

-- the records with a new one put in are the new one and those that were there
pub in_put_by_id : (x : Record) (rs : List Record) (s : Record) → Mem s (put_by_id x rs) ↔ ((s ≡ x) ∨₁ Mem s rs)
in_put_by_id x rs s = Iff-trans (Perm.mem_iff (put_by_id_perm x rs)) mem-cons

-- what holds of a new stream and of all that were there holds of the table with it
pub put_all : (P : Record → Type 0) → ((s : Record) → IsProp (P s)) → (x : Record) (rs : List Record) → P x → ((s : Record) → Mem s rs → P s)
    → (s : Record) → Mem s (put_by_id x rs) → P s
put_all P prop x rs here all s m = Or.elim (prop s) ((in_put_by_id x rs s).0 m) (λ same. subst⁻¹ P same here) (all s)

-- what the rules see of it: the new stream and those that were there
put_all_seen : (P : Stream → Type 0) → ((s : Stream) → IsProp (P s)) → (x : Record) (rs : List Record) → P (stream_of x)
    → ((s : Stream) → Mem s (as_streams rs) → P s) → (s : Stream) → Mem s (as_streams (put_by_id x rs)) → P s
put_all_seen P prop x rs here all s m =
    Or.elim (prop s) (eq-or-mem_of_mem-cons ((Perm.mem_iff (as_streams_put x rs)).0 m)) (λ same. subst⁻¹ P same here) (all s)

module _ (x : Record) (rs : List Record) where
  -- with a well-formed stream of a new id put in, a table is still a table ..
  pub put_is_table : WellFormed (stream_of x) → (HasId x.id rs → ⊥) → IsTable (as_streams rs) → IsTable (as_streams (put_by_id x rs))
  put_is_table formed new table =
      let others : Mem x.id (map (λ (s : Stream). s.number) (as_streams rs)) → ⊥ = λ m. new (subst (Mem x.id) (numbers rs) m) in
      record {
        well_formed = put_all_seen WellFormed well_formed_prop x rs formed table.well_formed;
        differ = Perm.nodup (Perm.symm (Perm.map (λ (s : Stream). s.number) (as_streams_put x rs))) (Nodup-cons.1 (others, table.differ));
      }

  -- .. and where the new stream is due after now as the others are, all are
  pub put_due_after : (now : ℕ) → now < due_of x → DueAfter now (as_streams rs) → DueAfter now (as_streams (put_by_id x rs))
  put_due_after now later others = put_all_seen (λ s. now < due s) (λ s. le_prop) x rs later others

perm_length : (xs ys : List Record) → Permᴰ xs ys → length xs ≡ length ys
perm_length _ _ Permᴰ.nil = refl
perm_length _ _ (Permᴰ.cons {l₁ = l₁} {l₂ = l₂} e d) = ap suc (perm_length l₁ l₂ d)
perm_length _ _ (Permᴰ.swap e e') = refl
perm_length _ _ (Permᴰ.trans {l₁ = l₁} {l₂ = l₂} {l₃ = l₃} d d') = perm_length l₁ l₂ d ∙ perm_length l₂ l₃ d'

-- with a record put in there is one more
pub put_by_id_length : (x : Record) (rs : List Record) → length (put_by_id x rs) ≡ length rs + 1
put_by_id_length x rs =
    ∥∥₁_elim (put_by_id_perm x rs) (hedberg ℕ_discrete (length (put_by_id x rs)) (length rs + 1)) (λ d. omega (arith, perm_length (put_by_id x rs) (x ∷ rs) d))

-- ids that ascend still do with a new one at its place
pub put_by_id_ascending : (x : Record) (rs : List Record) → Ascending rs → (HasId x.id rs → ⊥)
    → Ascending (put_by_id x rs)
unfolding put_by_id
put_by_id_ascending x [] ascending new = Pairwise.cons (λ y m. absurd (not-mem-nil m)) ascending
put_by_id_ascending x (y ∷ ys) ascending new =
    go (dec_lt x.id y.id) (put_by_id_ascending x ys (Pairwise-cons.0 ascending).1 (λ m. new (mem-cons_of_mem y.id m)))
  where
    later : (z : Record) → Mem z ys → y.id < z.id
    later = (Pairwise-cons.0 ascending).0

    other : x.id ≡ y.id → ⊥
    other e = new (subst⁻¹ (λ (n : ℕ). HasId n (y ∷ ys)) e mem-cons_self)

    go : (d : Dec (x.id < y.id)) → Pairwise (λ (a b : Record). a.id < b.id) (put_by_id x ys)
        → Pairwise (λ (a b : Record). a.id < b.id) (ite d (x ∷ y ∷ ys) (y ∷ put_by_id x ys))
    go (yes first) below =
        Pairwise.cons {a = x} (λ z m. Or.elim le_prop (eq-or-mem_of_mem-cons m) (λ same. rw same first) (λ m'. lt_trans first (later z m'))) ascending
    go (no not_first) below =
        Pairwise.cons {a = y} (λ z m. Or.elim le_prop ((in_put_by_id x ys z).0 m) (λ same. rw same (strict x.id y.id not_first other)) (later z)) below
      where
        strict : (a b : ℕ) → (a < b → ⊥) → (a ≡ b → ⊥) → b < a
        strict a b not_less differ = omega arith

-- a table whose ids ascend has none twice
pub ascending_is_table : (rs : List Record) → AllWellFormed (as_streams rs) → Ascending rs → IsTable (as_streams rs)
ascending_is_table rs formed ascending =
    record {
      well_formed = formed;
      differ =
          subst⁻¹ Nodup (numbers rs)
          (Pairwise.map (λ a b. ¬_prop) (λ (r : Record). r.id) (λ a b less same. lt_irrefl a.id (omega (arith, less, same))) ascending);
    }

module _ (id : ℕ) (rs : List Record) where
  -- the table without an id has the streams of other ids
  pub in_without_id : (s : Record) → Mem s (without_id id rs) ↔ (Mem s rs × (s.id ≡ id → ⊥))
  unfolding without_id
  in_without_id s = mem-filter (λ (a : Record). Dec-not (ℕ_discrete a.id id))

  -- without the record of an id, ids still ascend ..
  pub without_id_ascending : Ascending rs → Ascending (without_id id rs)
  unfolding without_id
  without_id_ascending = Pairwise.filter (λ (a : Record). Dec-not (ℕ_discrete a.id id))

  -- .. and there are no more records than before
  pub without_id_length : length (without_id id rs) ≤ length rs
  unfolding without_id
  without_id_length = omega (arith, filter_halves (λ (a : Record). ℕ_discrete a.id id) rs)

  count_without : (first : Stream → ℕ) (t : ℕ) → count_by first (as_streams (without_id id rs)) t ≤ count_by first (as_streams rs) t
  count_without first t =
      rw (as_streams_without id rs) (count_by_filter_le first (λ (a : Stream). Dec-not (ℕ_discrete a.number id)) (as_streams rs) t)

  -- with a record taken out, neither demand nor future demand grows
  pub demand_without : (t : ℕ) → demand (as_streams (without_id id rs)) t ≤ demand (as_streams rs) t
  demand_without t =
      rw (count_by_demand (as_streams (without_id id rs)) t, count_by_demand (as_streams rs) t) at (count_without (λ (s : Stream). s.deadline) t)

  -- h(t) is no larger without the record of an id, for any time t
  pub future_without : (t : ℕ) → future (as_streams (without_id id rs)) t ≤ future (as_streams rs) t
  future_without t = rw (count_by_future (as_streams (without_id id rs)) t, count_by_future (as_streams rs) t) at (count_without due t)
