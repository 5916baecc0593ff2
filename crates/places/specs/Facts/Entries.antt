-- Laws of the order of entries and of lists in order.
use Rattle.std.specs.Prelude.{◌≡◌, refl, ℕ, suc, ◌<◌, length}
use Rattle.std.proofs.Common.{sym, ap, arith}
use Rattle.std.proofs.Math.Path.{subst⁻¹}
use Rattle.std.proofs.Math.Logic.Or
use Rattle.std.proofs.Math.Logic.{◌∨₁◌, ite}
use mathlib.Core.HLevel.{hedberg}
use mathlib.Core.List.{List, [], ◌∷◌, Mem, mem-cons_self, mem-cons_of_mem, not-mem-nil, eq-or-mem_of_mem-cons}
use mathlib.Core.List.Perm
use mathlib.Core.List.{Pairwise, Pairwise-cons, Perm}
use Rattle.std.proofs.Math.Bridge.{le_prop}
use Rattle.std.proofs.Math.Decide.{ℕ_discrete}
use Rattle.places.specs.Order.{Entry, Before, before}
use Rattle.places.specs.Entries.{put}
use Rattle.basics.specs.Facts.Sorted.{sorted_unique}
use Rattle.basics.specs.Facts.Lexicographic.{then_asym, then_trans, then_prop, then_total}

-- entries with the same key, release and id are one
pub entry_path : (a b : Entry) → a.key ≡ b.key → a.release ≡ b.release → a.id ≡ b.id → a ≡ b
entry_path a b key release id = λ i. record { key = key i; release = release i; id = id i }

-- whether two entries are the same can be decided
pub entry_discrete : Discrete Entry
entry_discrete a b = go (ℕ_discrete a.key b.key) (ℕ_discrete a.release b.release) (ℕ_discrete a.id b.id)
  where
    go : Dec (a.key ≡ b.key) → Dec (a.release ≡ b.release) → Dec (a.id ≡ b.id) → Dec (a ≡ b)
    go (no key) release id = no (λ e. key (ap (λ (x : Entry). x.key) e))
    go (yes key) (no release) id = no (λ e. release (ap (λ (x : Entry). x.release) e))
    go (yes key) (yes release) (no id) = no (λ e. id (ap (λ (x : Entry). x.id) e))
    go (yes key) (yes release) (yes id) = yes (entry_path a b key release id)

-- two proofs that two entries are the same are one
pub entry_set : IsSet Entry
entry_set = hedberg entry_discrete

-- the order is strict and total
pub before_asym : (a b : Entry) → Before a b → Before b a → ⊥
before_asym a b = then_asym (then_asym (λ l m. omega (arith, l, m)))

before_trans : (a b c : Entry) → Before a b → Before b c → Before a c
before_trans a b c = then_trans (then_trans (λ l m. omega (arith, l, m)))

-- two proofs that one entry comes before another are one
pub before_prop : (a b : Entry) → IsProp (Before a b)
before_prop a b = then_prop (then_prop le_prop)

before_total : (a b : Entry) → (a ≡ b → ⊥) → (Before a b → ⊥) → Before b a
before_total a b differ = then_total (λ key. then_total (λ release not_less. above a.id b.id not_less (λ id. differ (entry_path a b key release id))))
  where
    above : (m n : ℕ) → (m < n → ⊥) → (m ≡ n → ⊥) → n < m
    above m n not_less other = omega arith

-- Every entry comes before those that follow it in the list.
abbrev pub InOrder : List Entry → Type 0
InOrder = Pairwise Before

put_perm : (e : Entry) (es : List Entry) → Perm (put e es) (e ∷ es)
unfolding put
put_perm e [] = Perm.refl (e ∷ [])
put_perm e (x ∷ xs) = go (before e x) (put_perm e xs)
  where
    go : (d : Dec (Before e x)) → Perm (put e xs) (e ∷ xs) → Perm (ite d (e ∷ x ∷ xs) (x ∷ put e xs)) (e ∷ x ∷ xs)
    go (yes first) below = Perm.refl (e ∷ x ∷ xs)
    go (no later) below = Perm.trans (Perm.cons x below) (Perm.swap e x xs)

-- an entry of a list with e put in is e or was there before ..
pub in_put : (e : Entry) (es : List Entry) (a : Entry) → Mem a (put e es) → (a ≡ e) ∨₁ Mem a es
in_put e es a m = eq-or-mem_of_mem-cons ((Perm.mem_iff (put_perm e es)).0 m)

-- .. e is in that list ..
pub put_new : (e : Entry) (es : List Entry) → Mem e (put e es)
put_new e es = (Perm.mem_iff (put_perm e es)).1 mem-cons_self

-- .. and so is every entry that was there before
pub put_old : (e : Entry) (es : List Entry) (a : Entry) → Mem a es → Mem a (put e es)
put_old e es a m = (Perm.mem_iff (put_perm e es)).1 (mem-cons_of_mem e m)

-- an entry put in makes the list longer by one
pub put_length : (e : Entry) (es : List Entry) → length (put e es) ≡ suc (length es)
unfolding put
put_length e [] = refl
put_length e (x ∷ xs) = go (before e x) (put_length e xs)
  where
    go : (d : Dec (Before e x)) → length (put e xs) ≡ suc (length xs) → length (ite d (e ∷ x ∷ xs) (x ∷ put e xs)) ≡ suc (suc (length xs))
    go (yes first) below = refl
    go (no later) below = ap suc below

-- an entry that is not there yet is put in order
pub put_in_order : (e : Entry) (es : List Entry) → InOrder es → ((x : Entry) → Mem x es → x ≡ e → ⊥) → InOrder (put e es)
unfolding put
put_in_order e [] sorted new = Pairwise.cons (λ x m. absurd (not-mem-nil m)) sorted
put_in_order e (x ∷ xs) sorted new = go (before e x) (put_in_order e xs (Pairwise-cons.0 sorted).1 (λ y m. new y (mem-cons_of_mem x m)))
  where
    later : (y : Entry) → Mem y xs → Before x y
    later = (Pairwise-cons.0 sorted).0

    go : (d : Dec (Before e x)) → InOrder (put e xs) → InOrder (ite d (e ∷ x ∷ xs) (x ∷ put e xs))
    go (yes first) below =
        Pairwise.cons {a = e}
        (λ y m. Or.elim (before_prop e y) (eq-or-mem_of_mem-cons m)
        (λ same. subst⁻¹ (λ (z : Entry). Before e z) same first) (λ m'. before_trans e x y first (later y m')))
        sorted
    go (no not_first) below =
        Pairwise.cons {a = x}
        (λ y m. Or.elim (before_prop x y) (in_put e xs y m)
        (λ same. subst⁻¹ (λ (z : Entry). Before x z) same (before_total e x (λ eq. new x mem-cons_self (sym eq)) not_first)) (λ m'. later y m'))
        below

-- lists in order with the same entries are equal
pub in_order_unique : (xs ys : List Entry) → InOrder xs → InOrder ys
    → ((a : Entry) → Mem a xs → Mem a ys) → ((a : Entry) → Mem a ys → Mem a xs) → xs ≡ ys
in_order_unique = sorted_unique entry_set Before before_asym
