-- Ids met one after the other: good ones so far, and a set that has the remainders of all of them.
use Rattle.std.specs.Prelude.{◌≡◌, refl, Bool, true, false, ◌||◌, eqb, ℕ, ◌+◌, ◌%◌, ◌<◌, length, get_or, take}
use Rattle.std.specs.List.{list_any}
use Rattle.std.proofs.Common.{sym, subst, ◌∙◌, add-one, take-suc}
use Rattle.std.proofs.Math.Path.{subst⁻¹}
use Rattle.std.proofs.Math.Logic.Or
use mathlib.Core.HLevel.{⊥_prop}
use mathlib.Core.List.{List, [], ◌∷◌, ◌++◌, Mem, Mem-prop}
use mathlib.Core.List.{Nodup-nil, Nodup-append, Nodup-cons, mem-append, eq-or-mem_of_mem-cons, mem-cons_of_mem, mem-cons_self, not-mem-nil}
use Rattle.std.proofs.Math.Decide.{ℕ_discrete}
use Rattle.basics.specs.Decides.{Decides}
use Rattle.basics.specs.Facts.Decides.{decides_yes, decides_no, same_as, equal_to}
use Rattle.basics.specs.Limits.{largest_id}
use Rattle.basics.specs.OneTo.{OneTo}
use Rattle.bits.specs.Bits.{InWords, IsWordsWith}
use Rattle.bits.specs.Facts.Words.{zeros, length_zeros}
use Rattle.packets.specs.Good.{IdsGood}
use Rattle.packets.specs.Met.{IsMet}

-- the empty list of ids is good
pub none_good : IdsGood []
none_good = record { range = λ id m. absurd (not-mem-nil m); once = Nodup-nil }

-- before the first id the set is 16 words of zeros
pub none_met : IsMet [] (zeros 16)
none_met = record { size = length_zeros 16; good = none_good; all = λ x m. absurd (not-mem-nil m) }

-- in a list with one more at its end, what is not that one was there before
earlier : (ids : List ℕ) (x y : ℕ) → (y ≡ x → ⊥) → Mem y (ids ++ (x ∷ [])) → Mem y ids
earlier ids x y other m =
    Or.elim Mem-prop (mem-append.0 m) (λ before. before)
    (λ last. Or.elim Mem-prop (eq-or-mem_of_mem-cons last) (λ same. absurd (other same)) (λ none. absurd (not-mem-nil none)))

-- what holds of all in a list and of one more holds of all with that one at the end
pub all_with : (P : ℕ → Type 0) (ids : List ℕ) (x : ℕ) → ((y : ℕ) → Mem y ids → P y) → P x → (y : ℕ) → Mem y (ids ++ (x ∷ [])) → P y
all_with P ids x each last y m = go (ℕ_discrete y x)
  where
    go : Dec (y ≡ x) → P y
    go (yes same) = subst⁻¹ P same last
    go (no other) = each y (earlier ids x y other m)

-- one id more that is in range and not there yet
pub one_more_good : (ids : List ℕ) (x : ℕ) → IdsGood ids → OneTo largest_id x → (Mem x ids → ⊥) → IdsGood (ids ++ (x ∷ []))
one_more_good ids x good range new =
    record {
      range = all_with (λ (y : ℕ). OneTo largest_id y) ids x good.range range;
      once = Nodup-append.1 (good.once, Nodup-cons.1 (not-mem-nil, Nodup-nil), apart);
    }
  where
    apart : (y : ℕ) → Mem y ids → Mem y (x ∷ []) → ⊥
    apart y m last =
        Or.elim ⊥_prop (eq-or-mem_of_mem-cons last) (λ same. new (subst (λ (z : ℕ). Mem z ids) same m)) not-mem-nil

-- the ids before the next place are those before a place, and the one there
pub next_taken : (ids : List ℕ) (i : ℕ) → i < length ids → take (i + 1) ids ≡ take i ids ++ (get_or ids i 0 ∷ [])
next_taken ids i inside = rw add-one (take-suc ids i 0 inside)

-- one id more is met where it is in range, stands at no earlier place, and the set gets its remainder by 1,024
pub one_more_met : (ids : List ℕ) (i : ℕ) {words after : List ℕ} → i < length ids → IsMet (take i ids) words → OneTo largest_id (get_or ids i 0)
    → (Mem (get_or ids i 0) (take i ids) → ⊥) → IsWordsWith words (get_or ids i 0 % 1024) after → IsMet (take (i + 1) ids) after
one_more_met ids i {words} {after} inside met range new put =
    subst⁻¹ (λ (l : List ℕ). IsMet l after) (next_taken ids i inside)
    (record {
      size = put.size ∙ met.size;
      good = one_more_good (take i ids) (get_or ids i 0) met.good range new;
      all = all_with (λ (y : ℕ). InWords after (y % 1024)) (take i ids) (get_or ids i 0) (λ y m. put.kept (y % 1024) (met.all y m)) put.here;
    })

-- one test of each number decides whether an id is among them
pub among : (ids : List ℕ) (x : ℕ) → Decides (list_any (λ (y : ℕ). eqb y x) ids) (Mem x ids)
among [] x = decides_no not-mem-nil
among (y ∷ ids) x = go (eqb y x) (list_any (λ (z : ℕ). eqb z x) ids) (equal_to y x) (among ids x)
  where
    go : (here later : Bool) → Decides here (y ≡ x) → Decides later (Mem x ids) → Decides (here || later) (Mem x (y ∷ ids))
    go true later is rest = decides_yes (subst (λ (z : ℕ). Mem z (y ∷ ids)) (is.if_true refl) mem-cons_self)
    go false later is rest =
        same_as (mem-cons_of_mem y)
        (λ m. Or.elim Mem-prop (eq-or-mem_of_mem-cons m) (λ same. absurd (is.if_false refl (sym same))) (λ behind. behind)) rest
