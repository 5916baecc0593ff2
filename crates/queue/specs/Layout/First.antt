-- The first entry of a list in order, from the place that the search finds.
use Rattle.std.specs.Prelude.{◌≡◌, refl, ℕ}
use Rattle.std.proofs.Common.{sym, ap, ◌∙◌, arith}
use Rattle.std.proofs.Math.Path.{subst, subst⁻¹}
use Rattle.std.proofs.Math.Logic.Or
use Rattle.std.proofs.Math.Logic.{∥∥₁_elim, ∥∥₁_prop}
use mathlib.Core.HLevel.{⊥_prop}
use mathlib.Core.List.Pairwise
use mathlib.Core.List.{List, [], ◌∷◌, Mem, Pairwise-cons, mem-filter, filter-eq_self, not-mem-nil, mem-cons_self, eq-or-mem_of_mem-cons}
use Rattle.basics.specs.Facts.Lexicographic.{then_zero}
use Rattle.basics.specs.Limits.{places}
use Rattle.places.specs.Order.{Entry, Before, before, triple}
use Rattle.places.specs.Entries.{after}
use Rattle.places.specs.Facts.Collected.{of_collected, in_collected, collected_in_order}
use Rattle.places.specs.Facts.Entries.{InOrder, entry_set, before_prop}
use Rattle.queue.specs.Layout.{id_at, key_at, release_at, entry_at, Holds, entries, Sound}
use Rattle.queue.specs.Calls.{first_of, refused_find}
use Rattle.queue.specs.Layout.SoundRanks.{sound_once}
use Rattle.queue.specs.Linking.{IsFirstAfter, IsNoneAfter}
use Rattle.queue.specs.declared.Queue.{Queue}
use Rattle.queue.specs.declared.Found.{Found}

-- a sound queue passes 5
first_none : {q : Queue} (d : Dec (Sound q)) → Sound q → first_of d [] ≡ refused_find 25
unfolding first_of
first_none (no unsound) sound = absurd (unsound sound)
first_none (yes s) sound = refl

-- with a sound queue the first of some entries is found, with answer 0
pub first_some : {q : Queue} (d : Dec (Sound q)) → Sound q → (e : Entry) (es : List Entry)
    → first_of d (e ∷ es) ≡ record { answer = 0; key = e.key; release = e.release; id = e.id }
unfolding first_of
first_some (no unsound) sound e es = absurd (unsound sound)
first_some (yes s) sound e es = refl

-- an entry of a list in order that none comes before is its first
first_is : (es : List Entry) → InOrder es → (e : Entry) → Mem e es → ((a : Entry) → Mem a es → Before a e → ⊥)
    → {q : Queue} (d : Dec (Sound q)) → Sound q → first_of d es ≡ record { answer = 0; key = e.key; release = e.release; id = e.id }
first_is [] sorted e m least d sound = absurd (not-mem-nil m)
first_is (x ∷ xs) sorted e m least d sound =
    let same : e ≡ x = Or.elim (entry_set e x) (eq-or-mem_of_mem-cons m) (λ here. here)
    (λ later. absurd (least x mem-cons_self ((Pairwise-cons.0 sorted).0 e later))) in
    first_some d sound x xs ∙ ap {B = Found} (λ (a : Entry). record { answer = 0; key = a.key; release = a.release; id = a.id }) (sym same)

none_is : (es : List Entry) → ((a : Entry) → Mem a es → ⊥) → {q : Queue} (d : Dec (Sound q)) → Sound q → first_of d es ≡ refused_find 25
none_is [] none d sound = first_none d sound
none_is (x ∷ xs) none d sound = absurd (none x mem-cons_self)

-- with a queue that is not sound nothing is found: 5 and zeros, whatever the entries
pub unsound_find : {q : Queue} (d : Dec (Sound q)) (es : List Entry) → (Sound q → ⊥) → first_of d es ≡ refused_find 5
unfolding first_of
unsound_find (no unsound) es not_sound = refl
unsound_find (yes sound) es not_sound = absurd (not_sound sound)

module _ (q : Queue) (sound : Sound q) (point : Entry) (d : Dec (Sound q)) where
  of_after : (a : Entry) → Mem a (after point (entries q)) → ∥ ((i : ℕ) × Holds q i × Before point (entry_at q i) × (a ≡ entry_at q i)) ∥₁
  unfolding after entries
  of_after a m =
      let w = (mem-filter (λ (e : Entry). before point e) {l = entries q}).0 m in
      ∥∥₁_elim (of_collected (entry_at q) places a w.0) ∥∥₁_prop
      (λ v. ∣ (v.0, (v.1, v.2), subst (λ (e : Entry). Before point e) v.3 w.1, v.3) ∣₁)

  -- where the search ends at a place, the first entry after the point is the one there, found with answer 0 ..
  pub after_found : (x : ℕ) → IsFirstAfter q point x
      → first_of d (after point (entries q)) ≡ record { answer = 0; key = key_at q x; release = release_at q x; id = id_at q x }
  unfolding after entries
  after_found x is =
      let in_order = collected_in_order (entry_at q) (sound_once q sound) places (omega arith) in
      first_is (after point (entries q)) (Pairwise.filter (λ (e : Entry). before point e) in_order) (entry_at q x)
      ((mem-filter (λ (e : Entry). before point e)).1 (in_collected (entry_at q) places x is.holds.0 is.holds.1, is.after))
      (λ a m earlier. ∥∥₁_elim (of_after a m) ⊥_prop
      (λ w. is.first w.0 w.1 w.2 (subst (λ (e : Entry). Before e (entry_at q x)) w.3 earlier))) d sound

  -- .. and where it ends with none there is none: 25 and zeros
  pub after_none : IsNoneAfter q point → first_of d (after point (entries q)) ≡ refused_find 25
  after_none none = none_is (after point (entries q)) (λ a m. ∥∥₁_elim (of_after a m) ⊥_prop (λ w. none w.0 w.1 w.2)) d sound

-- every entry comes after key 0, release 0 and id 0, since ids are 1 or more
pub all_after_zero : (q : Queue) → after (triple 0 0 0) (entries q) ≡ entries q
unfolding after entries
all_after_zero q =
    (filter-eq_self (λ (e : Entry). before (triple 0 0 0) e) {l = entries q}).1
    (λ a m. ∥∥₁_elim (of_collected (entry_at q) places a m) (before_prop (triple 0 0 0) a)
    (λ w. subst⁻¹ (Before (triple 0 0 0)) w.3 (then_zero (key_at q w.0) (then_zero (release_at q w.0) w.2))))
