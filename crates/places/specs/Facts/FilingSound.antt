-- Places that hold just the rows that they are compared with are sound, since the rows are within the bounds of a queue.
use Rattle.std.specs.Prelude.{◌≡◌, refl, ℕ, ◌<◌}
use Rattle.std.proofs.Common.{sym, ap, ◌∙◌, arith}
use Rattle.std.proofs.Math.Path.{subst⁻¹}
use Rattle.std.proofs.Math.Logic.{∥∥₁_elim, ∥∥₁_map, ∥∥₁_prop}
use mathlib.Core.List.{List, Mem, Mem-prop}
use Rattle.std.proofs.Math.Bridge.{le_prop}
use Rattle.basics.specs.Limits.{places}
use Rattle.places.specs.Order.{Entry}
use Rattle.places.specs.Entries.{row_of, FilesJust}
use Rattle.places.specs.Collected.{collected}
use Rattle.places.specs.Facts.Collected.{of_collected, in_collected}
use Rattle.places.specs.Soundness.{PlacesSound}
use Rattle.places.specs.Filing.{CanFile, Filled, PlacesFile}

module _ (filed : ℕ → Entry) (ids keys releases : List ℕ) (n : ℕ) where
  -- places from which just the rows are collected, no id twice, hold just these
  pub files_just_places : ((x y : ℕ) → Filled filed x → Filled filed y → (filed x).id ≡ (filed y).id → x ≡ y)
      → FilesJust ids keys releases n (collected filed places) → PlacesFile filed (row_of ids keys releases) n
  files_just_places once files =
      record {
        listed = λ x holds. ∥∥₁_map ((files (filed x)).0 (in_collected filed places x holds.0 holds.1))
            (λ w. (w.0, w.1, sym w.2));
        once = once;
        placed = λ i below.
            let row = row_of ids keys releases i in
            ∥∥₁_elim (of_collected filed places row ((files row).1 ∣ (i, below, refl) ∣₁)) ∥∥₁_prop
            (λ w. ∣ (w.0, (w.1, w.2), w.3) ∣₁);
      }

  module _ (file : PlacesFile filed (row_of ids keys releases) n) where
    -- places that hold just rows that a sound queue can file are sound
    pub places_file_sound : CanFile ids keys releases n → PlacesSound (λ i. (filed i).id) (λ i. (filed i).key) (λ i. (filed i).release)
    places_file_sound can =
        record {
          ids_in_range = λ x holds. ∥∥₁_elim (file.listed x holds) le_prop (λ w. omega (arith, can.small w.0 w.1, same_id w.2));
          once = file.once;
          keys_in_range = λ x holds. ∥∥₁_elim (file.listed x holds) le_prop (λ w. omega (arith, can.keys_in_range w.0 w.1, same_key w.2));
          released = λ x holds. ∥∥₁_elim (file.listed x holds) le_prop
              (λ w. omega (arith, can.released w.0 w.1, same_key w.2, same_release w.2));
          span = λ x y first second. ∥∥₁_elim (file.listed x first) le_prop
              (λ v. ∥∥₁_elim (file.listed y second) le_prop
              (λ w. omega (arith, can.span v.0 w.0 v.1 w.1, same_key v.2, same_key w.2)));
        }
      where
        same_id : {d e : Entry} → d ≡ e → d.id ≡ e.id
        same_id = ap (λ (e : Entry). e.id)

        same_key : {d e : Entry} → d ≡ e → d.key ≡ e.key
        same_key = ap (λ (e : Entry). e.key)

        same_release : {d e : Entry} → d ≡ e → d.release ≡ e.release
        same_release = ap (λ (e : Entry). e.release)

    -- and just the rows are collected from them
    pub places_file_just : FilesJust ids keys releases n (collected filed places)
    places_file_just e = (there, back)
      where
        there : Mem e (collected filed places) → ∥ ((i : ℕ) × (i < n) × (e ≡ row_of ids keys releases i)) ∥₁
        there m =
            ∥∥₁_elim (of_collected filed places e m) ∥∥₁_prop
            (λ v. ∥∥₁_map (file.listed v.0 (v.1, v.2))
            (λ w. (w.0, w.1, v.3 ∙ sym w.2)))

        back : ∥ ((i : ℕ) × (i < n) × (e ≡ row_of ids keys releases i)) ∥₁ → Mem e (collected filed places)
        back some =
            ∥∥₁_elim some Mem-prop
            (λ v. ∥∥₁_elim (file.placed v.0 v.1) Mem-prop
            (λ w. subst⁻¹ (λ (a : Entry). Mem a (collected filed places)) (v.2 ∙ w.2)
            (in_collected filed places w.0 w.1.0 w.1.1)))
