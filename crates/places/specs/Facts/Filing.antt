-- Why one pass over the places decides whether they hold just the rows that they are compared with.
use Rattle.std.specs.Prelude.{◌≡◌, Bool, true, false, List, ℕ, ◌+◌, ◌≤◌, ◌<◌, get_or, set, length, eqb}
use Rattle.std.proofs.Common.{sym, ap, subst, ◌∙◌, lt_irrefl, arith, get_or-set_same, get_or-set_other}
use Rattle.std.proofs.Math.Logic.{∥∥₁_elim}
use mathlib.Core.HLevel.{⊥_prop}
use Rattle.std.proofs.Math.Nat.{ℕ_set}
use Rattle.std.proofs.Math.Decide.{dec_lt, ℕ_discrete}
use Rattle.basics.specs.Decides.{Decides}
use Rattle.basics.specs.Facts.Decides.{same_as, equal_to}
use Rattle.basics.specs.Places.{IsPlaceAmong}
use Rattle.basics.specs.Facts.Places.{place_found}
use Rattle.basics.specs.Limits.{places}
use Rattle.places.specs.Facts.Marks.{mark, marks_of, marked, marked_none, marked_few, all_marked, marked_all, marked_more}
use Rattle.places.specs.Filing.{CanFile, IsRow, IsNoRow, PlacesFile}
use Rattle.places.specs.Changes.{IsSet}
use Rattle.places.specs.Order.{Entry}
use Rattle.places.specs.Entries.{row_of}

-- The places before x hold rows, no two the same, and the rows that they hold are marked, m of them.
pub record FiledTo (filed rows : ℕ → Entry) (n x m : ℕ) (met : ℕ → ℕ) : Type 0 where
  pub marks : (i : ℕ) → met i ≤ 1
  pub counted : m ≡ marked met n
  pub listed : (y : ℕ) → y < x → 1 ≤ (filed y).id → (i : ℕ) × (i < n) × (rows i ≡ filed y) × (met i ≡ 1)
  pub placed : (i : ℕ) → i < n → met i ≡ 1 → (y : ℕ) × (y < x) × (1 ≤ (filed y).id) × ((rows i).id ≡ (filed y).id)
  pub once : (y z : ℕ) → y < x → z < x → 1 ≤ (filed y).id → (filed y).id ≡ (filed z).id → y ≡ z

-- what rises strictly takes no value twice
ascending_once : {f : ℕ → ℕ} {n : ℕ} → ((i j : ℕ) → i < j → j < n → f i < f j) → (i j : ℕ) → i < n → j < n → f i ≡ f j → i ≡ j
ascending_once {f} ascend i j below_i below_j same = go (dec_lt i j) (dec_lt j i)
  where
    go : Dec (i < j) → Dec (j < i) → i ≡ j
    go (yes less) other = absurd (lt_irrefl (f i) (omega (arith, ascend i j less below_j)))
    go (no not_less) (yes more) = absurd (lt_irrefl (f i) (omega (arith, ascend j i more below_i)))
    go (no not_less) (no not_more) = omega arith

module _ {filed rows : ℕ → Entry} {n : ℕ} where
  -- the pass over the places begins at place 0, with no row marked and none counted
  pub filed_none : (met : ℕ → ℕ) → ((i : ℕ) → met i ≡ 0) → FiledTo filed rows n 0 0 met
  filed_none met none =
      record {
        marks = λ i. omega (arith, none i);
        counted = sym (marked_none met none n);
        listed = λ y below. absurd (lt_irrefl 0 (omega arith));
        placed = λ i below one. absurd (lt_irrefl 0 (omega (arith, none i, one)));
        once = λ y z below. absurd (lt_irrefl 0 (omega arith));
      }

  -- a free place changes nothing
  pub filed_free : {x m : ℕ} {met : ℕ → ℕ} → FiledTo filed rows n x m met → (filed x).id ≡ 0 → FiledTo filed rows n (x + 1) m met
  filed_free {x} {m} {met} to free =
      record {
        marks = to.marks;
        counted = to.counted;
        listed = λ y below some. to.listed y (earlier y below some) some;
        placed = λ i below one. let w = to.placed i below one in (w.0, omega (arith, w.1), w.2, w.3);
        once = λ y z below_y below_z some same. to.once y z (earlier y below_y some) (earlier z below_z (rw same at some)) some same;
      }
    where
      earlier : (y : ℕ) → y < x + 1 → 1 ≤ (filed y).id → y < x
      earlier y below some = go (dec_lt y x)
        where
          go : Dec (y < x) → y < x
          go (yes less) = less
          go (no last) = let e : y ≡ x = omega arith in absurd (lt_irrefl 0 (omega (arith, ap (λ (k : ℕ). (filed k).id) e)))

  -- no more rows are met than there are
  pub counted_few : {x m : ℕ} {met : ℕ → ℕ} → FiledTo filed rows n x m met → m ≤ n
  counted_few {met = met} to = omega (arith, to.counted, marked_few met to.marks n)

  module _ (ascend : (i j : ℕ) → i < j → j < n → (rows i).id < (rows j).id) where
    -- the row of a place before x is marked
    met_before : {x m : ℕ} {met : ℕ → ℕ} → FiledTo filed rows n x m met → (i : ℕ) → i < n
        → (y : ℕ) → y < x → 1 ≤ (filed y).id → (rows i).id ≡ (filed y).id → (met i ≡ 1) × (rows i ≡ filed y)
    met_before {met = met} to i below y earlier some same =
        let w = to.listed y earlier some in
        let e : w.0 ≡ i = ascending_once {f = λ k. (rows k).id} ascend w.0 i w.1 below (ap (λ (a : Entry). a.id) w.2 ∙ sym same) in
        subst (λ (k : ℕ). (met k ≡ 1) × (rows k ≡ filed y)) e (w.3, w.2)

    -- a place that holds a row not met before
    filed_more : {x m i : ℕ} {met met' : ℕ → ℕ} → FiledTo filed rows n x m met → i < n → 1 ≤ (filed x).id → rows i ≡ filed x
        → met i ≡ 0 → IsSet met i 1 met' → FiledTo filed rows n (x + 1) (m + 1) met'
    filed_more {x} {m} {i} {met} {met'} to below some is new set =
        record {
          marks = λ k. marks k (ℕ_discrete k i);
          counted = sym (marked_more met met' i new set.at set.elsewhere n below ∙ ap (λ (k : ℕ). k + 1) (sym to.counted));
          listed = λ y earlier holds. listed y earlier holds (dec_lt y x);
          placed = λ k low one. placed k low one (ℕ_discrete k i);
          once = λ y z below_y below_z holds same. once y z below_y below_z holds same (dec_lt y x) (dec_lt z x);
        }
      where
        marks : (k : ℕ) → Dec (k ≡ i) → met' k ≤ 1
        marks k (yes e) = omega (arith, ap met' e, set.at)
        marks k (no other) = omega (arith, set.elsewhere k other, to.marks k)

        kept : (k : ℕ) → met k ≡ 1 → met' k ≡ 1
        kept k one = set.elsewhere k (λ e. lt_irrefl 0 (omega (arith, one, new, ap met e))) ∙ one

        listed : (y : ℕ) → y < x + 1 → 1 ≤ (filed y).id → Dec (y < x) → (k : ℕ) × (k < n) × (rows k ≡ filed y) × (met' k ≡ 1)
        listed y earlier holds (yes less) = let w = to.listed y less holds in (w.0, w.1, w.2, kept w.0 w.3)
        listed y earlier holds (no last) = let e : x ≡ y = omega arith in (i, below, is ∙ ap filed e, set.at)

        placed : (k : ℕ) → k < n → met' k ≡ 1 → Dec (k ≡ i) → (y : ℕ) × (y < x + 1) × (1 ≤ (filed y).id) × ((rows k).id ≡ (filed y).id)
        placed k low one (yes e) = (x, omega arith, some, ap (λ (a : Entry). a.id) (ap rows e ∙ is))
        placed k low one (no other) = let w = to.placed k low (sym (set.elsewhere k other) ∙ one) in (w.0, omega (arith, w.1), w.2, w.3)

        new_id : (y : ℕ) → y < x → 1 ≤ (filed y).id → (filed y).id ≡ (filed x).id → ⊥
        new_id y less holds same = lt_irrefl 0 (omega (arith, (met_before to i below y less holds (ap (λ (a : Entry). a.id) is ∙ sym same)).0, new))

        once : (y z : ℕ) → y < x + 1 → z < x + 1 → 1 ≤ (filed y).id → (filed y).id ≡ (filed z).id → Dec (y < x) → Dec (z < x) → y ≡ z
        once y z below_y below_z holds same (yes first) (yes second) = to.once y z first second holds same
        once y z below_y below_z holds same (yes first) (no last) =
            let e : z ≡ x = omega arith in absurd (new_id y first holds (same ∙ ap (λ (k : ℕ). (filed k).id) e))
        once y z below_y below_z holds same (no last) (yes second) =
            let e : y ≡ x = omega arith in absurd (new_id z second (rw same at holds) (sym same ∙ ap (λ (k : ℕ). (filed k).id) e))
        once y z below_y below_z holds same (no last) (no also) = omega arith

    -- as many met as there are rows: all of them
    pub filed_all : {m : ℕ} {met : ℕ → ℕ} → FiledTo filed rows n places m met → Decides (eqb m n) (PlacesFile filed rows n)
    filed_all {m} {met} to = same_as on back (equal_to m n)
      where
        on : m ≡ n → PlacesFile filed rows n
        on full =
            record {
              listed = λ x holds. let w = to.listed x holds.0 holds.1 in ∣ (w.0, w.1, w.2) ∣₁;
              once = λ x y first second. to.once x y first.0 second.0 first.1;
              placed = λ i below.
                  let w = to.placed i below (all_marked met to.marks n (sym to.counted ∙ full) i below) in
                  ∣ (w.0, (w.1, w.2), (met_before to i below w.0 w.1 w.2 w.3).1) ∣₁;
            }

        back : PlacesFile filed rows n → m ≡ n
        back file =
            to.counted
            ∙ marked_all met n (λ i below. ∥∥₁_elim (file.placed i below) (ℕ_set (met i) 1)
            (λ w. (met_before to i below w.0 w.1.0 w.1.1 (ap (λ (a : Entry). a.id) w.2)).0))

-- an entry that does not stand at its id's place among the rows is none of them
pub no_row_at : {ids keys releases : List ℕ} {n : ℕ} (e : Entry) (r : ℕ) → CanFile ids keys releases n
    → IsPlaceAmong ids e.id r → (r < n → row_of ids keys releases r ≡ e → ⊥) → IsNoRow ids keys releases n e
no_row_at {ids} {keys} {releases} {n} e r can place differs i below is =
    let same : r ≡ i = place_found n i can.few can.ascend below (ap (λ (a : Entry). a.id) is) place in
    differs (omega arith) (ap (row_of ids keys releases) same ∙ is)

-- place x holds an id
module _ {filed : ℕ → Entry} {ids keys releases : List ℕ} {n x m : ℕ} (met : List Bool) (can : CanFile ids keys releases n)
    (to : FiledTo filed (row_of ids keys releases) n x m (marks_of met)) (inside : x < places) (some : 1 ≤ (filed x).id) where
  -- what stands there is none of the rows
  pub row_absent : IsNoRow ids keys releases n (filed x) → PlacesFile filed (row_of ids keys releases) n → ⊥
  row_absent none file = ∥∥₁_elim (file.listed x (inside, some)) ⊥_prop (λ w. none w.0 w.1 w.2)

  -- r says which of the rows it is
  module _ {r : ℕ} (row : IsRow ids keys releases n (filed x) r) where
    -- one that an earlier place holds
    pub row_again : get_or met r false ≡ true → PlacesFile filed (row_of ids keys releases) n → ⊥
    row_again again file =
        let w = to.placed r row.within (ap mark again) in
        lt_irrefl x (omega (arith, w.1, file.once w.0 x (omega (arith, w.1), w.2) (inside, some) (sym w.3 ∙ ap (λ (a : Entry). a.id) row.is)))

    -- a new one, which is marked
    pub row_new : get_or met r false ≡ false → length met ≡ places
        → FiledTo filed (row_of ids keys releases) n (x + 1) (m + 1) (marks_of (set met r true))
    row_new new long =
        filed_more can.ascend to row.within some row.is (ap mark new)
        (record {
          at = ap mark (get_or-set_same met r true false (omega (arith, row.within, can.few)));
          elsewhere = λ k other. ap mark (get_or-set_other met r k true false other);
        })
