-- Refusals that apply alike give the same answer.
use Rattle.std.specs.Prelude.{◌≡◌, refl, ◌↔◌, List, [], ◌∷◌}
use Rattle.std.proofs.Math.Logic.{ite}
use Rattle.basics.specs.Refusals.{Refusal, answer_of}

-- Refusals of the same numbers in the same order, each of which applies exactly if the other does.
unfoldable pub AreAlike : List Refusal → List Refusal → Type 0
AreAlike [] [] = Unit {0}
AreAlike [] (s ∷ ss) = ⊥
AreAlike (r ∷ rs) [] = ⊥
AreAlike (r ∷ rs) (s ∷ ss) = (r.number ≡ s.number) × ((r.Applies ↔ s.Applies) × AreAlike rs ss)

-- their answers are the same
pub same_answers : (rs ss : List Refusal) → AreAlike rs ss → answer_of rs ≡ answer_of ss
unfolding AreAlike answer_of
same_answers [] [] alike = refl
same_answers [] (s ∷ ss) alike = absurd alike
same_answers (r ∷ rs) [] alike = absurd alike
same_answers (r ∷ rs) (s ∷ ss) (number, (applies, alike)) = go r.decided s.decided (same_answers rs ss alike)
  where
    go : (d : Dec r.Applies) (e : Dec s.Applies) → answer_of rs ≡ answer_of ss → ite d r.number (answer_of rs) ≡ ite e s.number (answer_of ss)
    go (yes a) (yes b) later = number
    go (no a) (no b) later = later
    go (yes a) (no b) later = absurd (b (applies.0 a))
    go (no a) (yes b) later = absurd (a (applies.1 b))
