-- Which refusal an answer comes from.
use Rattle.std.specs.Prelude.{◌≡◌, refl, List, [], ◌∷◌, ◌++◌, ℕ, ◌≤◌}
use Rattle.std.proofs.Common.{sym, ◌∙◌, lt_irrefl, arith}
use Rattle.std.proofs.Math.Logic.{ite, if_pos, if_neg}
use Rattle.basics.specs.Refusals.{Refusal, answer_of, FirstOf, here, later, none}

-- the first refusal that applies gives the answer
pub answer_first : (r : Refusal) (rs : List Refusal) → r.Applies → answer_of (r ∷ rs) ≡ r.number
unfolding answer_of
answer_first r rs applies = if_pos r.decided applies r.number (answer_of rs)

-- where the first refusal does not apply, those after it give the answer
pub answer_later : (r : Refusal) (rs : List Refusal) → (r.Applies → ⊥) → answer_of (r ∷ rs) ≡ answer_of rs
unfolding answer_of
answer_later r rs passes = if_neg r.decided passes r.number (answer_of rs)

-- an answer other than the first refusal's number is given by the others
pub answer_other : (n : ℕ) (r : Refusal) (rs : List Refusal) → (r.number ≡ n → ⊥) → answer_of (r ∷ rs) ≡ n → (r.Applies → ⊥) × (answer_of rs ≡ n)
answer_other n r rs differs given = (passes, sym (answer_later r rs passes) ∙ given)
  where
    passes : r.Applies → ⊥
    passes applies = differs (sym (answer_first r rs applies) ∙ given)

-- with answer 0 no refusal of a number applies
pub answer_zero : (r : Refusal) (rs : List Refusal) → (r.number ≡ 0 → ⊥) → answer_of (r ∷ rs) ≡ 0 → (r.Applies → ⊥) × (answer_of rs ≡ 0)
answer_zero = answer_other 0

-- none of the refusals applies
unfoldable pub AllPass : List Refusal → Type 0
AllPass [] = Unit {0}
AllPass (r ∷ rs) = (r.Applies → ⊥) × AllPass rs

-- refusals that do not apply leave the answer to those after them
pub answer_after : (rs rest : List Refusal) → AllPass rs → answer_of (rs ++ rest) ≡ answer_of rest
unfolding AllPass
answer_after [] rest pass = refl
answer_after (r ∷ rs) rest pass = answer_later r (rs ++ rest) pass.0 ∙ answer_after rs rest pass.1

-- none of them has the number 0, which is success
unfoldable pub AllNumbered : List Refusal → Type 0
AllNumbered [] = Unit {0}
AllNumbered (r ∷ rs) = (1 ≤ r.number) × AllNumbered rs

-- with answer 0 none of them applies
pub zero_all_pass : (rs : List Refusal) → AllNumbered rs → answer_of rs ≡ 0 → AllPass rs
unfolding AllNumbered AllPass
zero_all_pass [] numbered zero = tt
zero_all_pass (r ∷ rs) numbered zero =
    let first = answer_zero r rs (λ e. lt_irrefl 0 (omega (arith, numbered.0, e))) zero in
    (first.0, zero_all_pass rs numbered.1 first.1)

-- where one of them applies, those after them change nothing
pub answer_append : (rs rest : List Refusal) → (answer_of rs ≡ 0 → ⊥) → answer_of (rs ++ rest) ≡ answer_of rs
unfolding answer_of
answer_append [] rest some = absurd (some refl)
answer_append (r ∷ rs) rest some = go r.decided some (answer_append rs rest)
  where
    go : (d : Dec r.Applies) → (ite d r.number (answer_of rs) ≡ 0 → ⊥) → ((answer_of rs ≡ 0 → ⊥) → answer_of (rs ++ rest) ≡ answer_of rs)
        → ite d r.number (answer_of (rs ++ rest)) ≡ ite d r.number (answer_of rs)
    go (yes applies) some below = refl
    go (no passes) some below = below some

-- the answer is the first number that applies
pub answer_is_first : (rs : List Refusal) → FirstOf rs (answer_of rs)
unfolding answer_of
answer_is_first [] = none
answer_is_first (r ∷ rs) = go r.decided (answer_is_first rs)
  where
    go : (d : Dec r.Applies) → FirstOf rs (answer_of rs) → FirstOf (r ∷ rs) (ite d r.number (answer_of rs))
    go (yes applies) rest = here applies
    go (no passes) rest = later passes rest

-- and that number is the answer
pub first_is_answer : {rs : List Refusal} {n : ℕ} → FirstOf rs n → n ≡ answer_of rs
unfolding answer_of
first_is_answer none = refl
first_is_answer (here {r = r} {rs = rs} applies) = sym (answer_first r rs applies)
first_is_answer (later {r = r} {rs = rs} passes rest) = first_is_answer rest ∙ sym (answer_later r rs passes)
