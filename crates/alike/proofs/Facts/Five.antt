-- A planner answers 5 exactly if it is not sound, and add, remove and round leave it sound exactly if it was.
use Rattle.std.specs.Prelude.{◌≡◌, ◌↔◌, List, [], ◌∷◌, ℕ}
use Rattle.std.proofs.Common.{sym, subst, ◌∙◌, arith}
use Rattle.std.proofs.Math.Logic.{ite}
use Rattle.std.proofs.Math.Logic.Dec.{not-not as Dec-not_not}
use Rattle.std.proofs.Math.Decide.{ℕ_discrete}
use Rattle.basics.specs.Refusals.{Refusal, answer_of}
use Rattle.basics.specs.Facts.Refusals.{answer_first, answer_later, answer_zero}
use Rattle.state.specs.Content.{Content, content}
use Rattle.state.specs.Sound.{Sound}
use Rattle.state.proofs.Decide.{decide_sound}
use Rattle.planner.specs.declared.Offer.{Offer}
use Rattle.state.specs.Open.{open_refusals, IsOpened}
use Rattle.planner.specs.AddRemove.{unsound, not_held, IsChange, IsAdd, IsRemove}
use Rattle.planner.specs.Round.{short_buffer, late_start, IsRound}
use Rattle.planner.proofs.Facts.Calls.{refused_change, change_keeps_sound, refused_round, round_keeps_sound, held_is_sound}
use Rattle.state.specs.declared.Setting.{Setting}
use Rattle.state.specs.declared.Planner.{Planner}
use Rattle.state.specs.declared.Changed.{Changed}
use Rattle.planner.specs.declared.Rounded.{Rounded}
use Rattle.alike.proofs.Facts.Twins.{add_rest}

-- none of the refusals has this number
unfoldable pub NoneIs : ℕ → List Refusal → Type 0
NoneIs n [] = Unit {0}
NoneIs n (r ∷ rs) = (r.number ≡ n → ⊥) × NoneIs n rs

-- then it is not their answer
not_the_answer : (n : ℕ) → (0 ≡ n → ⊥) → (rs : List Refusal) → NoneIs n rs → answer_of rs ≡ n → ⊥
unfolding NoneIs answer_of
not_the_answer n nonzero [] none_is given = nonzero given
not_the_answer n nonzero (r ∷ rs) (differs, others) given = go r.decided given (not_the_answer n nonzero rs others)
  where
    go : (d : Dec r.Applies) → ite d r.number (answer_of rs) ≡ n → (answer_of rs ≡ n → ⊥) → ⊥
    go (yes applies) is ih = differs is
    go (no passes) is ih = ih is

module _ (p : Planner) (rs : List Refusal) (others : NoneIs 5 rs) where
  five_iff : (answer_of (unsound p ∷ rs) ≡ 5) ↔ (Sound p → ⊥)
  five_iff = (
    λ five sound. not_the_answer 5 (λ e. omega (arith, e)) rs others (sym (answer_later (unsound p) rs (λ bad. bad sound)) ∙ five),
    λ bad. answer_first (unsound p) rs bad,
  )

  change_five : {h : Content} {r : Changed} → IsChange (unsound p ∷ rs) p h r → (r.answer ≡ 5) ↔ (Sound p → ⊥)
  change_five is = (λ five. five_iff.0 (sym is.answer ∙ five), λ bad. is.answer ∙ five_iff.1 bad)

-- a change leaves a planner sound exactly if it was
pub change_leaves_sound : {p : Planner} {rs : List Refusal} {h : Content} {r : Changed} → IsChange (unsound p ∷ rs) p h r → Sound p ↔ Sound r.planner
change_leaves_sound {p} {rs} {r = r} is = (change_keeps_sound is, λ after. go after (ℕ_discrete r.answer 0))
  where
    go : Sound r.planner → Dec (r.answer ≡ 0) → Sound p
    go after (yes zero) = (Dec-not_not (decide_sound p)).0 (answer_zero (unsound p) rs (λ e. omega (arith, e)) (sym is.answer ∙ zero)).0
    go after (no some) = subst Sound (refused_change is some) after

-- and so does a round
pub round_leaves_sound : {p : Planner} {before after : List ℕ} {r : Rounded} → IsRound p before after r → Sound p ↔ Sound r.planner
round_leaves_sound {p} {before} {r = r} is = (round_keeps_sound is, λ after. go after (ℕ_discrete r.answer 0))
  where
    go : Sound r.planner → Dec (r.answer ≡ 0) → Sound p
    go after (yes zero) = held_is_sound p before (sym is.answer ∙ zero)
    go after (no some) = subst Sound (refused_round is some).planner after

-- 5 is the answer of add, remove and round exactly if the planner is not sound
pub add_five : {p : Planner} {o : Offer} {r : Changed} → IsAdd p o r → (r.answer ≡ 5) ↔ (Sound p → ⊥)
unfolding NoneIs
add_five {p} {o} =
    change_five p (add_rest o (content p)) (
      λ e. omega (arith, e),
      (
        λ e. omega (arith, e),
        (
          λ e. omega (arith, e),
          (λ e. omega (arith, e), (λ e. omega (arith, e), (λ e. omega (arith, e), (λ e. omega (arith, e), (λ e. omega (arith, e), tt))))),
        ),
      ),
    )

-- remove answers 5 exactly if the planner is not sound ..
pub remove_five : {p : Planner} {id : ℕ} {r : Changed} → IsRemove p id r → (r.answer ≡ 5) ↔ (Sound p → ⊥)
unfolding NoneIs
remove_five {p} {id} = change_five p (not_held id (content p) ∷ []) (λ e. omega (arith, e), tt)

-- .. and so does round, whatever the buffer
pub round_five : {p : Planner} {before after : List ℕ} {r : Rounded} → IsRound p before after r → (r.answer ≡ 5) ↔ (Sound p → ⊥)
unfolding NoneIs
round_five {p} {before} is =
    let (one, other) = five_iff p (short_buffer (content p) before ∷ late_start p ∷ []) (λ e. omega (arith, e), (λ e. omega (arith, e), tt)) in
    (λ five. one (sym is.answer ∙ five), λ bad. is.answer ∙ other bad)

-- and open never answers 5
pub open_never_five : {s : Setting} {t : ℕ} {r : Changed} → IsOpened s t r → r.answer ≡ 5 → ⊥
unfolding NoneIs
open_never_five {s} {t} is five =
    not_the_answer 5 (λ e. omega (arith, e)) (open_refusals s t)
    (λ e. omega (arith, e), (λ e. omega (arith, e), (λ e. omega (arith, e), (λ e. omega (arith, e), tt)))) (sym is.answer ∙ five)
