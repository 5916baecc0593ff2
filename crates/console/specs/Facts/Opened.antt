-- The planner is sound exactly while it is open, and 5 is answered exactly while it is not.
use Rattle.std.specs.Prelude.{◌≡◌, ◌⊎◌, ◌↔◌, Option, Some, None, List, [], ◌∷◌, ℕ, ◌+◌, get_or}
use Rattle.std.proofs.Common.{ap, subst, ◌∙◌, inl, inr, lt_irrefl, arith}
use Rattle.std.proofs.Math.Path.{subst⁻¹}
use Rattle.std.proofs.Math.Decide.{ℕ_discrete}
use Rattle.state.specs.Sound.{Sound}
use Rattle.state.specs.Open.{zeros, setting, IsFresh}
use Rattle.state.proofs.Facts.Open.{closed_is_not_sound, open_success_is_sound}
use Rattle.state.specs.declared.Planner.{Planner}
use Rattle.alike.proofs.Facts.Five.{change_leaves_sound, round_leaves_sound, add_five, remove_five, round_five, open_never_five}
use Rattle.command.specs.Text.{letter_O, letter_R}
use Rattle.command.specs.Commands.{Says}
use Rattle.command.specs.Answers.{Gives, IsAnswered}
use Rattle.command.specs.Puts.{IsLine, AreLines, lines_of}
use Rattle.command.specs.Step.{IsAnswer}
use Rattle.command.proofs.Facts.Puts.{only_line}
use Rattle.command.proofs.Facts.Unique.{says_one, good_unique, line_numbers}
use Rattle.command.specs.declared.Command.{Command}
use Rattle.command.specs.declared.Command.TheVariants.{Open, Add, Remove, Round}
use Rattle.command.specs.declared.answers.Answered.{Answered}
use Rattle.console.specs.Transcript.{Transcript}
use Rattle.console.specs.Transcript.Transcript.{none, next}
use Rattle.console.specs.Opened.{IsNoOpen, IsOpen, AsksForOpen, IsFive}

module _ (q : Planner) (number : ℕ) (line answer : List ℕ) (r : Answered) (text : AreLines (lines_of r.lines) answer) where
  -- the text of what is given
  given_text : {p : Planner} {l : ℕ} {ns : List ℕ} → Gives p ((l, ns) ∷ []) r → IsLine l ns answer
  given_text given = only_line (subst (λ (lines : List (ℕ × List ℕ)). AreLines lines answer) given.its_lines text)

  -- A line that is no O opens nothing, and leaves the planner sound exactly if it was.
  record IsKept : Type 0 where
    not_opened : IsLine letter_O (0 ∷ []) answer → ⊥
    no_open : IsNoOpen line
    sound : Sound q ↔ Sound r.planner

  -- an answer of another letter
  kept : {p : Planner} {l : ℕ} {ns : List ℕ} → Gives p ((l, ns) ∷ []) r → (l ≡ letter_O → ⊥) → IsNoOpen line → Sound q ↔ Sound p → IsKept
  kept {p} given other no_open (on, back) =
      record {
        not_opened = λ opened. other (line_numbers (given_text given) opened).0;
        no_open = no_open;
        sound = (λ a. subst⁻¹ Sound given.planner (on a), λ b. back (subst Sound given.planner b));
      }

  module _ (Before : Type 0) (before : Before ↔ Sound q) where
    still : IsKept → (IsLine letter_O (0 ∷ []) answer ⊎ (Before × IsNoOpen line)) ↔ Sound r.planner
    still is = (
      λ open_now. go open_now,
      λ sound. inr (before.1 (is.sound.1 sound), is.no_open),
    )
      where
        go : IsLine letter_O (0 ∷ []) answer ⊎ (Before × IsNoOpen line) → Sound r.planner
        go (inl opened) = absurd (is.not_opened opened)
        go (inr (was, _)) = is.sound.0 (before.0 was)

    -- after a line the planner is sound exactly if it is open
    line_leaves : (c : Option Command) → Says line c → IsAnswered q number c r → (IsLine letter_O (0 ∷ []) answer ⊎ (Before × IsNoOpen line)) ↔ Sound r.planner
    line_leaves (Some (Open b f g t)) says is = (go, λ sound. inl (opened sound (ℕ_discrete is.done.answer 0)))
      where
        its_text : IsLine letter_O (is.done.answer ∷ []) answer
        its_text = given_text is.given

        success : is.done.answer ≡ 0 → Sound r.planner
        success zero = subst⁻¹ Sound is.given.planner (open_success_is_sound (setting b f g 0) t is.done is.by_contract zero)

        go : IsLine letter_O (0 ∷ []) answer ⊎ (Before × IsNoOpen line) → Sound r.planner
        go (inl opened) = success (ap (λ (l : List ℕ). get_or l 0 0) (line_numbers its_text opened).1)
        go (inr (_, no_open)) = absurd (no_open b f g t says)

        opened : Sound r.planner → Dec (is.done.answer ≡ 0) → IsLine letter_O (0 ∷ []) answer
        opened sound (yes zero) = rw (← zero) its_text
        opened sound (no some) =
            absurd (closed_is_not_sound is.done.planner (is.by_contract.closed (λ zero. some (is.by_contract.answer ∙ zero)))
            (subst Sound is.given.planner sound))
    line_leaves (Some (Add id s p d)) says is =
        let no_open : IsNoOpen line = λ b f g t other. lt_irrefl 0 (omega (arith, (good_unique says other).0)) in
        still (kept is.given (λ e. omega (arith, e)) no_open (change_leaves_sound is.by_contract))
    line_leaves (Some (Remove id)) says is =
        let no_open : IsNoOpen line = λ b f g t other. lt_irrefl 0 (omega (arith, (good_unique says other).0)) in
        still (kept is.given (λ e. omega (arith, e)) no_open (change_leaves_sound is.by_contract))
    line_leaves (Some Round) says is = go (ℕ_discrete is.done.answer 0)
      where
        no_open : IsNoOpen line
        no_open b f g t other = lt_irrefl 0 (omega (arith, (good_unique says other).0))

        go : Dec (is.done.answer ≡ 0) → (IsLine letter_O (0 ∷ []) answer ⊎ (Before × IsNoOpen line)) ↔ Sound r.planner
        go (yes zero) = still (kept (is.held zero) (λ e. omega (arith, e)) no_open (round_leaves_sound is.by_contract))
        go (no some) = still (kept (is.refused some) (λ e. omega (arith, e)) no_open (round_leaves_sound is.by_contract))
    line_leaves None says is = still (kept is (λ e. omega (arith, e)) says.no_open (λ a. a, λ a. a))

  -- 5 is answered exactly if the planner is not sound
  five_if_unsound : (c : Command) → AsksForOpen c → IsAnswered q number (Some c) r → IsFive c answer ↔ (Sound q → ⊥)
  five_if_unsound (Open b f g t) asks is = absurd asks
  five_if_unsound (Add id s p d) asks is = (
    λ five. (add_five is.by_contract).0 (ap (λ (l : List ℕ). get_or l 1 0) (line_numbers (given_text is.given) five).1),
    λ bad. rw (← ((add_five is.by_contract).1 bad)) (given_text is.given),
  )
  five_if_unsound (Remove id) asks is = (
    λ five. (remove_five is.by_contract).0 (ap (λ (l : List ℕ). get_or l 1 0) (line_numbers (given_text is.given) five).1),
    λ bad. rw (← ((remove_five is.by_contract).1 bad)) (given_text is.given),
  )
  five_if_unsound Round asks is = go (ℕ_discrete is.done.answer 0)
    where
      go : Dec (is.done.answer ≡ 0) → IsLine letter_R (5 ∷ []) answer ↔ (Sound q → ⊥)
      go (yes zero) = (
        λ five. absurd (lt_irrefl 0 (omega (arith, ap (λ (l : List ℕ). get_or l 0 0) (line_numbers (given_text (is.held zero)) five).1))),
        λ bad. absurd (lt_irrefl 0 (omega (arith, zero, (round_five is.by_contract).1 bad))),
      )
      go (no some) = (
        λ five. (round_five is.by_contract).0 (ap (λ (l : List ℕ). get_or l 0 0) (line_numbers (given_text (is.refused some)) five).1),
        λ bad. rw (← ((round_five is.by_contract).1 bad)) (given_text (is.refused some)),
      )

-- Annex 11.10: from the closed planner on, the planner is sound exactly while it is open
pub open_is_sound : {p q : Planner} {lines answers : List ℕ} {n : ℕ} → IsFresh zeros 0 p → (t : Transcript p lines answers q n) → IsOpen t ↔ Sound q
unfolding IsOpen
open_is_sound {p} closed none = (λ never. absurd never, λ sound. closed_is_not_sound p closed sound)
open_is_sound closed (next {q} {n} t line answer after no_end is) =
    let before = open_is_sound closed t in
    let (on, back) = line_leaves q (n + 1) line answer is.answered is.written (IsOpen t) before is.command is.says is.by_contract in
    (λ open_now. subst⁻¹ Sound is.planner (on open_now), λ sound. back (subst Sound is.planner sound))

-- Annex 11.10: A, D and R are answered 5 exactly where no O has succeeded since the beginning or since a refused one
pub five_exactly : {p q after : Planner} {lines answers line answer : List ℕ} {n : ℕ} → IsFresh zeros 0 p → (t : Transcript p lines answers q n)
    → (c : Command) → Says line (Some c) → AsksForOpen c → IsAnswer q (n + 1) line answer after → IsFive c answer ↔ (IsOpen t → ⊥)
five_exactly {q = q} {line = line} {answer = answer} {n = n} closed t c says asks is =
    let same = says_one line is.command (Some c) is.says says in
    let to_c = subst (λ (d : Option Command). IsAnswered q (n + 1) d is.answered) same is.by_contract in
    let (on, back) = five_if_unsound q (n + 1) line answer is.answered is.written c asks to_c in
    let (sound, open_now) = open_is_sound closed t in
    (λ five is_open. on five (sound is_open), λ not_open. back (λ is_sound. not_open (open_now is_sound)))

-- Annex 11.10: so between an O that succeeds and the next O, which may itself be refused, no line is answered 5
pub no_five_while_open : {p q after : Planner} {lines answers line answer : List ℕ} {n : ℕ} → IsFresh zeros 0 p → (t : Transcript p lines answers q n)
    → IsOpen t → (c : Command) → Says line (Some c) → IsAnswer q (n + 1) line answer after → IsFive c answer → ⊥
no_five_while_open {q = q} {line = line} {answer = answer} {n = n} closed t is_open (Open b f g last) says is five =
    let same = says_one line is.command (Some (Open b f g last)) is.says says in
    let to_open = subst (λ (d : Option Command). IsAnswered q (n + 1) d is.answered) same is.by_contract in
    let text = given_text q (n + 1) line answer is.answered is.written to_open.given in
    open_never_five to_open.by_contract (ap (λ (l : List ℕ). get_or l 0 0) (line_numbers text five).1)
no_five_while_open closed t is_open (Add id s p d) says is five = (five_exactly closed t (Add id s p d) says tt is).0 five is_open
no_five_while_open closed t is_open (Remove id) says is five = (five_exactly closed t (Remove id) says tt is).0 five is_open
no_five_while_open closed t is_open Round says is five = (five_exactly closed t Round says tt is).0 five is_open
