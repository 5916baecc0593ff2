-- Twins answer alike: every list of calls has the same outcomes on both.
use Rattle.std.specs.Prelude.{◌≡◌, refl, List, [], ◌∷◌, ◌++◌, ℕ, length, take, drop}
use Rattle.std.proofs.Common.{sym, ap, subst, ◌∙◌, lt_irrefl, arith, take_at}
use Rattle.std.proofs.Math.Decide.{ℕ_discrete}
use Rattle.basics.specs.Refusals.{Refusal, answer_of}
use Rattle.basics.specs.Facts.Refusals.{answer_first, answer_later}
use Rattle.rules.proofs.Facts.LazyStart.{lazy_unique}
use Rattle.state.specs.Content.{Content, content, cap_of, slots_of, streams_in}
use Rattle.state.specs.Sound.{Sound}
use Rattle.state.proofs.Decide.{decide_sound}
use Rattle.state.specs.Open.{open_refusals, IsOpened}
use Rattle.planner.specs.declared.Offer.{Offer}
use Rattle.planner.specs.AddRemove.{unsound, offer_refusals, rule_refusals, added, removed, not_held, IsSoundWith, IsChange}
use Rattle.planner.specs.Send.{no_message, mail_full, posted}
use Rattle.planner.specs.Round.{listed_at, left_at, short_buffer, late_start, IsRound, IsHeldRound}
use Rattle.state.specs.Start.{IsStart, StartsLate}
use Rattle.planner.proofs.Facts.Calls.{refused_change, success_change, refused_round, success_round}
use Rattle.state.specs.declared.Setting.{Setting}
use Rattle.state.specs.declared.Planner.{Planner}
use Rattle.state.specs.declared.Changed.{Changed}
use Rattle.planner.specs.declared.Rounded.{Rounded}
use Rattle.alike.specs.Twins.{AreTwins, both_sound, neither_sound, SameOutcomes}
use Rattle.alike.specs.Twins.{Call, Outcome, change, round, Gives, opens, adds, removes, sends, rounds, Makes, none, then}
use Rattle.alike.proofs.Facts.Refusals.{AreAlike, same_answers}

-- Annex 12.23: equal planners are twins
pub equal_are_twins : {p q : Planner} → p ≡ q → AreTwins p q
equal_are_twins {p} e = subst (AreTwins p) e (itself (decide_sound p))
  where
    itself : Dec (Sound p) → AreTwins p p
    itself (yes sound) = both_sound sound sound refl
    itself (no bad) = neither_sound bad bad

-- and either way round
pub twins_back : {p q : Planner} → AreTwins p q → AreTwins q p
twins_back (both_sound one other same) = both_sound other one (sym same)
twins_back (neither_sound one other) = neither_sound other one

-- sound planners that hold the same are twins
sound_are_twins : {h k : Content} {p q : Planner} → h ≡ k → IsSoundWith h p → IsSoundWith k q → AreTwins p q
sound_are_twins same one other = both_sound one.sound other.sound (one.holds ∙ same ∙ sym other.holds)

-- what is refused with 5 first is answered alike by twins, if what comes behind 5 is answered alike where both are sound and hold the same
twins_answer : {p q : Planner} → AreTwins p q → (rs ss : List Refusal)
    → (Sound p → Sound q → content p ≡ content q → answer_of rs ≡ answer_of ss) → answer_of (unsound p ∷ rs) ≡ answer_of (unsound q ∷ ss)
twins_answer {p} {q} (both_sound one other same) rs ss alike =
    answer_later (unsound p) rs (λ bad. bad one) ∙ alike one other same ∙ sym (answer_later (unsound q) ss (λ bad. bad other))
twins_answer {p} {q} (neither_sound one other) rs ss alike = answer_first (unsound p) rs one ∙ sym (answer_first (unsound q) ss other)

-- two openings with the same setting and T hand back the same planner
pub same_opening : {s : Setting} {t : ℕ} {r r' : Changed} → IsOpened s t r → IsOpened s t r' → (r.answer ≡ r'.answer) × (r.planner ≡ r'.planner)
same_opening {s} {t} {r} {r'} is is' = (is.answer ∙ sym is'.answer, go (ℕ_discrete (answer_of (open_refusals s t)) 0))
  where
    go : Dec (answer_of (open_refusals s t) ≡ 0) → r.planner ≡ r'.planner
    go (yes zero) = (is.opened zero).whole ∙ sym (is'.opened zero).whole
    go (no some) = (is.closed some).whole ∙ sym (is'.closed some).whole

-- Two rounds are the same: in answer, start, n and what is listed in the first n elements; from equal buffers in every element; and twins are left.
pub record IsSameRound (before before' after after' : List ℕ) (r s : Rounded) : Type 0 where
  pub answer : r.answer ≡ s.answer
  pub start : r.start ≡ s.start
  pub n : r.n ≡ s.n
  pub listed : take r.n after ≡ take s.n after'
  pub buffer : before ≡ before' → after ≡ after'
  pub twins_after : AreTwins r.planner s.planner

module _ {p q : Planner} (twins : AreTwins p q) where
  -- planners handed back as they were
  pub still_twins : {p' q' : Planner} → p' ≡ p → q' ≡ q → AreTwins p' q'
  still_twins {p'} {q'} e f = subst (λ (x : Planner). AreTwins x q') (sym e) (subst (AreTwins p) (sym f) twins)

  -- a change that both were asked for
  module _ (rest : Content → List Refusal) (then_holds : Content → Content) {r s : Changed}
      (is : IsChange (unsound p ∷ rest (content p)) p (then_holds (content p)) r) (is' : IsChange (unsound q ∷ rest (content q)) q (then_holds (content q)) s)
    where
      -- has the same answer ..
      pub change_answers : r.answer ≡ s.answer
      change_answers =
          is.answer
          ∙ twins_answer twins (rest (content p)) (rest (content q)) (λ one other same. ap (λ (h : Content). answer_of (rest h)) same)
          ∙ sym is'.answer

      -- .. and leaves twins
      pub change_twins : AreTwins r.planner s.planner
      change_twins = go (ℕ_discrete r.answer 0) twins
        where
          go : Dec (r.answer ≡ 0) → AreTwins p q → AreTwins r.planner s.planner
          go (yes zero) (both_sound _ _ same) =
              sound_are_twins (ap then_holds same) (success_change is zero) (success_change is' (sym change_answers ∙ zero))
          go (yes zero) (neither_sound bad _) = absurd (lt_irrefl 0 (omega (arith, zero, is.answer, answer_first (unsound p) (rest (content p)) bad)))
          go (no some) _ = still_twins (refused_change is some) (refused_change is' (λ zero. some (change_answers ∙ zero)))

  module _ {before before' after after' : List ℕ} {r s : Rounded}
      (long : length before ≡ length before') (is : IsRound p before after r) (is' : IsRound q before' after' s)
    where
      -- behind 5, where both are sound and hold the same, 16 and 17 apply alike
      asked_alike : Sound p → Sound q → content p ≡ content q
          → AreAlike (short_buffer (content p) before ∷ late_start p ∷ []) (short_buffer (content q) before' ∷ late_start q ∷ [])
      unfolding AreAlike
      asked_alike one other same = (refl, ((short_on, short_back), (refl, ((to, back), tt))))
        where
          short_on : (short_buffer (content p) before).Applies → (short_buffer (content q) before').Applies
          short_on short = subst (λ (h : Content). (short_buffer h before').Applies) same (omega (arith, short, long))

          short_back : (short_buffer (content q) before').Applies → (short_buffer (content p) before).Applies
          short_back short = subst (λ (h : Content). (short_buffer h before).Applies) (sym same) (omega (arith, short, long))

          to : StartsLate p → StartsLate q
          to late _ x start = late one x (subst (λ (h : Content). IsStart h x) (sym same) start)

          back : StartsLate q → StartsLate p
          back late _ x start = late other x (subst (λ (h : Content). IsStart h x) same start)

      round_answers : r.answer ≡ s.answer
      round_answers =
          let rs = short_buffer (content p) before ∷ late_start p ∷ [] in
          let ss = short_buffer (content q) before' ∷ late_start q ∷ [] in
          is.answer ∙ twins_answer twins rs ss (λ one other same. same_answers rs ss (asked_alike one other same)) ∙ sym is'.answer

      -- twins hold the same round, whatever stands in buffers of the same length
      pub same_round : IsSameRound before before' after after' r s
      same_round = go (ℕ_discrete r.answer 0) twins
        where
          first_n : {o : Planner} {old new : List ℕ} {x : Rounded} → IsHeldRound o old new x → take x.n new ≡ listed_at (content o) x.start
          first_n {o} {old} {x = x} held =
              ap (take x.n) held.buffer ∙ take_at (listed_at (content o) x.start) (drop x.n old) x.n (sym held.n)

          go : Dec (r.answer ≡ 0) → AreTwins p q → IsSameRound before before' after after' r s
          go (yes zero) (both_sound _ _ same) =
              let held = success_round is zero in
              let held' = success_round is' (sym round_answers ∙ zero) in
              let h = content q in
              let start : r.start ≡ s.start = lazy_unique (slots_of h) (cap_of h) (streams_in h) r.start s.start
              (subst (λ (c : Content). IsStart c r.start) same held.start) held'.start in
              let listed : listed_at (content p) r.start ≡ listed_at (content q) s.start = λ i. listed_at (same i) (start i) in
              let n : r.n ≡ s.n = held.n ∙ ap (length {A = ℕ}) listed ∙ sym held'.n in
              record {
                answer = round_answers;
                start = start;
                n = n;
                listed = first_n held ∙ listed ∙ sym (first_n held');
                buffer = λ equal. held.buffer ∙ (λ i. listed i ++ drop (n i) (equal i)) ∙ sym held'.buffer;
                twins_after = sound_are_twins (λ i. left_at (same i) (start i)) held.planner held'.planner;
              }
          go (yes zero) (neither_sound bad _) =
              absurd (lt_irrefl 0 (omega (arith, zero, is.answer, answer_first (unsound p) (short_buffer (content p) before ∷ late_start p ∷ []) bad)))
          go (no some) _ =
              let refused = refused_round is some in
              let refused' = refused_round is' (λ zero. some (round_answers ∙ zero)) in
              record {
                answer = round_answers;
                start = refused.start ∙ sym refused'.start;
                n = refused.n ∙ sym refused'.n;
                listed = ap (λ (k : ℕ). take k after) refused.n ∙ ap (λ (k : ℕ). take k after') (sym refused'.n);
                buffer = λ equal. refused.buffer ∙ equal ∙ sym refused'.buffer;
                twins_after = still_twins refused.planner refused'.planner;
              }

-- what add asks after 5 and leaves, by what the planner holds ..
abbrev pub add_rest : Offer → Content → List Refusal
add_rest o h = offer_refusals h o ++ rule_refusals (added h o)

-- .. and remove ..
abbrev pub remove_rest : ℕ → Content → List Refusal
remove_rest id h = not_held id h ∷ []

-- .. and send
abbrev send_rest : ℕ → Content → List Refusal
send_rest n h = no_message n h ∷ mail_full h ∷ []

-- one call on twins: the same outcome, and twins are left
pub same_outcome : {p p' q q' : Planner} {c : Call} {o o' : Outcome} → AreTwins p p' → Gives p c o q → Gives p' c o' q' → (o ≡ o') × AreTwins q q'
same_outcome twins (opens s t r is) (opens _ _ r' is') = let same = same_opening is is' in (ap change same.0, equal_are_twins same.1)
same_outcome twins (adds o r is) (adds _ r' is') =
    let holds : Content → Content = λ h. added h o in
    (ap change (change_answers twins (add_rest o) holds is is'), change_twins twins (add_rest o) holds is is')
same_outcome twins (removes id r is) (removes _ r' is') =
    let holds : Content → Content = λ h. removed h id in
    (ap change (change_answers twins (remove_rest id) holds is is'), change_twins twins (remove_rest id) holds is is')
same_outcome twins (sends n r is) (sends _ r' is') =
    let holds : Content → Content = λ h. posted h n in
    (ap change (change_answers twins (send_rest n) holds is is'), change_twins twins (send_rest n) holds is is')
same_outcome twins (rounds before after r is) (rounds _ after' r' is') =
    let same = same_round twins refl is is' in
    let buffer = same.buffer refl in
    ((λ i. round (same.answer i) (same.start i) (same.n i) (buffer i)), same.twins_after)

outcomes_alike : {p p' q q' : Planner} {cs : List Call} {os os' : List Outcome} → AreTwins p p' → Makes p cs os q → Makes p' cs os' q'
    → (os ≡ os') × AreTwins q q'
outcomes_alike twins none none = (refl, twins)
outcomes_alike twins (then gives more) (then gives' more') =
    let (outcome, after) = same_outcome twins gives gives' in
    let (outcomes, left) = outcomes_alike after more more' in
    ((λ i. outcome i ∷ outcomes i), left)

-- Annex 3.13, 12.24: twins give the same outcomes for ever
pub same_outcomes : SameOutcomes
same_outcomes p p' twins cs os os' q q' made made' = outcomes_alike twins made made'
