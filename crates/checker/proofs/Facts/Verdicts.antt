-- Bytes are cut into packets in one way, so a plan is sound or breaks a rule, at one round and by one rule: the checker's contracts leave one answer.
use Rattle.std.specs.Prelude.{◌≡◌, refl, ◌↔◌, List, [], ◌∷◌, ◌++◌, ℕ, ◌+◌, ◌*◌, ◌≤◌, ◌<◌, length, take, drop, get_or}
use Rattle.std.proofs.Common.{sym, ap, ap₂, subst, ◌∙◌, append_assoc, append-nil, arith, length-append, take_at}
use Rattle.std.proofs.Math.Path.{subst⁻¹}
use Rattle.std.proofs.Math.Decide.{dec_lt, ℕ_discrete}
use Rattle.std.proofs.Math.Seq.{drop-append_seam}
use Rattle.basics.specs.Limits.{last_start}
use Rattle.packet_bytes.specs.Layout.{Values, bytes_of}
use Rattle.packet_bytes.specs.Facts.Layout.{length_bytes, same_bytes_same_values}
use Rattle.state.specs.Content.{Content, content}
use Rattle.state.specs.Sound.{Sound}
use Rattle.state.specs.declared.Planner.{Planner}
use Rattle.checker.specs.Plans.{Rule, of_packet, of_start, of_room, of_slots, of_rest, number_of, IsFirstBroken, BreaksRule}
use Rattle.checker.specs.Plans.{after_foreign, Passed, none, first, laid_out, IsSoundPlan, BreaksAt, Stops}
use Rattle.checker.specs.Verdicts.{verdict, IsVerdict, not_sound, sound, breaks, finding, IsFinding, refused, all_pass, one_breaks}
use Rattle.checker.proofs.Facts.Passing.{lead_to_one, passed_rise, passed_by_last}
use Rattle.checker.specs.declared.Verdict.{Verdict}
use Rattle.checker.specs.declared.Finding.{Finding}

-- a packet's length stands in its byte 5, so bytes can be cut in one way
pub one_cut : (v w : Values) (more rest : List ℕ) → bytes_of v ++ more ≡ bytes_of w ++ rest → (v ≡ w) × (more ≡ rest)
one_cut v w more rest same =
    let n : length v.ids ≡ length w.ids = ap (λ (l : List ℕ). get_or l 5 0) same in
    let long : length (bytes_of v) ≡ length (bytes_of w) = length_bytes v ∙ ap (λ (k : ℕ). 6 + 2 * k) n ∙ sym (length_bytes w) in
    let front : bytes_of v ≡ bytes_of w =
    sym (take_at (bytes_of v) more (length (bytes_of v)) refl) ∙ ap (take (length (bytes_of v))) same
    ∙ take_at (bytes_of w) rest (length (bytes_of v)) (sym long) in (
      same_bytes_same_values v w front,
      sym (drop-append_seam (bytes_of v) more) ∙ ap (drop (length (bytes_of v))) same
          ∙ ap (λ (k : ℕ). drop k (bytes_of w ++ rest)) long ∙ drop-append_seam (bytes_of w) rest,
    )

nothing_stops : (c : Content) → Stops c []
nothing_stops c v more same passes = omega (arith, ap (length {A = ℕ}) same, length-append (bytes_of v) more, length_bytes v)

-- the rounds that pass are the same, however the bytes are cut, if what is behind them stops
one_plan : (h c d : Content) (rs ss : List Values) (a b : List ℕ) → Passed h rs c → Passed h ss d → laid_out rs ++ a ≡ laid_out ss ++ b
    → Stops c a → Stops d b → rs ≡ ss
unfolding laid_out
one_plan h c d [] [] a b none none same stop_a stop_b = refl
one_plan h c d [] (w ∷ ss) a b none (first _ passes rest) same stop_a stop_b =
    absurd (stop_a w (laid_out ss ++ b) (same ∙ append_assoc (bytes_of w) (laid_out ss) b) passes)
one_plan h c d (v ∷ rs) [] a b (first _ passes rest) none same stop_a stop_b =
    absurd (stop_b v (laid_out rs ++ a) (sym same ∙ append_assoc (bytes_of v) (laid_out rs) a) passes)
one_plan h c d (v ∷ rs) (w ∷ ss) a b (first _ passes rest) (first _ passes' rest') same stop_a stop_b =
    let cut = one_cut v w (laid_out rs ++ a) (laid_out ss ++ b)
    (sym (append_assoc (bytes_of v) (laid_out rs) a) ∙ same ∙ append_assoc (bytes_of w) (laid_out ss) b) in
    let rest'' : Passed (after_foreign h v) ss d = subst⁻¹ (λ (x : Values). Passed (after_foreign h x) ss d) cut.0 rest' in
    ap₂ (λ (x : Values) (xs : List Values). x ∷ xs) cut.0 (one_plan (after_foreign h v) c d rs ss a b rest rest'' cut.1 stop_a stop_b)

-- what stands behind the same rounds is the same
same_rest : (rs ss : List Values) (a b : List ℕ) → rs ≡ ss → laid_out rs ++ a ≡ laid_out ss ++ b → a ≡ b
same_rest rs ss a b rounds same =
    sym (drop-append_seam (laid_out rs) a) ∙ ap (drop (length (laid_out rs))) same
    ∙ ap (λ (l : List Values). drop (length (laid_out l)) (laid_out ss ++ b)) rounds ∙ drop-append_seam (laid_out ss) b

module _ {h : Content} {bytes : List ℕ} where
  -- a sound plan has one list of rounds
  one_sound : (a b : IsSoundPlan h bytes) → a.rounds ≡ b.rounds
  one_sound a b =
      one_plan h a.left b.left a.rounds b.rounds [] [] a.passed b.passed
      (append-nil (laid_out a.rounds) ∙ sym a.are ∙ b.are ∙ sym (append-nil (laid_out b.rounds)))
      (nothing_stops a.left) (nothing_stops b.left)

  -- a plan is sound, or breaks at one round
  sound_or_breaks : {k : ℕ} → IsSoundPlan h bytes → BreaksAt h bytes k → ⊥
  sound_or_breaks plan broken =
      let same : laid_out plan.rounds ++ [] ≡ laid_out broken.rounds ++ broken.rest =
      append-nil (laid_out plan.rounds) ∙ sym plan.are ∙ broken.are in
      let rounds = one_plan h plan.left broken.left plan.rounds broken.rounds [] broken.rest plan.passed broken.passed same
      (nothing_stops plan.left) broken.breaks in
      broken.something (sym (same_rest plan.rounds broken.rounds [] broken.rest rounds same))

  module _ {j k : ℕ} (a : BreaksAt h bytes j) (b : BreaksAt h bytes k) where
    -- the rounds before the first that breaks a rule are the same, ..
    same_rounds : a.rounds ≡ b.rounds
    same_rounds =
        one_plan h a.left b.left a.rounds b.rounds a.rest b.rest a.passed b.passed (sym a.are ∙ b.are) a.breaks b.breaks

    -- .. so it is one round, ..
    one_break : j ≡ k
    one_break = a.counted ∙ ap (λ (rs : List Values). length rs + 1) same_rounds ∙ sym b.counted

    -- .. and what it is judged by is the same
    same_front : {n : ℕ} → BreaksRule b.left b.rest n → BreaksRule a.left a.rest n
    same_front {n} rule =
        let left : a.left ≡ b.left = lead_to_one a.passed (subst⁻¹ (λ (rs : List Values). Passed h rs b.left) same_rounds b.passed) in
        let rest : a.rest ≡ b.rest = same_rest a.rounds b.rounds a.rest b.rest same_rounds (sym a.are ∙ b.are) in
        subst⁻¹ (λ (l : List ℕ). BreaksRule a.left l n) rest (subst⁻¹ (λ (c : Content). BreaksRule c b.rest n) left rule)

module _ {h : Content} where
  -- a round breaks one rule first
  one_first : {v : Values} {i j : ℕ} → IsFirstBroken h v i → IsFirstBroken h v j → i ≡ j
  one_first {v} {i} {j} a b = go (dec_lt i j) (dec_lt j i)
    where
      go : Dec (i < j) → Dec (j < i) → i ≡ j
      go (yes less) _ = absurd (a.broken (b.earlier a.rule (omega (arith, a.number, less))))
      go (no not_less) (yes less) = absurd (b.broken (a.earlier b.rule (omega (arith, b.number, less))))
      go (no not_less) (no not_more) = omega arith

  one_rule : {rest : List ℕ} {i j : ℕ} → BreaksRule h rest i → BreaksRule h rest j → i ≡ j
  one_rule {rest} {i} {j} a b = go (ℕ_discrete i j)
    where
      none_there : (i ≡ j → ⊥) → (v : Values) (more : List ℕ) → rest ≡ bytes_of v ++ more → ⊥
      none_there other v more same = other (one_first (a.in_front v more same) (b.in_front v more same))

      go : Dec (i ≡ j) → i ≡ j
      go (yes same) = same
      go (no other) = a.cut_short (none_there other) ∙ sym (b.cut_short (none_there other))

  -- rules are counted from 1
  rule_from_1 : {rest : List ℕ} {n : ℕ} → BreaksRule h rest n → 1 ≤ n
  rule_from_1 {rest} {n} broken = go (ℕ_discrete n 0)
    where
      numbered : (q : Rule) → 1 ≤ number_of q
      numbered of_packet = omega arith
      numbered of_start = omega arith
      numbered of_room = omega arith
      numbered of_slots = omega arith
      numbered of_rest = omega arith

      go : Dec (n ≡ 0) → 1 ≤ n
      go (yes zero) =
          omega (arith, broken.cut_short (λ v more same. let it = broken.in_front v more same in omega (arith, zero, it.number, numbered it.rule)))
      go (no some) = omega arith

module _ (p : Planner) (bytes : List ℕ) where
  -- Annex 12.30: the contract of check leaves one verdict ..
  pub one_verdict : {a b : Verdict} → IsVerdict p bytes a → IsVerdict p bytes b → a ≡ b
  one_verdict (not_sound bad) (not_sound _) = refl
  one_verdict (not_sound bad) (sound holds _) = absurd (bad holds)
  one_verdict (not_sound bad) (breaks holds _ _) = absurd (bad holds)
  one_verdict (sound holds _) (not_sound bad) = absurd (bad holds)
  one_verdict (sound _ plan) (sound _ _) = refl
  one_verdict (sound _ plan) (breaks _ k broken) = absurd (sound_or_breaks plan broken)
  one_verdict (breaks holds _ _) (not_sound bad) = absurd (bad holds)
  one_verdict (breaks _ k broken) (sound _ plan) = absurd (sound_or_breaks plan broken)
  one_verdict (breaks _ j a) (breaks _ k b) = ap (verdict 0) (one_break a b)

  -- Annex 12.30: .. and that of find one finding
  pub one_finding : {a b : Finding} → IsFinding p bytes a → IsFinding p bytes b → a ≡ b
  one_finding (refused bad) (refused _) = refl
  one_finding (refused bad) (all_pass holds _) = absurd (bad holds)
  one_finding (refused bad) (one_breaks holds _ _ _ _) = absurd (bad holds)
  one_finding (all_pass holds _) (refused bad) = absurd (bad holds)
  one_finding (all_pass _ a) (all_pass _ b) = ap (λ (rs : List Values). finding 0 (length rs) 0 (length bytes)) (one_sound a b)
  one_finding (all_pass _ plan) (one_breaks _ _ _ broken _) = absurd (sound_or_breaks plan broken)
  one_finding (one_breaks holds _ _ _ _) (refused bad) = absurd (bad holds)
  one_finding (one_breaks _ _ _ broken _) (all_pass _ plan) = absurd (sound_or_breaks plan broken)
  one_finding (one_breaks _ _ m a rule) (one_breaks _ _ n b rule') =
      ap₂ (λ (rs : List Values) (k : ℕ). finding 0 (length rs) k (length (laid_out rs))) (same_rounds a b) (one_rule rule (same_front a b rule'))

  -- 0 and no round is said of sound plans alone
  sound_verdict : {r : Verdict} → IsVerdict p bytes r → r ≡ verdict 0 0 → Sound p × IsSoundPlan (content p) bytes
  sound_verdict (not_sound bad) is = absurd (omega (arith, ap (λ (r : Verdict). r.answer) is))
  sound_verdict (sound holds plan) is = (holds, plan)
  sound_verdict (breaks holds k broken) is = absurd (omega (arith, ap (λ (r : Verdict). r.round) is, broken.counted))

  -- Annex 12.30: 0 and no round is said exactly of sound plans
  pub sound_exactly : {r : Verdict} → IsVerdict p bytes r → (r ≡ verdict 0 0) ↔ (Sound p × IsSoundPlan (content p) bytes)
  sound_exactly is = (sound_verdict is, λ (holds, plan). one_verdict is (sound holds plan))

  -- what is found tells the verdict: without a rule there is no round ..
  pub verdict_of_none : {f : Finding} → IsFinding p bytes f → f.rule ≡ 0 → IsVerdict p bytes (verdict f.answer 0)
  verdict_of_none (refused bad) zero = not_sound bad
  verdict_of_none (all_pass holds plan) zero = sound holds plan
  verdict_of_none (one_breaks holds k n broken rule) zero = absurd (omega (arith, zero, rule_from_1 rule))

  -- .. and else it is the one behind those that pass
  pub verdict_of_broken : {f : Finding} → IsFinding p bytes f → (f.rule ≡ 0 → ⊥) → IsVerdict p bytes (verdict 0 (f.passed + 1))
  verdict_of_broken (refused bad) some = absurd (some refl)
  verdict_of_broken (all_pass holds plan) some = absurd (some refl)
  verdict_of_broken (one_breaks holds k n broken rule) some = subst (λ (j : ℕ). IsVerdict p bytes (verdict 0 j)) broken.counted (breaks holds k broken)

  -- no more rounds pass than the clock has moments
  pub passed_fits : {f : Finding} → IsFinding p bytes f → f.passed ≤ last_start
  passed_fits (refused bad) = omega arith
  passed_fits (all_pass holds plan) =
      omega (arith, passed_rise plan.passed, passed_by_last plan.passed holds.content_sound.in_range.last)
  passed_fits (one_breaks holds k n broken rule) =
      omega (arith, passed_rise broken.passed, passed_by_last broken.passed holds.content_sound.in_range.last)
