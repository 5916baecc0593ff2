-- Two hosts that have read the same bytes have written the same: what is told of the same reads is the same.
use Rattle.std.specs.Prelude.{◌≡◌, refl, ℕ, ◌+◌, ◌≤◌}
use Rattle.std.proofs.Common.{sym, ap, ◌∙◌, lt_irrefl, arith}
use Rattle.std.proofs.Math.Logic.{ite, if_neg}
use mathlib.Core.List.{List, [], ◌∷◌, ◌++◌, append-nil, append_assoc, cons≢nil, head-eq_of_cons-eq, tail-eq_of_cons-eq}
use Rattle.std.proofs.Math.Decide.{ℕ_discrete, dec_le}
use Rattle.state.specs.declared.Planner.{Planner}
use Rattle.alike.specs.Twins.{AreTwins}
use Rattle.alike.proofs.Facts.Twins.{equal_are_twins}
use Rattle.command.proofs.Facts.SameAnswers.{same_answer}
use Rattle.console.specs.Transcript.{HasNoEnd, Transcript, AreAnswered, Told, ToldAll}
use Rattle.console.specs.Transcript.Transcript.{none, next}
use Rattle.console.specs.Facts.LineEnds.{no_end_second}

-- bytes have one first line
same_first_line : (line line' rest rest' : List ℕ) → HasNoEnd line → HasNoEnd line' → line ++ (10 ∷ rest) ≡ line' ++ (10 ∷ rest')
    → (line ≡ line') × (rest ≡ rest')
same_first_line [] [] rest rest' no_end no_end' same = (refl, tail-eq_of_cons-eq same)
same_first_line [] (y ∷ line') rest rest' no_end no_end' same = absurd (no_end' 0 (omega arith) (omega arith) (sym (head-eq_of_cons-eq same)))
same_first_line (x ∷ line) [] rest rest' no_end no_end' same = absurd (no_end 0 (omega arith) (omega arith) (head-eq_of_cons-eq same))
same_first_line (x ∷ line) (y ∷ line') rest rest' no_end no_end' same =
    let in_line = no_end_second (x ∷ []) line no_end in
    let in_line' = no_end_second (y ∷ []) line' no_end' in
    let (lines, rests) = same_first_line line line' rest rest' in_line in_line' (tail-eq_of_cons-eq same) in
    let first = head-eq_of_cons-eq same in
    ((λ i. first i ∷ lines i), rests)

-- Two transcripts, each of whole lines of the same bytes, are the same, and leave twins.
pub record IsSameTranscript (lines lines' rest rest' answers answers' : List ℕ) (q q' : Planner) : Type 0 where
  pub lines_same : lines ≡ lines'
  pub rest_same : rest ≡ rest'
  pub answers_same : answers ≡ answers'
  pub twins : AreTwins q q'

-- a line before a rest
line_before : (lines line rest : List ℕ) → (lines ++ (line ++ (10 ∷ []))) ++ rest ≡ lines ++ (line ++ (10 ∷ rest))
line_before lines line rest = append_assoc lines (line ++ (10 ∷ [])) rest ∙ ap (λ (l : List ℕ). lines ++ l) (append_assoc line (10 ∷ []) rest)

-- after equally many lines of the same bytes the same is written
pub same_transcript : {p p' q q' : Planner} {lines lines' answers answers' : List ℕ} {n n' : ℕ} → AreTwins p p'
    → Transcript p lines answers q n → Transcript p' lines' answers' q' n' → n ≡ n' → (rest rest' : List ℕ) → lines ++ rest ≡ lines' ++ rest'
    → IsSameTranscript lines lines' rest rest' answers answers' q q'
same_transcript twins none none count rest rest' same = record { lines_same = refl; rest_same = same; answers_same = refl; twins = twins }
same_transcript twins none (next t' line' answer' after' no_end' is') count rest rest' same = absurd (lt_irrefl 0 (omega arith))
same_transcript twins (next t line answer after no_end is) none count rest rest' same = absurd (lt_irrefl 0 (omega arith))
same_transcript twins (next {lines} {n = n} t line answer after no_end is)
    (next {lines = lines'} {n = n'} t' line' answer' after' no_end' is') count rest rest' same =
    let counts : n ≡ n' = omega arith in
    let so_far = same_transcript twins t t' counts (line ++ (10 ∷ rest)) (line' ++ (10 ∷ rest'))
    (sym (line_before lines line rest) ∙ same ∙ line_before lines' line' rest') in
    let (line_same, rest_same) = same_first_line line line' rest rest' no_end no_end' so_far.rest_same in
    let (answer_same, left) = same_answer so_far.twins (ap (λ (k : ℕ). k + 1) counts) line_same is is' in
    record {
      lines_same = λ i. so_far.lines_same i ++ (line_same i ++ (10 ∷ []));
      rest_same = rest_same;
      answers_same = λ i. so_far.answers_same i ++ answer_same i;
      twins = left;
    }

-- after more lines of the same bytes, what was written before is the beginning
answers_begin : {p p' q q' : Planner} {lines lines' answers answers' : List ℕ} {n n' : ℕ} → AreTwins p p'
    → Transcript p lines answers q n → Transcript p' lines' answers' q' n' → n ≤ n' → (rest rest' : List ℕ) → lines ++ rest ≡ lines' ++ rest'
    → (more : List ℕ) × (answers' ≡ answers ++ more)
answers_begin {answers = answers} {n = n} twins t none less rest rest' same =
    let w = same_transcript twins t none (omega arith) rest rest' same in
    ([], sym w.answers_same ∙ sym (append-nil answers))
answers_begin {answers = answers} {n = n} twins t (next {lines = lines'} {answers = answers'} {n = n'} t' line' answer' after' no_end' is')
    less rest rest' same =
    go (dec_le n n') (λ before. answers_begin twins t t' before rest (line' ++ (10 ∷ rest')) (same ∙ line_before lines' line' rest'))
  where
    go : Dec (n ≤ n') → (n ≤ n' → (more : List ℕ) × (answers' ≡ answers ++ more)) → (more : List ℕ) × ((answers' ++ answer') ≡ answers ++ more)
    go (yes before) ih =
        let (more, is_more) = ih before in
        (more ++ answer', ap (λ (l : List ℕ). l ++ answer') is_more ∙ append_assoc answers more answer')
    go (no past) ih =
        let w = same_transcript twins t (next t' line' answer' after' no_end' is') (omega arith) rest rest' same in
        ([], sym w.answers_same ∙ sym (append-nil answers))

-- how many of the bytes end a line
unfoldable ends_in : List ℕ → ℕ
ends_in [] = 0
ends_in (b ∷ bytes) = ite (ℕ_discrete b 10) 1 0 + ends_in bytes

ends_append : (a b : List ℕ) → ends_in (a ++ b) ≡ ends_in a + ends_in b
unfolding ends_in
ends_append [] b = omega arith
ends_append (x ∷ a) b = omega (arith, ends_append a b)

ends_none : (bytes : List ℕ) → HasNoEnd bytes → ends_in bytes ≡ 0
unfolding ends_in
ends_none [] no_end = refl
ends_none (b ∷ bytes) no_end =
    omega (arith, if_neg {C = ℕ} (ℕ_discrete b 10) (no_end 0 (omega arith) (omega arith)) 1 0, ends_none bytes (no_end_second (b ∷ []) bytes no_end))

-- there are as many lines as line ends
ends_counted : {p q : Planner} {lines answers : List ℕ} {n : ℕ} → Transcript p lines answers q n → ends_in lines ≡ n
unfolding ends_in ℕ_discrete
ends_counted none = refl
ends_counted (next {lines} t line answer after no_end is) =
    omega (arith, ends_append lines (line ++ (10 ∷ [])), ends_append line (10 ∷ []), ends_none line no_end, ends_counted t)

-- two hosts begin with the same planner
first_twins : {read read' written written' rest rest' : List ℕ} {p p' : Planner} {n n' : ℕ} (a : AreAnswered read written p n rest)
    (b : AreAnswered read' written' p' n' rest') → AreTwins a.first b.first
first_twins a b = equal_are_twins (a.closed.whole ∙ sym b.closed.whole)

-- Annex 12.26: two hosts that have read the same bytes and answered as many lines have written the same bytes, and hold the same
pub same_told : {read written written' kept kept' : List ℕ} {p p' : Planner} {n : ℕ} → Told read written p n kept → Told read written' p' n kept'
    → (written ≡ written') × AreTwins p p'
same_told told told' =
    let a = told.answered in
    let b = told'.answered in
    let w = same_transcript (first_twins a b) a.transcript b.transcript refl told.rest told'.rest (sym a.all ∙ b.all) in
    (w.answers_same, w.twins)

-- Annex 12.26: of two hosts, one of which has read on and answered more lines, the one has written the beginning of what the other has
pub told_begins : {read written written' kept kept' : List ℕ} (later : List ℕ) {p p' : Planner} {n n' : ℕ} → n ≤ n' → Told read written p n kept
    → Told (read ++ later) written' p' n' kept' → (more : List ℕ) × (written' ≡ written ++ more)
told_begins later less told told' =
    let a = told.answered in
    let b = told'.answered in
    answers_begin (first_twins a b) a.transcript b.transcript less (told.rest ++ later) told'.rest
    (sym (append_assoc a.lines told.rest later) ∙ ap (λ (l : List ℕ). l ++ later) (sym a.all) ∙ b.all)

-- Annex 12.26: two hosts that have read the same whole input have written the same bytes
pub same_output : {read written written' : List ℕ} → ToldAll read written → ToldAll read written' → written ≡ written'
same_output {read} {written} {written'} told told' = go told.rest refl
  where
    a : AreAnswered read told.answers told.p told.n told.rest
    a = told.answered

    b : AreAnswered read told'.answers told'.p told'.n told'.rest
    b = told'.answered

    whole : a.lines ++ told.rest ≡ b.lines ++ told'.rest
    whole = sym a.all ∙ b.all

    counts : told.n ≡ told'.n
    counts =
        omega (
          arith,
          ends_counted a.transcript,
          ends_counted b.transcript,
          ends_none told.rest told.no_end,
          ends_none told'.rest told'.no_end,
          ends_append a.lines told.rest,
          ends_append b.lines told'.rest,
          ap ends_in whole,
        )

    w : IsSameTranscript a.lines b.lines told.rest told'.rest told.answers told'.answers told.p told'.p
    w = same_transcript (first_twins a b) a.transcript b.transcript counts told.rest told'.rest whole

    go : (rest : List ℕ) → told.rest ≡ rest → written ≡ written'
    go [] nothing = told.nothing_left nothing ∙ w.answers_same ∙ sym (told'.nothing_left (sym w.rest_same ∙ nothing))
    go (x ∷ rest) some =
        let left : told.rest ≡ [] → ⊥ = λ nothing. not_nil (sym some ∙ nothing) in
        let (answer, (after, (is, written_is))) = told.last_line left in
        let (answer', (after', (is', written_is'))) = told'.last_line (λ nothing. left (w.rest_same ∙ nothing)) in
        let last = same_answer w.twins (ap (λ (k : ℕ). k + 1) counts) w.rest_same is is' in
        written_is ∙ (λ i. w.answers_same i ++ last.0 i) ∙ sym written_is'
      where
        not_nil : (x ∷ rest) ≡ [] → ⊥
        not_nil e = cons≢nil e
