-- How what was told grows: by a line answered, by bytes read; and what may be cut from a line.
use Rattle.std.specs.Prelude.{◌≡◌, refl, ◌⊎◌, Option, Some, None, List, [], ◌∷◌, ◌++◌, ℕ, ◌+◌, ◌≤◌, ◌<◌, length, take, drop}
use Rattle.std.proofs.Common.{sym, ap, subst, ◌∙◌, inl, inr, append-nil, append_assoc, lt_irrefl, arith, length-append, take-append-drop, length-take-le, take_all, take_at}
use Rattle.std.proofs.Math.Decide.{dec_lt}
use Rattle.std.proofs.lemmas.List.{take-append-le}
use Rattle.state.specs.declared.Planner.{Planner}
use Rattle.command.specs.Commands.{Says}
use Rattle.command.proofs.Facts.Commands.{too_long}
use Rattle.command.proofs.Facts.Puts.{put_length, put_written}
use Rattle.command.specs.Step.{IsStep, IsAnswer}
use Rattle.command.specs.Runs.{part_of, Reaches}
use Rattle.command.specs.Runs.Reaches.{none as reached_none, one_more}
use Rattle.command.specs.declared.Command.{Command}
use Rattle.command.specs.declared.Command.TheVariants.{Open, Add, Remove, Round}
use Rattle.command.specs.declared.lines.Reached.{Reached}
use Rattle.command.specs.declared.step.Step.{Step}
use Rattle.console.specs.Transcript.{most_kept, HasNoEnd, IsCut, Told, ToldAll}
use Rattle.console.specs.Transcript.Transcript.{next}
use Rattle.console.specs.Facts.LineEnds.{no_end_first, no_end_second, no_end_both, before_the_end, split_line, line_no_end}

-- two lines of 64 bytes or more say the same: nothing
both_long : (line other : List ℕ) (c : Option Command) → most_kept ≤ length line → most_kept ≤ length other → Says line c → Says other c
both_long line other (Some (Open b f g t)) long too says = absurd (lt_irrefl 0 (omega (arith, says.short)))
both_long line other (Some (Add id s p d)) long too says = absurd (lt_irrefl 0 (omega (arith, says.short)))
both_long line other (Some (Remove id)) long too says = absurd (lt_irrefl 0 (omega (arith, says.short)))
both_long line other (Some Round) long too says = absurd (lt_irrefl 0 (omega (arith, says.short)))
both_long line other None long too says = too_long other (omega arith)

long_answer : {p after : Planner} {n : ℕ} {line other answer : List ℕ} → most_kept ≤ length line → most_kept ≤ length other
    → IsAnswer p n line answer after → IsAnswer p n other answer after
long_answer {line = line} {other = other} long too is =
    record {
      command = is.command;
      says = both_long line other is.command long too is.says;
      answered = is.answered;
      by_contract = is.by_contract;
      planner = is.planner;
      written = is.written;
    }

long_enough : (line more : List ℕ) → most_kept ≤ length line → most_kept ≤ length (take most_kept line ++ more)
long_enough line more long = omega (arith, length-append (take most_kept line) more, length-take-le most_kept line long)

-- one line more is answered
line_told : {read written : List ℕ} {p : Planner} {n : ℕ} (line more answer : List ℕ) (after : Planner)
    → HasNoEnd line → IsAnswer p (n + 1) line answer after → Told read written p n (line ++ (10 ∷ more)) → Told read (written ++ answer) after (n + 1) more
line_told {read} {written} {p} {n} line more answer after no_end is told = go told.stands
  where
    grown : (whole : List ℕ) → HasNoEnd whole → IsAnswer p (n + 1) whole answer after → told.rest ≡ whole ++ (10 ∷ more)
        → Told read (written ++ answer) after (n + 1) more
    grown whole none_there answers rest_is =
        let so_far = told.answered in
        record {
          rest = more;
          answered =
              record {
                first = so_far.first;
                closed = so_far.closed;
                lines = so_far.lines ++ (whole ++ (10 ∷ []));
                all = so_far.all ∙ ap (λ (l : List ℕ). so_far.lines ++ l) (rest_is ∙ sym (append_assoc whole (10 ∷ []) more))
                    ∙ sym (append_assoc so_far.lines (whole ++ (10 ∷ [])) more);
                transcript = next so_far.transcript whole answer after none_there answers;
              };
          stands = inl refl;
        }

    go : ((line ++ (10 ∷ more)) ≡ told.rest) ⊎ IsCut (line ++ (10 ∷ more)) told.rest → Told read (written ++ answer) after (n + 1) more
    go (inl same) = grown line no_end is (sym same)
    go (inr cut) =
        let short = take most_kept cut.line in
        let whole_no_end = subst HasNoEnd (sym (take-append-drop most_kept cut.line)) cut.no_end in
        let short_no_end : HasNoEnd short = no_end_first short (drop most_kept cut.line) whole_no_end in
        let (b, (line_is, more_is)) = before_the_end short cut.more line more short_no_end (sym cut.kept_is) in
        let b_no_end : HasNoEnd b = no_end_second short b (subst HasNoEnd line_is no_end) in
        let long : most_kept ≤ length line = subst (λ (l : List ℕ). most_kept ≤ length l) (sym line_is) (long_enough cut.line b cut.long) in
        let whole_long : most_kept ≤ length (cut.line ++ b) = omega (arith, length-append cut.line b, cut.long) in
        grown (cut.line ++ b) (no_end_both cut.line b cut.no_end b_no_end) (long_answer long whole_long is)
        (cut.rest_is ∙ ap (λ (l : List ℕ). cut.line ++ l) more_is ∙ sym (append_assoc cut.line b (10 ∷ more)))

-- bytes are read behind those kept
pub read_told : {read written : List ℕ} {p : Planner} {n : ℕ} {kept : List ℕ} (bytes : List ℕ) → Told read written p n kept
    → Told (read ++ bytes) written p n (kept ++ bytes)
read_told {kept = kept} bytes told =
    let so_far = told.answered in
    record {
      rest = told.rest ++ bytes;
      answered =
          record {
            first = so_far.first;
            closed = so_far.closed;
            lines = so_far.lines;
            all = ap (λ (l : List ℕ). l ++ bytes) so_far.all ∙ append_assoc so_far.lines told.rest bytes;
            transcript = so_far.transcript;
          };
      stands = go told.stands;
    }
  where
    go : (kept ≡ told.rest) ⊎ IsCut kept told.rest → ((kept ++ bytes) ≡ (told.rest ++ bytes)) ⊎ IsCut (kept ++ bytes) (told.rest ++ bytes)
    go (inl same) = inl (ap (λ (l : List ℕ). l ++ bytes) same)
    go (inr cut) =
        inr
        (record {
          line = cut.line;
          more = cut.more ++ bytes;
          long = cut.long;
          no_end = cut.no_end;
          kept_is = ap (λ (l : List ℕ). l ++ bytes) cut.kept_is ∙ append_assoc (take most_kept cut.line) cut.more bytes;
          rest_is = ap (λ (l : List ℕ). l ++ bytes) cut.rest_is ∙ append_assoc cut.line cut.more bytes;
        })

-- where no line end is left, the first 64 bytes stand for all
pub cut_told : {read written : List ℕ} {p : Planner} {n : ℕ} {kept : List ℕ} → HasNoEnd kept → Told read written p n kept
    → Told read written p n (take most_kept kept)
cut_told {kept = kept} no_end told =
    record { rest = told.rest; answered = told.answered; stands = go told.stands }
  where
    whole_or_cut : (l : List ℕ) → HasNoEnd l → Dec (length l < most_kept) → (take most_kept l ≡ l) ⊎ IsCut (take most_kept l) l
    whole_or_cut l none_there (yes short) = inl (take_all most_kept l (omega arith))
    whole_or_cut l none_there (no long) =
        let kept_is = sym (append-nil (take most_kept l)) in
        inr (record { line = l; more = []; long = omega arith; no_end = none_there; kept_is = kept_is; rest_is = sym (append-nil l) })

    go : (kept ≡ told.rest) ⊎ IsCut kept told.rest → (take most_kept kept ≡ told.rest) ⊎ IsCut (take most_kept kept) told.rest
    go (inl same) = subst (λ (l : List ℕ). (take most_kept kept ≡ l) ⊎ IsCut (take most_kept kept) l) same
        (whole_or_cut kept no_end (dec_lt (length kept) most_kept))
    go (inr cut) =
        let short = take most_kept cut.line in
        let first_kept : take most_kept kept ≡ short =
        ap (take most_kept) cut.kept_is ∙ take_at short cut.more most_kept (length-take-le most_kept cut.line cut.long) in
        let more_no_end : HasNoEnd cut.more = no_end_second short cut.more (subst HasNoEnd cut.kept_is no_end) in
        inr
        (record {
          line = cut.line ++ cut.more;
          more = [];
          long = omega (arith, length-append cut.line cut.more, cut.long);
          no_end = no_end_both cut.line cut.more cut.no_end more_no_end;
          kept_is = first_kept ∙ sym (take-append-le most_kept cut.line cut.more cut.long)
              ∙ sym (append-nil (take most_kept (cut.line ++ cut.more)));
          rest_is = cut.rest_is ∙ sym (append-nil (cut.line ++ cut.more));
        })

-- what a step does is an answer, put behind what was written
module _ {p : Planner} {number : ℕ} {line before after : List ℕ} {at : ℕ} {r : Step} (is : IsStep p number line before after at r) where
  -- the bytes that a step puts are the answer to its line, and its planner is the one that the answer leaves
  pub step_answer : IsAnswer p number line is.written.bytes r.planner
  step_answer = is.written.property

-- lines that were run, from an empty output on, are told, and the output keeps its length
pub run_told : {bytes out : List ℕ} {s t : Reached} {after : List ℕ} → Reaches bytes s out t after → s.end ≡ 0 → t.end ≤ length out → (read written : List ℕ)
    → Told read written s.planner s.number (drop s.from bytes)
    → (length after ≡ length out) × Told read (written ++ take t.end after) t.planner t.number (drop t.from bytes)
run_told {bytes} {out} {s = s} reached_none empty within read written told =
    let nothing : written ≡ written ++ take s.end out = sym (append-nil written) ∙ ap (λ (k : ℕ). written ++ take k out) (sym empty) in
    (refl, subst (λ (l : List ℕ). Told read l s.planner s.number (drop s.from bytes)) nothing told)
run_told {bytes} {out} {s = s} (one_more {t} {written = mid} reaches to line_end inside room after r is) empty within read written told =
    let earlier : t.end ≤ r.end = omega (arith, is.written.ends) in
    let (same, so_far) = run_told reaches empty (omega (arith, within, earlier)) read written told in
    let line = part_of bytes t.from to in
    let rest = drop (to + 1) bytes in
    let answer = is.written.bytes in
    let cut_off = split_line bytes t.from to line_end inside in
    let split = subst (Told read (written ++ take t.end mid) t.planner t.number) cut_off so_far in
    let grown = line_told line rest answer r.planner (line_no_end bytes t.from to line_end) (step_answer is) split in
    let place : t.end ≤ length mid = omega (arith, same, within, earlier) in
    let behind = append_assoc written (take t.end mid) answer ∙ ap (λ (l : List ℕ). written ++ l) (sym (put_written is.written place)) in (
      put_length is.written (omega (arith, same, within)) ∙ same,
      subst (λ (l : List ℕ). Told read l r.planner (t.number + 1) rest) behind grown,
    )

-- what is left without a line end is a last line, or nothing
pub none_left : {read written : List ℕ} {p : Planner} {n : ℕ} → Told read written p n [] → ToldAll read written
none_left {read} {written} {p} {n} told = go told.stands
  where
    go : ([] ≡ told.rest) ⊎ IsCut [] told.rest → ToldAll read written
    go (inl same) =
        record {
          rest = told.rest;
          no_end = subst HasNoEnd same (λ k low within ends. lt_irrefl 0 (omega (arith, within)));
          p = p;
          n = n;
          answers = written;
          answered = told.answered;
          nothing_left = λ _. refl;
          last_line = λ some. absurd (some (sym same));
        }
    go (inr cut) =
        let long = length-append (take most_kept cut.line) cut.more in
        absurd (lt_irrefl 0 (omega (arith, ap length cut.kept_is, long, length-take-le most_kept cut.line cut.long)))

module _ {read written : List ℕ} {p : Planner} {n : ℕ} {kept : List ℕ} (told : Told read written p n kept) (no_end : HasNoEnd kept) (some : kept ≡ [] → ⊥) where
  -- bytes left without a line end, at least one, are the last line: with its answer all that was read is answered
  pub last_told : (answer : List ℕ) (after : Planner) → IsAnswer p (n + 1) kept answer after → ToldAll read (written ++ answer)
  last_told answer after is = go told.stands
    where
      ended : HasNoEnd told.rest → (told.rest ≡ [] → ⊥) → IsAnswer p (n + 1) told.rest answer after → ToldAll read (written ++ answer)
      ended none_there left answers =
          record {
            rest = told.rest;
            no_end = none_there;
            p = p;
            n = n;
            answers = written;
            answered = told.answered;
            nothing_left = λ nothing. absurd (left nothing);
            last_line = λ _. (answer, (after, (answers, refl)));
          }

      go : (kept ≡ told.rest) ⊎ IsCut kept told.rest → ToldAll read (written ++ answer)
      go (inl same) = ended (subst HasNoEnd same no_end) (λ nothing. some (same ∙ nothing)) (subst (λ (l : List ℕ). IsAnswer p (n + 1) l answer after) same is)
      go (inr cut) =
          let more_no_end : HasNoEnd cut.more = no_end_second (take most_kept cut.line) cut.more (subst HasNoEnd cut.kept_is no_end) in
          let rest_long : most_kept ≤ length told.rest = omega (arith, ap length cut.rest_is, length-append cut.line cut.more, cut.long) in
          let long = subst (λ (l : List ℕ). most_kept ≤ length l) (sym cut.kept_is) (long_enough cut.line cut.more cut.long) in
          ended (subst HasNoEnd (sym cut.rest_is) (no_end_both cut.line cut.more cut.no_end more_no_end))
          (λ nothing. lt_irrefl 0 (omega (arith, ap length nothing)))
          (long_answer long rest_long is)
