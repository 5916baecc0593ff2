-- Two runs of the same script write the same.
use Rattle.std.specs.Prelude.{◌≡◌, refl, ◌⊎◌, List, ◌++◌, ℕ, ◌+◌, ◌≤◌, ◌<◌, length, take, drop}
use Rattle.std.proofs.Common.{sym, ap, subst, ◌∙◌, inl, inr, lt_irrefl, arith}
use Rattle.std.proofs.Math.Decide.{dec_le, dec_lt, ℕ_discrete}
use Rattle.alike.specs.Twins.{AreTwins}
use Rattle.alike.proofs.Facts.Twins.{equal_are_twins, twins_back}
use Rattle.command.specs.Lines.{IsLineEnd}
use Rattle.command.specs.Puts.{room}
use Rattle.command.specs.Step.{IsStep}
use Rattle.command.specs.Runs.{part_of, Reaches, HasRun, HasRunLast}
use Rattle.command.specs.Runs.Reaches.{none, one_more}
use Rattle.command.specs.Script.{IsScript, IsSameOutput}
use Rattle.command.proofs.Facts.Puts.{put_written}
use Rattle.command.proofs.Facts.Inside.{run_length}
use Rattle.command.proofs.Facts.SameAnswers.{same_step}
use Rattle.command.specs.declared.lines.Reached.{Reached}
use Rattle.command.specs.declared.step.Step.{Step}

-- a line has one end
line_end_unique : {bytes : List ℕ} {from from' to to' : ℕ} → from ≡ from' → IsLineEnd bytes from to → IsLineEnd bytes from' to' → to ≡ to'
line_end_unique {bytes} {from} {from'} {to} {to'} same is is' = go (dec_lt to to') (dec_lt to' to)
  where
    go : Dec (to < to') → Dec (to' < to) → to ≡ to'
    go (yes before) _ = absurd (is'.before to (omega (arith, is.after)) before (is.ends (omega (arith, is'.within))))
    go (no _) (yes after) = absurd (is.before to' (omega (arith, is'.after)) after (is'.ends (omega (arith, is.within))))
    go (no not_before) (no not_after) = omega arith

-- Two runs, into buffers that may differ, have come equally far: twins, the same line, the same places, the same text.
pub record AreLevel (out out' : List ℕ) (t t' : Reached) (written written' : List ℕ) : Type 0 where
  pub twins : AreTwins t.planner t'.planner
  pub number : t.number ≡ t'.number
  pub from : t.from ≡ t'.from
  pub end : t.end ≡ t'.end
  pub text : take t.end written ≡ take t'.end written'
  pub buffer : out ≡ out' → written ≡ written'

level_back : {out out' w w' : List ℕ} {t t' : Reached} → AreLevel out out' t t' w w' → AreLevel out' out t' t w' w
level_back level =
    record {
      twins = twins_back level.twins;
      number = sym level.number;
      from = sym level.from;
      end = sym level.end;
      text = sym level.text;
      buffer = λ same. sym (level.buffer (sym same));
    }

-- line numbers grow in a run
number_grows : {bytes out : List ℕ} {s t : Reached} {w : List ℕ} → Reaches bytes s out t w → s.number ≤ t.number
number_grows {s = s} none = omega arith
number_grows (one_more run to line_end inside free after r is) = omega (arith, number_grows run)

-- one step more, from level runs
step_level : {out out' : List ℕ} {t t' : Reached} {w w' : List ℕ} → AreLevel out out' t t' w w' → {line line' : List ℕ} → line ≡ line'
    → t.end ≤ length w → t'.end ≤ length w' → (from from' : ℕ) → from ≡ from' → (after after' : List ℕ) (r r' : Step)
    → IsStep t.planner (t.number + 1) line w after t.end r → IsStep t'.planner (t'.number + 1) line' w' after' t'.end r'
    → AreLevel out out' (record { planner = r.planner; number = t.number + 1; from = from; end = r.end })
    (record { planner = r'.planner; number = t'.number + 1; from = from'; end = r'.end }) after after'
step_level level lines inside inside' from from' places after after' r r' is is' =
    let step = same_step level.twins (ap (λ (n : ℕ). n + 1) level.number) lines level.end is is' in
    record {
      twins = step.twins;
      number = ap (λ (n : ℕ). n + 1) level.number;
      from = places;
      end = step.end;
      text = put_written is.written inside ∙ (λ i. level.text i ++ step.bytes i) ∙ sym (put_written is'.written inside');
      buffer = λ same. step.buffer (level.buffer same);
    }

module _ {bytes out out' : List ℕ} {s s' : Reached} (begin : AreLevel out out' s s' out out') (long : length out ≡ length out') where
  -- after equally many lines two runs are level
  runs_level : {t t' : Reached} {w w' : List ℕ} → Reaches bytes s out t w → Reaches bytes s' out' t' w' → t.number ≡ t'.number
      → AreLevel out out' t t' w w'
  runs_level none none same = begin
  runs_level none (one_more run' to' line_end' inside' free' after' r' is') same =
      absurd (lt_irrefl 0 (omega (arith, number_grows run', begin.number)))
  runs_level (one_more run to line_end inside free after r is) none same = absurd (lt_irrefl 0 (omega (arith, number_grows run, begin.number)))
  runs_level (one_more {t} {written = w} run to line_end inside free after r is)
      (one_more {t = t'} {written = w'} run' to' line_end' inside' free' after' r' is') same =
      let level = runs_level run run' (omega arith) in
      let ends : to ≡ to' = line_end_unique level.from line_end line_end' in
      step_level level (λ i. part_of bytes (level.from i) (ends i)) (omega (arith, run_length run)) (omega (arith, run_length run'))
      (to + 1) (to' + 1) (ap (λ (n : ℕ). n + 1) ends) after after' r r' is is'

  -- where one has stopped, the other goes no further
  goes_no_further : {t t' : Reached} {w w' : List ℕ} → Reaches bytes s out t w → IsLineEnd bytes t.from (length bytes) ⊎ (length out < t.end + room)
      → Reaches bytes s' out' t' w' → t.number ≤ t'.number → t.number ≡ t'.number
  goes_no_further run stopped none less = omega (arith, number_grows run, begin.number)
  goes_no_further {t} {w = w} run stopped (one_more {t = t'} {written = w'} run' to' line_end' inside' free' after' r' is') less =
      go (dec_le t.number t'.number) (λ before. goes_no_further run stopped run' before)
    where
      halts : AreLevel out out' t t' w w' → IsLineEnd bytes t.from (length bytes) ⊎ (length out < t.end + room) → ⊥
      halts level (inl last) = lt_irrefl 0 (omega (arith, line_end_unique level.from last line_end'))
      halts level (inr full) = lt_irrefl 0 (omega (arith, level.end))

      go : Dec (t.number ≤ t'.number) → (t.number ≤ t'.number → t.number ≡ t'.number) → t.number ≡ t'.number + 1
      go (yes before) ih = absurd (halts (runs_level run run' (ih before)) stopped)
      go (no past) ih = omega arith

-- Two runs from the same beginning end level.
same_run : {bytes out out' w w' : List ℕ} {s s' t t' : Reached} → AreLevel out out' s s' out out' → length out ≡ length out'
    → HasRun s bytes out w t → HasRun s' bytes out' w' t' → AreLevel out out' t t' w w'
same_run {t = t} {t' = t'} begin long run run' =
    runs_level begin long run.reaches run'.reaches (go (dec_le t.number t'.number))
  where
    go : Dec (t.number ≤ t'.number) → t.number ≡ t'.number
    go (yes less) = goes_no_further begin long run.reaches run.stopped run'.reaches less
    go (no more) = sym (goes_no_further (level_back begin) (sym long) run'.reaches run'.stopped run.reaches (omega arith))

-- nothing more was run of either
unmoved : {out out' w w' after after' : List ℕ} {t t' r r' : Reached} → AreLevel out out' t t' w w' → (r ≡ t) × (after ≡ w) → (r' ≡ t') × (after' ≡ w')
    → AreLevel out out' r r' after after'
unmoved {out} {out'} {w} {w'} {after} {after'} {t} {t'} {r} {r'} level (e, f) (e', f') =
    subst (λ (x : Reached). AreLevel out out' x r' after after') (sym e)
    (subst (λ (x : Reached). AreLevel out out' t x after after') (sym e')
    (subst (λ (l : List ℕ). AreLevel out out' t t' l after') (sym f) (subst (λ (l : List ℕ). AreLevel out out' t t' w l) (sym f') level)))

-- and so with what is left behind the last line end
same_last : {bytes out out' w w' after after' : List ℕ} {t t' r r' : Reached} → AreLevel out out' t t' w w' → length w ≡ length w'
    → HasRunLast t bytes w after r → HasRunLast t' bytes w' after' r' → AreLevel out out' r r' after after'
same_last {bytes} {out} {out'} {w} {w'} {after} {after'} {t} {t'} {r} {r'} level long last last' =
    go (ℕ_discrete t.from (length bytes)) (dec_lt (length w) (t.end + room))
  where
    go : Dec (t.from ≡ length bytes) → Dec (length w < t.end + room) → AreLevel out out' r r' after after'
    go (yes done) _ = unmoved level (last.nothing_left done) (last'.nothing_left (sym level.from ∙ done))
    go (no some) (yes full) = unmoved level (last.no_room full) (last'.no_room (omega (arith, long, level.end)))
    go (no some) (no free) =
        let free' : t'.end + room ≤ length w' = omega (arith, long, level.end) in
        let (step, (is, r_is)) = last.last_line some (omega arith) in
        let (step', (is', r_is')) = last'.last_line (λ done. some (level.from ∙ done)) free' in
        let last_lines = ap (λ (n : ℕ). drop n bytes) level.from in
        unmoved (step_level level last_lines (omega arith) (omega arith) (length bytes) (length bytes) refl after after' step step' is is')
        (r_is, refl) (r_is', refl)

-- Annex 12.27: what `run_script` promises leaves nothing open
pub same_script : (script before before' after after' : List ℕ) (r r' : ℕ) → length before ≡ length before'
    → IsScript script before after r → IsScript script before' after' r' → IsSameOutput before before' after after' r r'
same_script script before before' after after' r r' as_long is is' =
    let one = is.beginning in
    let other = is'.beginning in
    let end : is.begins.end ≡ is'.begins.end = one.end ∙ sym other.end in
    let begin : AreLevel before before' is.begins is'.begins before before' =
    record {
      twins = equal_are_twins (one.closed.whole ∙ sym other.closed.whole);
      number = one.number ∙ sym other.number;
      from = one.from ∙ sym other.from;
      end = end;
      text = ap (λ (n : ℕ). take n before) one.end ∙ ap (λ (n : ℕ). take n before') (sym other.end);
      buffer = λ same. same;
    } in
    let lines = same_run begin as_long is.lines is'.lines in
    let long : length is.middle ≡ length is'.middle =
    run_length is.lines.reaches ∙ as_long ∙ sym (run_length is'.lines.reaches) in
    let ended = same_last lines long is.last is'.last in
    record {
      count = is.written ∙ ended.end ∙ sym is'.written;
      text = ap (λ (n : ℕ). take n after) is.written ∙ ended.text ∙ ap (λ (n : ℕ). take n after') (sym is'.written);
      buffer = ended.buffer;
    }
