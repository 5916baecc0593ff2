-- A script run from memory is answered as by the program that reads it.
use Rattle.std.specs.Prelude.{◌≡◌, refl, ◌⊎◌, List, [], ◌++◌, ℕ, ◌+◌, ◌≤◌, ◌<◌, length, take, drop}
use Rattle.std.proofs.Common.{sym, ap, subst, ◌∙◌, inl, inr, lt_irrefl, arith, length-drop, drop_of_length-le}
use Rattle.std.proofs.Math.Path.{subst⁻¹}
use Rattle.std.proofs.Math.Decide.{dec_lt, ℕ_discrete}
use Rattle.state.specs.Open.{zeros, IsFresh}
use Rattle.state.specs.declared.Planner.{Planner}
use Rattle.command.specs.Lines.{IsLineEnd}
use Rattle.command.specs.Puts.{room}
use Rattle.command.specs.Script.{IsScript}
use Rattle.command.proofs.Facts.Puts.{put_written}
use Rattle.command.specs.declared.lines.Reached.{Reached}
use Rattle.console.specs.Transcript.{HasNoEnd, Told, ToldAll}
use Rattle.console.specs.Transcript.Transcript.{none}
use Rattle.console.specs.Facts.LineEnds.{rest_no_end}
use Rattle.console.specs.Facts.Transcript.{step_answer, run_told, none_left, last_told}
use Rattle.console.specs.Facts.SameTranscripts.{same_output}

-- at the beginning nothing is told
begun : (script : List ℕ) (p : Planner) (n from : ℕ) → IsFresh zeros 0 p → n ≡ 0 → from ≡ 0 → Told script [] p n (drop from script)
begun script p n from closed no_line at_first =
    subst⁻¹ (λ (k : ℕ). Told script [] p k (drop from script)) no_line
    (subst⁻¹ (λ (k : ℕ). Told script [] p 0 (drop k script)) at_first
    (record {
      rest = script;
      answered = record { first = p; closed = closed; lines = []; all = refl; transcript = none };
      stands = inl refl;
    }))

module _ {script before after : List ℕ} {r : ℕ} (is : IsScript script before after r) (free : r + room ≤ length before) where
  abbrev s : Reached
  s = is.begins

  abbrev t : Reached
  t = is.reached

  -- the whole lines are told
  lines_told : (length is.middle ≡ length before) × Told script (take t.end is.middle) t.planner t.number (drop t.from script)
  lines_told =
      run_told is.lines.reaches is.beginning.end is.lines.in_buffer script []
      (begun script s.planner s.number s.from is.beginning.closed is.beginning.number is.beginning.from)

  -- the run did not stop for want of room
  had_room : t.end + room ≤ length is.middle
  had_room = go (dec_lt (length is.middle) (t.end + room))
    where
      go : Dec (length is.middle < t.end + room) → t.end + room ≤ length is.middle
      go (no free) = omega arith
      go (yes full) =
          let same : is.ended.end ≡ t.end = ap (λ (x : Reached). x.end) (is.last.no_room full).0 in
          absurd (lt_irrefl 0 (omega (arith, is.written, lines_told.0)))

  no_line_left : HasNoEnd (drop t.from script)
  no_line_left = go is.lines.stopped
    where
      go : IsLineEnd script t.from (length script) ⊎ (length before < t.end + room) → HasNoEnd (drop t.from script)
      go (inl line_end) = rest_no_end script t.from line_end
      go (inr full) = absurd (lt_irrefl 0 (omega (arith, had_room, lines_told.0)))

  -- Annex 11.24, 12.27: a script that had room is all told, and what was written is its answers
  pub script_told : ToldAll script (take r after)
  script_told = go (ℕ_discrete t.from (length script))
    where
      go : Dec (t.from ≡ length script) → ToldAll script (take r after)
      go (yes all) =
          let (same, untouched) = is.last.nothing_left all in
          let end : r ≡ t.end = is.written ∙ ap (λ (x : Reached). x.end) same in
          let text : take t.end is.middle ≡ take r after = λ i. take (sym end i) (sym untouched i) in
          let nothing : drop t.from script ≡ [] = drop_of_length-le script {i = t.from} (omega (arith, all)) in
          subst (ToldAll script) text (none_left (subst (Told script (take t.end is.middle) t.planner t.number) nothing lines_told.1))
      go (no some) =
          let (step, (last, ended_is)) = is.last.last_line some had_room in
          let end : r ≡ step.end = is.written ∙ ap (λ (x : Reached). x.end) ended_is in
          let text : take t.end is.middle ++ last.written.bytes ≡ take r after =
          sym (put_written last.written (omega (arith, had_room))) ∙ ap (λ (k : ℕ). take k after) (sym end) in
          subst (ToldAll script) text
          (last_told lines_told.1 no_line_left (λ nothing. some (ends nothing)) last.written.bytes step.planner (step_answer last))
        where
          ends : drop t.from script ≡ [] → t.from ≡ length script
          ends nothing = omega (arith, ap length nothing, length-drop t.from script, is.lines.in_input)

  -- Annex 12.27: so that run_script and a program that reads the script write the same bytes
  pub same_as_read : {written : List ℕ} → ToldAll script written → take r after ≡ written
  same_as_read told = same_output script_told told
