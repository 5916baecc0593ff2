-- Why each part of the command program keeps what was told.
use Rattle.std.specs.Prelude.{◌≡◌, refl, Option, Some, None, IfSome, ◌⊎◌, List, [], ◌++◌, ℕ, ◌+◌, ◌-◌, ◌≤◌, ◌<◌, length, take, drop}
use Rattle.std.specs.Option.{unwrap_or}
use Rattle.std.proofs.Common.{sym, ap, subst, ◌∙◌, inl, inr, append-nil, lt_irrefl, arith, length-take, length-drop, take-append-drop, drop_of_length-le, length-take-le, take_at, take-take}
use Rattle.std.proofs.Math.Path.{subst⁻¹}
use Rattle.std.proofs.Math.Decide.{ℕ_discrete}
use Rattle.command.specs.Puts.{room}
use Rattle.command.specs.Lines.{IsLineEnd}
use Rattle.command.specs.Runs.{CanRun, HasRun, HasRunLast}
use Rattle.command.proofs.Facts.Puts.{put_written}
use Rattle.command.specs.declared.lines.Reached.{Reached}
use Rattle.console.specs.Transcript.{most_kept, HasNoEnd, Told, ToldAll}
use Rattle.console.specs.Facts.LineEnds.{no_end_first, rest_no_end}
use Rattle.console.specs.Facts.Moves.{first_kept}
use Rattle.console.specs.Facts.Transcript.{read_told, cut_told, step_answer, run_told, none_left, last_told}
use Rattle.console.specs.Session.{buffer_places, at_hand, HasTold, InBounds}
use Rattle.console.specs.Needs.{CanAnswer, HasAnswered, HasAnsweredLast}
use Rattle.console.specs.Session.{CanKeep, CanRefill, delivered, IsTurned}
use Rattle.console.specs.Needs.{handed_over, IsMoved, IsKept, IsRefilled}
use Rattle.console.specs.declared.Session.{Session}
use Rattle.console.specs.declared.Turn.{Turn}
use Rattle.console.specs.declared.Outcome.{Outcome}
use Rattle.console.specs.declared.Outcome.TheVariants.{Ended}

-- the bytes that a session has, answered or not
abbrev had : Session → List ℕ → List ℕ
had s input = take s.have input

module _ {s : Session} {input out : List ℕ} (can : CanAnswer s input out) where
  -- the input has all the bytes that the session says it has
  pub all_there : length (had s input) ≡ s.have
  all_there = length-take-le s.have input (omega (arith, can.bounds.have, can.places))

  -- what answering relies on is what running lines does
  pub can_run : CanRun s.reached (had s input) out
  can_run =
      record {
        in_input = omega (arith, all_there, can.bounds.from);
        in_buffer = omega (arith, can.empty);
        counts = omega (arith, all_there, can.number, can.bounds.have);
      }

  module _ {after : List ℕ} {r : Reached} where
    -- lines that were run are answered
    pub ran_answered : HasRun s.reached (had s input) out after r → HasAnswered s input after (record { reached = r; have = s.have })
    ran_answered ran =
        record {
          told = λ read written told. (run_told ran.reaches can.empty ran.in_buffer read written told).1;
          all_or_full = go ran.stopped;
          bounds = record { from = omega (arith, all_there, ran.in_input); have = can.bounds.have };
          end = omega (arith, ran.in_buffer, can.room);
          number = omega (arith, ran.counts, ran.in_input, all_there, can.bounds.have);
        }
      where
        go : IsLineEnd (had s input) r.from (length (had s input)) ⊎ (length out < r.end + room)
            → HasNoEnd (drop r.from (had s input)) ⊎ (buffer_places < r.end + room)
        go (inl line_end) = inl (rest_no_end (had s input) r.from line_end)
        go (inr full) = inr (omega (arith, full, can.room))

    -- so is the last line
    pub ran_last : HasNoEnd (at_hand s input) → HasRunLast s.reached (had s input) out after r
        → HasAnsweredLast s input after (record { reached = r; have = s.have })
    ran_last no_end ran =
        record {
          told = λ read written told. go read written told (ℕ_discrete s.reached.from (length (had s input)));
          end = omega (arith, ran.in_buffer, can.room);
        }
      where
        go : (read written : List ℕ) → HasTold read written s input → Dec (s.reached.from ≡ length (had s input))
            → ToldAll read (written ++ take r.end after)
        go read written told (yes all) =
            let same : r ≡ s.reached = (ran.nothing_left all).0 in
            let nothing_written : take r.end after ≡ [] = ap (λ (k : ℕ). take k after) (ap (λ (t : Reached). t.end) same ∙ can.empty) in
            let nothing_left : at_hand s input ≡ [] = drop_of_length-le (had s input) {i = s.reached.from} (omega (arith, all)) in
            subst (ToldAll read) (sym (append-nil written) ∙ ap (λ (l : List ℕ). written ++ l) (sym nothing_written))
            (none_left (subst (Told read written s.reached.planner s.reached.number) nothing_left told))
        go read written told (no some) =
            let (step, (is, r_is)) = ran.last_line some (omega (arith, can.empty, can.room)) in
            let bytes = is.written.bytes in
            let put : take r.end after ≡ bytes =
            ap (λ (t : Reached). take t.end after) r_is ∙ put_written is.written (omega (arith, can.empty, can.room))
            ∙ ap (λ (k : ℕ). take k out ++ bytes) can.empty in
            subst (ToldAll read) (ap (λ (l : List ℕ). written ++ l) (sym put))
            (last_told told no_end (λ nothing. some (ends nothing)) bytes step.planner (step_answer is))
          where
            ends : at_hand s input ≡ [] → s.reached.from ≡ length (had s input)
            ends nothing = omega (arith, ap length nothing, length-drop s.reached.from (had s input), all_there, can.bounds.from)

-- a session whose first k bytes at hand stand at the front
abbrev moved_up : Session → ℕ → Session
moved_up s k = record { reached = record { planner = s.reached.planner; number = s.reached.number; from = 0; end = s.reached.end }; have = k }

module _ {s : Session} {before after : List ℕ} {k : ℕ} (can : CanKeep s before) (is : IsMoved s.reached.from s.have before after k) where
  -- the first 64 of the bytes at hand stand at the front
  front_is : take k after ≡ take most_kept (at_hand s before)
  front_is =
      let from = s.reached.from in
      let long : length (take k (drop from before)) ≡ k =
      length-take-le k (drop from before) (omega (arith, is.count, length-drop from before, can.bounds.from, can.bounds.have, can.places)) in
      ap (take k) is.content ∙ take_at (take k (drop from before)) (drop k before) k long ∙ ap (λ (n : ℕ). take n (drop from before)) is.count
      ∙ sym (first_kept before from s.have can.bounds.from (omega (arith, can.bounds.have, can.places)))

  -- the bytes at hand, moved to the front, at most 64 of them, stand for what was at hand
  pub moved_kept : IsKept s before after (moved_up s k)
  moved_kept =
      record {
        told = λ read written told. subst⁻¹ (Told read written s.reached.planner s.reached.number) front_is (cut_told can.no_end told);
        no_end = subst⁻¹ HasNoEnd front_is
            (no_end_first (take most_kept (at_hand s before)) (drop most_kept (at_hand s before))
            (subst⁻¹ HasNoEnd (take-append-drop most_kept (at_hand s before)) can.no_end));
        from = refl;
        have = omega (arith, is.count);
        end = refl;
        number = refl;
      }

-- what a read delivers stands behind what was kept, which it leaves as it is
module _ {s kept : Session} {before mid : List ℕ} (is : IsKept s before mid kept) (can : CanRefill s before) where
  module _ (after : List ℕ) (same : had kept after ≡ had kept mid) (wrote got : ℕ) (outcome : Outcome)
      (few : kept.have + got ≤ buffer_places) (at_end : outcome ≡ Ended → got ≡ 0) where
    abbrev next : Turn
    next = record { session = record { reached = kept.reached; have = kept.have + got }; wrote = wrote; got = got; outcome = outcome }

    behind : at_hand next.session after ≡ at_hand kept mid ++ delivered next after
    behind =
        let all = take (kept.have + got) after in
        let first : take kept.have all ≡ had kept mid = take-take kept.have (kept.have + got) after (omega arith) ∙ same in
        let from_zero : (l : List ℕ) → drop kept.reached.from l ≡ l = λ l. ap (λ (n : ℕ). drop n l) is.from in
        let back : kept.have ≡ kept.have + got - got = omega arith in
        from_zero all ∙ sym (take-append-drop kept.have all)
        ∙ ap (λ (l : List ℕ). l ++ drop kept.have all) (first ∙ sym (from_zero (had kept mid)))
        ∙ ap (λ (n : ℕ). at_hand kept mid ++ drop n all) back

    -- what was kept with `got` bytes read behind it is the input refilled, if none were got where it has ended
    pub kept_refilled : IsRefilled s wrote before after next
    kept_refilled =
        record {
          told = λ read written told.
              subst⁻¹ (Told (read ++ delivered next after) written kept.reached.planner kept.reached.number) behind
              (read_told (delivered next after) (is.told read written told));
          wrote_is = refl;
          bounds = record { from = omega (arith, is.from); have = few };
          empty = is.end ∙ can.empty;
          number = is.number;
          at_end = λ end. subst HasNoEnd (sym (nothing (at_end end))) is.no_end;
        }
      where
        nothing : got ≡ 0 → at_hand next.session after ≡ at_hand kept mid
        nothing none_got =
            let no_more : kept.have + got ≡ kept.have = omega (arith, none_got) in
            ap (λ (n : ℕ). drop kept.reached.from (take n after)) no_more ∙ ap (drop kept.reached.from) same

-- bytes at the start of a part, counted from the whole
pub within_part : (l : List ℕ) (from n got : ℕ) → got ≤ length (take n (drop from l)) → from ≤ buffer_places → length l ≡ buffer_places
    → from + got ≤ buffer_places
within_part l from n got few inside long = omega (arith, length-take n (drop from l), length-drop from l)

-- a read that may have failed delivers no more than it has room for
pub got_few : (read : Option ℕ) (room : ℕ) → IfSome read (λ n. n ≤ room) → unwrap_or read 0 ≤ room
got_few (Some n) room few = few
got_few None room few = omega arith

module _ {s answered session : Session} {before out : List ℕ} (is : HasAnswered s before out answered) (over : session ≡ handed_over answered) where
  -- where there is room for another answer, no whole line is left
  pub can_refill : length before ≡ buffer_places → room ≤ buffer_places - answered.reached.end → CanRefill session before
  can_refill places enough =
      subst⁻¹ (λ (x : Session). CanRefill x before) over
      (record {
        can_keep = record { bounds = record { from = is.bounds.from; have = is.bounds.have }; no_end = go is.all_or_full; places = places };
        empty = refl;
      })
    where
      go : HasNoEnd (at_hand answered before) ⊎ (buffer_places < answered.reached.end + room) → HasNoEnd (at_hand answered before)
      go (inl no_end) = no_end
      go (inr full) = absurd (lt_irrefl 0 (omega (arith, full, enough, is.end)))

  still_told : (read written : List ℕ) → HasTold read written s before → HasTold read (written ++ take answered.reached.end out) session before
  still_told read written told =
      subst⁻¹ (λ (x : Session). HasTold read (written ++ take answered.reached.end out) x before) over (is.told read written told)

  few_lines : session.reached.number ≤ s.reached.number + buffer_places
  few_lines = omega (arith, ap (λ (x : Session). x.reached.number) over, is.number)

  -- a turn that has read
  pub refilled_turned : {after : List ℕ} {t : Turn} → IsRefilled session answered.reached.end before after t → IsTurned s before after out t
  refilled_turned {after} {t} filled =
      record {
        told = λ read written told.
            subst⁻¹ (λ (k : ℕ). HasTold (read ++ delivered t after) (written ++ take k out) t.session after) filled.wrote_is
            (filled.told read (written ++ take answered.reached.end out) (still_told read written told));
        bounds = filled.bounds;
        empty = filled.empty;
        number = omega (arith, filled.number, few_lines);
        at_end = filled.at_end;
      }

  -- a turn that has not
  pub stayed_turned : (outcome : Outcome) → (outcome ≡ Ended → ⊥)
      → IsTurned s before before out (record { session = session; wrote = answered.reached.end; got = 0; outcome = outcome })
  stayed_turned outcome goes_on =
      record {
        told = λ read written told.
            subst⁻¹ (λ (l : List ℕ). HasTold l (written ++ take answered.reached.end out) session before)
            (ap (λ (l : List ℕ). read ++ l) nothing ∙ append-nil read)
            (still_told read written told);
        bounds = subst⁻¹ InBounds over (record { from = is.bounds.from; have = is.bounds.have });
        empty = ap (λ (x : Session). x.reached.end) over;
        number = few_lines;
        at_end = λ ended. absurd (goes_on ended);
      }
    where
      nothing : drop (session.have - 0) (take session.have before) ≡ []
      nothing = drop_of_length-le (take session.have before) {i = session.have - 0} (omega (arith, length-take session.have before))
