-- What holds after so many lines, and at the end.
use Rattle.std.specs.Prelude.{◌≡◌, refl, List, ℕ, ◌+◌, ◌-◌, ◌≤◌, ◌<◌, length, drop}
use Rattle.std.proofs.Common.{subst, ◌∙◌, inl, inr, lt_irrefl, arith, length-drop, take_all}
use Rattle.command.specs.Lines.{IsLineEnd}
use Rattle.command.specs.Step.{IsStep}
use Rattle.command.specs.Puts.{room}
use Rattle.command.proofs.Facts.Puts.{put_length}
use Rattle.command.specs.declared.lines.Reached.{Reached}
use Rattle.command.specs.declared.step.Step.{Step}
use Rattle.command.specs.Runs.{part_of, none, one_more, Reaches, CanRun, HasRun, HasRunLast}

-- what holds at the head of a turn
pub record Running (s : Reached) (bytes before after : List ℕ) (t : Reached) : Type 0 where
  pub reaches : Reaches bytes s before t after
  pub in_input : t.from ≤ length bytes
  pub in_buffer : t.end ≤ length before
  pub counts : t.number + s.from ≤ s.number + t.from
  pub long : length after ≡ length before

module _ {s : Reached} {bytes before : List ℕ} (can : CanRun s bytes before) where
  -- before the first line the run stands where it began, and nothing is written
  pub none_run : Running s bytes before before s
  none_run = record { reaches = none; in_input = can.in_input; in_buffer = can.in_buffer; counts = omega arith; long = refl }

  module _ {after : List ℕ} {t : Reached} (running : Running s bytes before after t) where
    -- while a byte of the input is left, the number of the next line fits 64 bits
    pub number_fits : t.from < length bytes → t.number + 1 < 18_446_744_073_709_551_616
    number_fits more = omega (arith, running.counts, can.counts)

    -- no whole line is left, or the buffer may be too short
    pub input_done : length bytes ≤ t.from → HasRun s bytes before after t
    input_done done =
        record {
          reaches = running.reaches;
          in_input = running.in_input;
          in_buffer = running.in_buffer;
          counts = running.counts;
          stopped = inl none_left;
        }
      where
        none_left : IsLineEnd bytes t.from (length bytes)
        none_left =
            record {
              after = running.in_input;
              within = omega arith;
              before = λ k on below _. lt_irrefl k (omega (arith, on, below, done));
              ends = λ inside. absurd (lt_irrefl (length bytes) inside);
            }

    module _ {to : ℕ} (line_end : IsLineEnd bytes t.from to) where
      -- where the next line's end is that of the input, no whole line is left, and the run is done
      pub no_line_left : to ≡ length bytes → HasRun s bytes before after t
      no_line_left last =
          record {
            reaches = running.reaches;
            in_input = running.in_input;
            in_buffer = running.in_buffer;
            counts = running.counts;
            stopped = inl (subst (IsLineEnd bytes t.from) last line_end);
          }

      -- where fewer than 1,430 places of the buffer are left, the run is done
      pub buffer_full : length after < t.end + room → HasRun s bytes before after t
      buffer_full full =
          record {
            reaches = running.reaches;
            in_input = running.in_input;
            in_buffer = running.in_buffer;
            counts = running.counts;
            stopped = inr (omega (arith, running.long, full));
          }

      -- one line more
      pub one_more_run : {later : List ℕ} {r : Step} → (to ≡ length bytes → ⊥) → t.end + room ≤ length after
          → IsStep t.planner (t.number + 1) (part_of bytes t.from to) after later t.end r
          → Running s bytes before later (record { planner = r.planner; number = t.number + 1; from = to + 1; end = r.end })
      one_more_run {later} {r} inside room is =
          let low : to < length bytes = below to (length bytes) line_end.within inside in
          record {
            reaches = one_more running.reaches to line_end low (omega (arith, room, running.long)) later r is;
            in_input = omega arith;
            in_buffer = omega (arith, is.in_room, running.long, room);
            counts = omega (arith, running.counts, line_end.after);
            long = put_length is.written (omega (arith, is.in_room, room)) ∙ running.long;
          }
        where
          below : (a b : ℕ) → a ≤ b → (a ≡ b → ⊥) → a < b
          below a b le other = omega arith

module _ {s : Reached} {bytes before : List ℕ} (can : CanRun s bytes before) where
  -- with nothing left behind the last line end, no line is run, and all stays as it was ..
  pub last_none : s.from ≡ length bytes → HasRunLast s bytes before before s
  last_none done =
      record {
        nothing_left = λ _. (refl, refl);
        no_room = λ _. (refl, refl);
        last_line = λ some. absurd (some done);
        in_buffer = can.in_buffer;
      }

  -- .. and likewise with fewer than 1,430 places of the buffer left
  pub last_waits : length before < s.end + room → HasRunLast s bytes before before s
  last_waits full =
      record {
        nothing_left = λ _. (refl, refl);
        no_room = λ _. (refl, refl);
        last_line = λ _ room. absurd (lt_irrefl (length before) (omega (arith, full, room)));
        in_buffer = can.in_buffer;
      }

  -- all bytes from a place on are the part up to the end
  pub last_answered : {after : List ℕ} {r : Step} → (s.from ≡ length bytes → ⊥) → s.end + room ≤ length before
      → IsStep s.planner (s.number + 1) (part_of bytes s.from (length bytes)) before after s.end r
      → HasRunLast s bytes before after (record { planner = r.planner; number = s.number + 1; from = length bytes; end = r.end })
  last_answered {after} {r} some room is =
      record {
        nothing_left = λ done. absurd (some done);
        no_room = λ full. absurd (lt_irrefl (length before) (omega (arith, full, room)));
        last_line = λ _ _. (r, (subst (λ (line : List ℕ). IsStep s.planner (s.number + 1) line before after s.end r) whole is, refl));
        in_buffer = omega (arith, is.in_room, room);
      }
    where
      whole : part_of bytes s.from (length bytes) ≡ drop s.from bytes
      whole = take_all (length bytes - s.from) (drop s.from bytes) (rw length-drop (omega arith))
