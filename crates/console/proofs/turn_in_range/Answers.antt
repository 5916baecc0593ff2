-- `console::turn_in_range` meets its contract: where there is room for another answer, every whole line is answered, and more may be read.
use native.Mathlib.Omega.{arith}
use Rattle.std.proofs.lemmas.Grind.{common_steps}
use Rattle.console.specs.Facts.Session.{stayed_turned}
use Rattle.console.proofs.turn_in_range.Goals as goal

pub returns-then-not-is_written : goal.returns-then-not-is_written
returns-then-not-is_written g c = stayed_turned c.answer_lines_in_range-answered.ensures c.handed_over-session.ensures _ (λ ended. grind (arith, common_steps))

pub returns-then-room-lt-ROOM : goal.returns-then-room-lt-ROOM
returns-then-room-lt-ROOM g c = stayed_turned c.answer_lines_in_range-answered.ensures c.handed_over-session.ensures _ (λ ended. grind (arith, common_steps))
