-- `command::print::Lines::of_few` meets its contract: at the head of each turn the line has the numbers before this one.
use mathlib.Core.Path.{◌≡◌}
use lib.ListN.{take}
use Rattle.command.proofs.print.Lines.of_few.Given as goal

abbrev pub invariant-loop-number : goal.invariant-loop-number
invariant-loop-number l =
    ((l.lines.letter ≡ l.letter) × (l.lines.count ≡ l.number-index)) × (take l.lines.count l.lines.values ≡ take l.number-index l.numbers)
