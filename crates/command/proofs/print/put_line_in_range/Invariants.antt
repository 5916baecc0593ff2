-- `command::print::put_line_in_range` meets its contract: at the head of each turn the fields of the numbers before this one stand after the letter.
use Prim.Native.Nat.{◌*◌, ◌≤◌}
use lib.ListN.{length, take}
use Rattle.command.specs.Text.{IsFields}
use Rattle.command.specs.Puts.{IsPut}
use Rattle.command.proofs.print.put_line_in_range.Given as goal

-- where the loop begins, the letter stands in the first place
abbrev pub invariant-loop-number : goal.invariant-loop-number
invariant-loop-number l =
    IsPut (λ bytes. IsFields bytes (take l.number-index l.numbers) × (length bytes ≤ 21 * l.number-index)) l.initial.out l.out 1 l.written
