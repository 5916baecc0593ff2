-- `command::answers::held` meets its contract: at the head of each turn 0, the start, n and the ids before this one are the line's numbers.
use mathlib.Core.Path.{◌≡◌}
use mathlib.Core.List.{◌∷◌}
use Prim.Native.Nat.{◌+◌}
use lib.ListN.{take}
use Rattle.command.specs.Text.{letter_R}
use Rattle.command.proofs.answers.held.Given as goal

abbrev pub invariant-loop-id : goal.invariant-loop-id
invariant-loop-id l =
    ((l.lines.letter ≡ letter_R) × (l.lines.count ≡ 3 + l.id-index)) × (take l.lines.count l.lines.values ≡ 0 ∷ l.start ∷ l.n ∷ take l.id-index l.ids)
