use mathlib.Core.List.{List, head-eq_of_cons-eq}
use Prim.Native.Nat.{ℕ}
use Rattle.std.proofs.Common.{ap}
use Rattle.command.proofs.answers.held.Goals as goal

pub loop-id-init : goal.loop-id-init
loop-id-init c =
    let line = head-eq_of_cons-eq c.of_few-lines.ensures.its_lines in
    let numbers = rw (c.from.ensures, c.from-2.ensures) at (ap (λ (l : ℕ × List ℕ). l.1) line) in
    ((ap (λ (l : ℕ × List ℕ). l.0) line, c.of_few-lines.ensures.count), numbers)
