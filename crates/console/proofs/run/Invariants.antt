-- `console::run` keeps, between turns, that all it was delivered is answered up to what is at hand (`Going`).
use mathlib.Core.Path.{◌≡◌}
use Prim.Native.Nat.{◌-◌}
use lib.ListN.{length}
use Rattle.console.specs.Session.{buffer_places}
use Rattle.console.specs.Facts.Turns.{most_turns, Going}
use Rattle.console.proofs.run.Given as goal

abbrev pub invariant-loop-turns : goal.invariant-loop-turns
invariant-loop-turns g l =
    ((buffer_places ≡ length l.input) × (buffer_places ≡ length l.out)) × Going l.s l.input (most_turns - l._turns)
