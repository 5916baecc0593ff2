-- `planner::slots::serve_sound` meets its contract: after k turns the first k slots have been served in the table, which is all that has changed,
-- and their periods noted, so the moves by these periods are the queue's half.
use Rattle.std.proofs.Common.{◌≡◌}
use Rattle.planner.proofs.Facts.Serving.{Serving, with_streams}
use Rattle.planner.proofs.slots.serve_sound.Given as goal

abbrev pub invariant-loop-k : goal.invariant-loop-k
invariant-loop-k l =
    record { kept : l.p ≡ with_streams l.initial.p l.p.table.streams; serving : Serving l.initial.p l.start l.k l.p.table.streams l.periods }
