-- `planner::slots::choose_sound` meets its contract: after i entries the released ones among them have been taken, each beside its row and its place.
use Rattle.state.specs.Content.{content, slots_of}
use Rattle.planner.proofs.Facts.Choosing.{Visited}
use Rattle.planner.proofs.slots.choose_sound.Given as goal

abbrev pub invariant-loop-i : goal.invariant-loop-i
invariant-loop-i l = Visited l.p.queue l.p.table (slots_of (content l.p)) l.start l.i l.chosen
