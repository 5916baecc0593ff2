use Rattle.queue.specs.Layout.Moves.{none_moved, can_move_next, one_more_moved}
use Rattle.queue.proofs.Queue.move_all_sound.Goals as goal

pub loop-k-init : goal.loop-k-init
loop-k-init c = none_moved _ _ _ _ c.requires

pub move_at_sound-requires : goal.move_at_sound-requires
move_at_sound-requires c = can_move_next _ _ _ _ c.requires _ c.loop-k-test.true _ c.loop-k.invariant

pub loop-k-preserved : goal.loop-k-preserved
loop-k-preserved c = one_more_moved _ _ _ _ c.requires _ c.loop-k-test.true _ c.loop-k.invariant _ c.move_at_sound.ensures
