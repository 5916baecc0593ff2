use Rattle.std.proofs.Common.{length-append}
use Rattle.std.proofs.lemmas.Slice.Zip.{zip_turn}
use Rattle.places.specs.Facts.Soundness.{least_more, least_free}
use Rattle.places.proofs.Places.least_key.Goals as goal

pub loop-id-preserved-then-id-gt0 : goal.loop-id-preserved-then-id-gt0
loop-id-preserved-then-id-gt0 c =
    let turn = zip_turn c.args.self.ids.now c.args.self.keys.now _ _ _ c.next.new.self _ (cc) (cc) c.loop-id.yielded_by _ c.in-Some.is c.next.ensures.steps in
    rw (length-append c.loop-id.yielded, c.min-least.ensures, turn.3 0) (least_more c.loop-id.invariant (rw (turn.2 0) at c.if-id-gt0.true))

pub loop-id-preserved : goal.loop-id-preserved
loop-id-preserved c =
    let turn = zip_turn c.args.self.ids.now c.args.self.keys.now _ _ _ c.next.new.self _ (cc) (cc) c.loop-id.yielded_by _ c.in-Some.is c.next.ensures.steps in
    rw (length-append c.loop-id.yielded) (least_free c.loop-id.invariant (rw (turn.2 0) at c.if-id-gt0.false))
