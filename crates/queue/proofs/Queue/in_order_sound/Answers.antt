use Rattle.std.proofs.Common.{refl, le_trans}
use Rattle.std.proofs.lemmas.Bool.{some_since}
use Rattle.std.proofs.lemmas.Option.{MatchOption-at_some}
use Rattle.queue.specs.Layout.Laws.{entries_at_most}
use Rattle.queue.specs.Layout.InOrder.{none_met, one_left, one_more_met}
use Rattle.queue.proofs.Queue.in_order_sound.Goals as goal

pub loop-k-init : goal.loop-k-init
loop-k-init c =
    let are = c.places.ensures in
    let least = rw (are.0, are.1) at c.least_key-key.ensures in
    record {
      few = le_trans c.requires.1 (entries_at_most c.args.self.now c.requires.0);
      met = none_met _ c.requires.0 _ c.requires.1 c.least_key-key.result c.head_of-n.result _ refl refl least c.head_of-n.ensures;
    }

pub unwrap-n-requires : goal.unwrap-n-requires
unwrap-n-requires c =
    let found = c.following_sound in
    some_since found.result _ _ found.ensures (one_left _ c.requires.0 _ c.requires.1 _ _ _ _ c.loop-k.invariant.met c.loop-k-test.true)

pub loop-k-preserved : goal.loop-k-preserved
loop-k-preserved c =
    let first = MatchOption-at_some _ _ _ c.unwrap-n.ensures c.following_sound.ensures in
    record {
      few = c.loop-k.invariant.few;
      met = one_more_met _ c.requires.0 _ c.requires.1 _ _ _ _ c.loop-k.invariant.met c.loop-k-test.true _ first _ _ refl refl;
    }
