use Rattle.basics.specs.Facts.Decides.{decides_no, decides_yes}
use Rattle.table.specs.Facts.RangeTests.{none_followed, one_more_followed, all_followed, next_follows}
use Rattle.table.proofs.Table.in_range.Goals as goal

pub loop-stream-init : goal.loop-stream-init
loop-stream-init c = none_followed _ _ _

pub returns-then-not-can_follow : goal.returns-then-not-can_follow
returns-then-not-can_follow c =
    let here = c.records-stream-items.ensures in
    let loop = c.loop-stream in
    decides_no (λ holds. c.can_follow.ensures.if_false c.if-not-can_follow.true
    (next_follows _ _ _ _ _ (rw here holds.records) (rw here holds.near) c.loop-stream-test.true loop.invariant))

pub loop-stream-preserved : goal.loop-stream-preserved
loop-stream-preserved c = one_more_followed _ _ _ _ _ c.loop-stream.invariant (c.can_follow.ensures.if_true c.if-not-can_follow.false)

pub returns : goal.returns
returns c =
    let all = rw c.records-stream-items.ensures at (all_followed _ _ _ _ _ c.loop-stream-test.false c.loop-stream.invariant) in
    decides_yes (record { count = c.if-self-gt-PLACES.false; records = all.0; near = all.1 })
