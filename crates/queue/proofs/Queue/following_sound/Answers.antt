use Rattle.std.proofs.Common.{arith}
use Rattle.queue.specs.Layout.Following.{next_follows, after_own, one_bucket_on, first_follows, come_round, none_follows, following_below}
use Rattle.queue.proofs.Queue.following_sound.Goals as goal

pub returns-then-on-lt-PLACES : goal.returns-then-on-lt-PLACES
returns-then-on-lt-PLACES c =
    let a = c.args in
    next_follows a.self.now c.requires.0 a.key a.n c.requires.1 c.next_of-on.result c.next_of-on.ensures c.if-on-lt-PLACES.true

pub loop-turn-init : goal.loop-turn-init
loop-turn-init c =
    let a = c.args in
    let on = c.next_of-on in
    after_own a.self.now c.requires.0 a.key a.n c.requires.1 on.result c.bucket_after-bucket.result c.bucket_of_key.result
    on.ensures c.if-on-lt-PLACES.false c.bucket_of_key.ensures c.bucket_after-bucket.ensures

pub overflow_add-bucket : goal.overflow_add-bucket
overflow_add-bucket c = omega (arith, following_below c.args.self.now c.requires.0 c.args.key c.args.n c.requires.1 _ _ c.loop-turn.invariant)

pub next_of-first-requires : goal.next_of-first-requires
next_of-first-requires c = omega (arith, following_below c.args.self.now c.requires.0 c.args.key c.args.n c.requires.1 _ _ c.loop-turn.invariant)

pub returns-then-key-self : goal.returns-then-key-self
returns-then-key-self c =
    let a = c.args in
    let first = c.next_of-first in
    first_follows a.self.now c.requires.0 a.key a.n c.requires.1 _ _ c.loop-turn.invariant first.result first.ensures c.if-first-lt-PLACES.true c.if-key-self.true

pub returns-then-first-lt-PLACES : goal.returns-then-first-lt-PLACES
returns-then-first-lt-PLACES c =
    let a = c.args in
    let first = c.next_of-first in
    come_round a.self.now c.requires.0 a.key a.n c.requires.1 _ _ c.loop-turn.invariant first.result first.ensures c.loop-turn.auto._turn c.if-first-lt-PLACES.true c.if-key-self.false

pub loop-turn-preserved : goal.loop-turn-preserved
loop-turn-preserved c =
    let a = c.args in
    let first = c.next_of-first in
    let next = c.bucket_after-bucket-in-loop-turn in
    one_bucket_on a.self.now c.requires.0 a.key a.n c.requires.1 _ _ c.loop-turn.invariant first.result first.ensures next.result
    c.if-first-lt-PLACES.false c.loop-turn-test.true next.ensures

pub returns : goal.returns
returns c = none_follows c.args.self.now c.requires.0 c.args.key c.args.n c.requires.1 _ _ c.loop-turn.invariant c.loop-turn-test.false
