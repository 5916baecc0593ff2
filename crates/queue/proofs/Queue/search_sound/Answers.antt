use Rattle.std.proofs.Common.{refl, arith}
use Rattle.places.specs.Lent.{as_entry}
use Rattle.queue.specs.Layout.Walk.{walk_falls}
use Rattle.queue.specs.Layout.Buckets.{bucket_below, at_first_bucket, at_first_node, at_next_node, at_next_bucket, left_at_node, left_with_none}
use Rattle.queue.proofs.Queue.search_sound.Goals as goal

pub search-init : goal.search-init
search-init c =
    let a = c.args in
    record { at = at_first_bucket a.self.now c.requires.0 a.from (as_entry a.point) c.requires.1 _ c.bucket_of_key-bucket.ensures; none = refl }

pub overflow_add-bucket : goal.overflow_add-bucket
overflow_add-bucket c =
    let a = c.args in
    omega (arith, bucket_below a.self.now c.requires.0 a.from (as_entry a.point) c.requires.1 _ _ c.search.invariant.at)

pub next_of-n-requires : goal.next_of-n-requires
next_of-n-requires c =
    let a = c.args in
    omega (arith, bucket_below a.self.now c.requires.0 a.from (as_entry a.point) c.requires.1 _ _ c.search.invariant.at)

pub loop-n-init : goal.loop-n-init
loop-n-init c =
    let a = c.args in
    let point = as_entry a.point in
    let below = bucket_below a.self.now c.requires.0 a.from point c.requires.1 _ _ c.search.invariant.at in
    record {
      at = at_first_node a.self.now c.requires.0 a.from point c.requires.1 c.search.bucket c.next_of-n.result below c.next_of-n.ensures;
      none = c.search.invariant.none;
    }

pub returns-then-comes_after : goal.returns-then-comes_after
returns-then-comes_after c =
    let a = c.args in
    left_at_node a.self.now c.requires.0 a.from (as_entry a.point) c.requires.1 _ _ c.loop-n.n
    c.search.invariant.at c.loop-n.invariant.at c.loop-n-test.true (c.comes_after.ensures.if_true c.if-comes_after.true)

pub loop-n-smaller : goal.loop-n-smaller
loop-n-smaller c =
    let loop = c.loop-n in
    walk_falls c.args.self.now c.requires.0 loop.n c.next_of-n-in-loop-n.result loop.invariant.at.node c.loop-n-test.true c.next_of-n-in-loop-n.ensures

pub loop-n-preserved : goal.loop-n-preserved
loop-n-preserved c =
    let a = c.args in
    record {
      at =
          at_next_node a.self.now c.requires.0 a.from (as_entry a.point) c.requires.1 _ c.loop-n.n c.next_of-n-in-loop-n.result
          c.loop-n.invariant.at c.loop-n-test.true (c.comes_after.ensures.if_false c.if-comes_after.false) c.next_of-n-in-loop-n.ensures;
      none = c.loop-n.invariant.none;
    }

pub bucket_after-bucket-requires : goal.bucket_after-bucket-requires
bucket_after-bucket-requires c =
    let a = c.args in
    bucket_below a.self.now c.requires.0 a.from (as_entry a.point) c.requires.1 _ _ c.search.invariant.at

pub search-preserved : goal.search-preserved
search-preserved c =
    let a = c.args in
    record {
      at =
          at_next_bucket a.self.now c.requires.0 a.from (as_entry a.point) c.requires.1 _ _ c.loop-n.n c.bucket_after-bucket.result
          c.search.invariant.at c.loop-n.invariant.at c.loop-n-test.false c.search-test.true c.bucket_after-bucket.ensures;
      none = c.loop-n.invariant.none;
    }

pub returns-after-search : goal.returns-after-search
returns-after-search c =
    let a = c.args in
    rw c.search.invariant.none (left_with_none a.self.now c.requires.0 a.from (as_entry a.point) c.requires.1 _ _ c.search.invariant.at c.search-test.false)
