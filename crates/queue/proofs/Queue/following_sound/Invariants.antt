-- `Queue::following_sound` meets its contract: no entry after the node has a key of a bucket passed.
use Rattle.queue.specs.Linking.{point_at}
use Rattle.queue.specs.Layout.Buckets.{AtBucket}
use Rattle.queue.proofs.Queue.following_sound.Given as goal

abbrev pub invariant-loop-turn : goal.invariant-loop-turn
invariant-loop-turn l = AtBucket l.self l.key (point_at l.self l.key l.n) l.bucket l._turn
