-- `Queue::search_sound` meets its contract: no entry after the point has a key of a bucket passed, nor lies before the node reached.
use Rattle.std.proofs.Common.{◌≡◌, ◌-◌}
use Rattle.std.specs.Prelude.{None}
use Rattle.places.specs.Lent.{as_entry}
use Rattle.queue.specs.Layout.Ranks.{rank_at, high}
use Rattle.queue.specs.Layout.Buckets.{AtBucket, AtNode}
use Rattle.queue.proofs.Queue.search_sound.Given as goal

abbrev pub invariant-search : goal.invariant-search
invariant-search l = record {
  at : AtBucket l.self l.from (as_entry l.point) l.bucket l._turn;
  none : l.found ≡ None;
}

abbrev pub invariant-loop-n : goal.invariant-loop-n
invariant-loop-n l = record {
  at : AtNode l.self (as_entry l.point) l.bucket l.n;
  none : l.found ≡ None;
}

abbrev pub decreases-loop-n : goal.decreases-loop-n
decreases-loop-n l = 65_536_000_032_768 - high (rank_at l.self) l.n
