-- `Queue::bucket` meets its contract: an entry's bucket is that of its key, a head's its own number.
use mathlib.Core.Path.{sym, ◌∙◌}
use Rattle.queue.specs.Layout.Ranks.{bucket_place, bucket_head}
use Rattle.queue.proofs.Queue.bucket.Goals as goal

pub returns-then-x-lt-PLACES : goal.returns-then-x-lt-PLACES
returns-then-x-lt-PLACES c = c.bucket_of_key.ensures ∙ sym (bucket_place _ _ c.if-x-lt-PLACES.true)

pub returns : goal.returns
returns c = sym (bucket_head _ _ c.if-x-lt-PLACES.false)
