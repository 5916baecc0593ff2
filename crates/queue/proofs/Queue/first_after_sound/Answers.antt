-- `Queue::first_after_sound` meets its contract: keys after the point are among the 480 from the start on.
use Rattle.places.specs.Lent.{as_entry}
use Rattle.queue.specs.Layout.Buckets.{from_greater}
use Rattle.queue.proofs.Queue.first_after_sound.Goals as goal

pub search_sound-requires : goal.search_sound-requires
search_sound-requires c =
    let a = c.args in
    let are = c.places.ensures in
    let least = rw (are.0, are.1) at c.least_key.ensures in
    (c.requires, rw c.max-from.ensures (from_greater a.self.now c.least_key.result (as_entry a.point) c.requires least))
