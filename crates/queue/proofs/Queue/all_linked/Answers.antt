-- `Queue::all_linked` meets its contract: places and heads are all the nodes.
use Rattle.basics.specs.Facts.Decides.{same_as}
use Rattle.queue.specs.Layout.SoundnessFacts.{all_from, all_heads}
use Rattle.queue.proofs.Queue.all_linked.Goals as goal

pub returns-then-places_are_linked : goal.returns-then-places_are_linked
returns-then-places_are_linked c =
    same_as (λ heads. all_from (c.places_are_linked.ensures.if_true c.if-places_are_linked.true) heads) all_heads c.heads_are_linked.ensures
