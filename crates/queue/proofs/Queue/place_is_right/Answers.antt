-- `Queue::place_is_right` meets its contract: a free place needs nothing, and else the two links decide.
use Rattle.std.proofs.Common.{refl}
use Rattle.basics.specs.Facts.Decides.{same_as}
use Rattle.queue.specs.Layout.SoundnessFacts.{linked_from, linked_next, linked_prev}
use Rattle.queue.proofs.Tests.{fails_with}
use Rattle.queue.proofs.Queue.place_is_right.Goals as goal

pub returns-then-next_of_place_is_right : goal.returns-then-next_of_place_is_right
returns-then-next_of_place_is_right c =
    let next = c.next_of.ensures in
    let prev = c.prev_of.ensures in
    let next-right = c.next_of_place_is_right.ensures.if_true c.if-next_of_place_is_right.true in
    same_as (λ right. record { linked = λ _. linked_from next prev next-right right }) (λ all. linked_prev next prev (all.linked c.if-self-x-lt1.false))
    c.prev_is_right.ensures

pub returns-else-next_of_place_is_right : goal.returns-else-next_of_place_is_right
returns-else-next_of_place_is_right c =
    fails_with c.next_of_place_is_right.ensures c.if-next_of_place_is_right.false
    (λ right. linked_next c.next_of.ensures refl c.requires (right.linked c.if-self-x-lt1.false))
