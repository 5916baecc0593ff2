-- `Queue::is_sound` meets its contract: a queue is sound exactly if its places are and its nodes are linked.
use Rattle.queue.specs.Layout.SoundnessFacts.{sound_places, sound_last}
use Rattle.queue.proofs.Tests.{fails_with}
use Rattle.queue.proofs.Queue.is_sound.Goals as goal

pub returns-then-are_sound : goal.returns-then-are_sound
returns-then-are_sound c =
    let are = c.places.ensures in
    sound_last c.args.self.now ((rw (are.0, are.1, are.2) at c.are_sound.ensures).if_true c.if-are_sound.true) c.all_linked.ensures

pub returns-else-are_sound : goal.returns-else-are_sound
returns-else-are_sound c =
    let are = c.places.ensures in
    fails_with (rw (are.0, are.1, are.2) at c.are_sound.ensures) c.if-are_sound.false (sound_places c.args.self.now)
