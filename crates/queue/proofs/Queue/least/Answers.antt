-- `Queue::least` meets its contract: links not sound are refused with 5, and the search does the rest.
use Rattle.std.proofs.Common.{sym}
use Rattle.queue.specs.Layout.{entries}
use Rattle.queue.specs.Layout.Decide.{decide_sound}
use Rattle.queue.specs.Layout.First.{unsound_find}
use Rattle.queue.proofs.Queue.least.Goals as goal

pub returns-then-not-is_sound : goal.returns-then-not-is_sound
returns-then-not-is_sound c =
    let q = c.args.self.now in
    sym (unsound_find (decide_sound q) (entries q) (c.is_sound.ensures.if_false c.if-not-is_sound.true))
