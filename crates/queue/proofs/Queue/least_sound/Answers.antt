-- `Queue::least_sound` meets its contract: all entries come after key 0, release 0 and id 0.
use Rattle.std.proofs.Common.{ap, ◌∙◌}
use Rattle.queue.specs.Calls.{first_of}
use Rattle.queue.specs.Layout.Decide.{decide_sound}
use Rattle.queue.specs.Layout.First.{all_after_zero}
use Rattle.queue.proofs.Queue.least_sound.Goals as goal

pub returns : goal.returns
returns c = c.next_sound.ensures ∙ ap (first_of (decide_sound c.args.self.now)) (all_after_zero c.args.self.now)
