-- `Queue::heads_are_linked` meets its contract: each block is asked, and thirty blocks of sixteen are all the heads.
use Rattle.std.proofs.Common.{rules, refl}
use Rattle.std.proofs.lemmas.Iterator.{cases_from_all, YieldsList-from_range}
use Rattle.basics.specs.Facts.Decides.{same_as}
use Rattle.places.specs.Facts.Soundness.{all_tested}
use Rattle.queue.specs.Layout.{id_at, key_at, next_at, prev_at}
use Rattle.queue.specs.Layout.Soundness.{BlockRight}
use Rattle.queue.specs.Layout.SoundnessFacts.{heads_of_blocks, blocks_of_heads}
use borrow.Author.Tests.{tests}
use Rattle.queue.proofs.Queue.heads_are_linked.Goals as goal

pub returns : goal.returns
returns c =
    let q = c.args.self.now in
    let right = BlockRight (id_at q) (key_at q) (next_at q) (prev_at q) in
    same_as heads_of_blocks blocks_of_heads
    (all_tested 30 right _
    (cases_from_all _ _ _ right (λ block. right block → ⊥) c.all.ensures.ran (YieldsList-from_range 0 30 30 refl refl)
    (λ x q k. search (rules, tests)) (λ x q k. search (rules, tests))))
