-- `Queue::is_sound_filing_in_range` meets its contract: places that hold just the rows are within the bounds, so the links decide.
use Rattle.queue.specs.Layout.FilingSound.{filing_places, filing_last}
use Rattle.queue.proofs.Tests.{fails_with}
use Rattle.queue.proofs.Queue.is_sound_filing_in_range.Goals as goal

pub returns-then-file_in_range : goal.returns-then-file_in_range
returns-then-file_in_range c =
    let a = c.args in
    let are = c.places.ensures in
    let files = rw (are.0, are.1, are.2) at c.file_in_range.ensures in
    filing_last a.self.now a.ids.now a.dues.now a.releases.now a.count c.requires (files.if_true c.if-file_in_range.true) c.all_linked.ensures

pub returns-else-file_in_range : goal.returns-else-file_in_range
returns-else-file_in_range c =
    let a = c.args in
    let are = c.places.ensures in
    fails_with (rw (are.0, are.1, are.2) at c.file_in_range.ensures) c.if-file_in_range.false
    (filing_places a.self.now a.ids.now a.dues.now a.releases.now a.count)
