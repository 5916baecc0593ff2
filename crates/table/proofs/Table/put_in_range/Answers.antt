-- `table::Table::put_in_range` meets its contract: put-by-id puts a stream before the first greater id.
use Rattle.std.proofs.Common.{arith}
use Rattle.table.specs.Facts.Changes.{put_at_place}
use Rattle.table.proofs.Table.put_in_range.Goals as goal

pub returns : goal.returns
returns c =
    let goes_in = c.place_for_in_range-place.ensures.new c.requires.new c.requires.room in
    rw (put_at_place _ (omega arith) c.args.stream _ goes_in) c.open_in_range.ensures
