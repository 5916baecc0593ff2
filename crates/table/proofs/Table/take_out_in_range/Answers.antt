-- `table::Table::take_out_in_range` meets its contract: in ascending ids no other place has the id.
use Rattle.std.proofs.Common.{arith}
use Rattle.table.specs.Facts.Changes.{without_at_place}
use Rattle.table.proofs.Table.take_out_in_range.Goals as goal

pub returns : goal.returns
returns c =
    let at = c.place_for_in_range-place.ensures.held c.requires.held in
    rw (without_at_place _ (omega arith) c.requires.can_search.ascending _ _ at.0 at.1) c.close_in_range.ensures
