-- `table::Table::has_id_in_range` meets its contract: an id that is held stands at the place for it, and nowhere else.
use Rattle.std.proofs.Common.{arith}
use Rattle.basics.specs.Facts.Decides.{same_as, equal_to}
use Rattle.table.specs.Facts.Changes.{held_at_place}
use Rattle.table.proofs.Table.has_id_in_range.Goals as goal

pub returns-then-place-self : goal.returns-then-place-self
returns-then-place-self c =
    same_as (held_at_place c.args.self.now (omega arith) _ _ c.if-place-self.true) (λ held. (c.place_for_in_range-place.ensures.held held).1)
    (equal_to _ c.args.id)
