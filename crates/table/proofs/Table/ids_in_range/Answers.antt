-- `table::Table::ids_in_range` meets its contract: within the 64 places an id is read alike, whatever is read beyond them.
use Rattle.std.proofs.Common.{rules, arith, ◌∙◌}
use Rattle.std.proofs.lemmas.List.{get_or_default}
use Rattle.table.proofs.Table.ids_in_range.Goals as goal

pub returns : goal.returns
returns c =
    let column = c.column_in_range.ensures in
    record {
      ids = λ k low. let h = column.held k low in get_or_default c.column_in_range.result k 0 4_294_967_295 (omega arith) ∙ search rules;
      free = λ k high inside. get_or_default c.column_in_range.result k 0 4_294_967_295 (omega arith) ∙ column.free k high;
    }
