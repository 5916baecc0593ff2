-- `table::start::next_start_in_range` meets its contract: an empty table leaves the cap, and else the search begins at the least due time.
use Prim.Native.Nat.{◌+◌, ◌≤◌, ◌<◌}
use Rattle.std.proofs.Common.{rules, arith, length-take-le}
use Rattle.basics.specs.Limits.{longest_period, key_span}
use Rattle.basics.specs.OneTo.{OneTo}
use Rattle.table.specs.Table.{due_of}
use Rattle.table.specs.Needs.{EachRecord}
use Rattle.table.specs.Facts.Search.{empty_table, period_fits, due_fits, can_look}
use Rattle.table.proofs.start.next_start_in_range.Goals as goal

pub column_in_range-periods-requires : goal.column_in_range-periods-requires
column_in_range-periods-requires c =
    let fit : EachRecord (λ r. OneTo longest_period r.period) c.args.table.now = period_fits c.requires in
    search rules

pub column_in_range-dues-requires : goal.column_in_range-dues-requires
column_in_range-dues-requires c =
    let fit : EachRecord (λ r. (c.args.now < due_of r) × (due_of r ≤ c.args.now + key_span)) c.args.table.now = due_fits c.requires in
    search rules

pub returns-in_default : goal.returns-in_default
returns-in_default c =
    empty_table c.requires
    (omega (arith, c.in_default.ensures, length-take-le c.args.table.now.count c.column_in_range-dues.result (omega arith)))

pub start_from-requires : goal.start_from-requires
start_from-requires c =
    can_look c.requires (omega arith)
    (λ k low. let period = c.column_in_range-periods.ensures.held k low in search rules)
    (λ k low. let due = c.column_in_range-dues.ensures.held k low in search rules)
    (omega arith)
    (rw c.from.ensures c.in-Some.ensures)
