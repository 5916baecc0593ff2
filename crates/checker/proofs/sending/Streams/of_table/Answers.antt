-- `checker::sending::Streams::of_table` meets its contract: the columns that are made of the table show its records.
use mathlib.Core.Path.{◌≡◌}
use Prim.Native.Nat.{◌≤◌}
use native.Mathlib.Omega.{arith}
use lib.ListN.{length}
use borrow.Author.Rules.{rules}
use Rattle.rules.specs.Streams.{due}
use Rattle.table.specs.Table.{IsColumn}
use Rattle.checker.proofs.Facts.Columns.{table_shown, shows_one, are_columns}
use Rattle.checker.proofs.sending.Streams.of_table.Goals as goal

pub invariant_of-result : goal.invariant_of-result
invariant_of-result c =
    let table = c.args.table.now in
    let within : table.count ≤ length table.streams = omega arith in
    let size : length c.column_in_range-3.result ≡ 64 = search rules in
    let periods : IsColumn (λ x. x.period) table c.column_in_range.result = λ k low. let h = c.column_in_range.ensures.held k low in search rules in
    let deadlines : IsColumn (λ x. x.deadline) table c.column_in_range-2.result = λ k low. let h = c.column_in_range-2.ensures.held k low in search rules in
    let dues : IsColumn due table c.column_in_range-3.result = λ k low. let h = c.column_in_range-3.ensures.held k low in search rules in
    are_columns (table_shown table within c.requires (λ i. table.count) size c.ids_in_range-ids.ensures periods deadlines dues)

pub returns : goal.returns
returns c =
    let table = c.args.table.now in
    let within : table.count ≤ length table.streams = omega arith in
    let size : length c.column_in_range-3.result ≡ 64 = search rules in
    let periods : IsColumn (λ x. x.period) table c.column_in_range.result = λ k low. let h = c.column_in_range.ensures.held k low in search rules in
    let deadlines : IsColumn (λ x. x.deadline) table c.column_in_range-2.result = λ k low. let h = c.column_in_range-2.ensures.held k low in search rules in
    let dues : IsColumn due table c.column_in_range-3.result = λ k low. let h = c.column_in_range-3.ensures.held k low in search rules in
    shows_one (table_shown table within c.requires (λ i. table.count) size c.ids_in_range-ids.ensures periods deadlines dues)
