-- `table::Table::place_for_in_range` meets its contract: the ids rise from record to record, so halving finds the place.
use Rattle.std.proofs.Common.{arith, rules}
use Rattle.std.proofs.lemmas.List.Sorted.{IsPartitionPoint-from_clause}
use Rattle.std.specs.Prelude.{ltb}
use Rattle.table.specs.declared.Record.{Record}
use Rattle.table.specs.Facts.Ids.{place_for}
use Rattle.table.proofs.Table.place_for_in_range.Goals as goal

pub returns : goal.returns
returns c =
    let part = c.partition_point.ensures in
    let id = c.args.id in
    place_for _ c.requires (omega arith) id _ (rw c.records.ensures at part.bound)
    (λ parted. rw c.records.ensures at (IsPartitionPoint-from_clause (λ (s : Record). ltb s.id id) c.records.result.now _ part.partitioned
    (rw c.records.ensures parted) (λ a r q k. search rules)))
