-- `basics::place_among_rising` meets its contract: the first 63 of the numbers are parted by whether they are less than x.
use Rattle.std.specs.Prelude.{ltb}
use Rattle.std.proofs.Common.{arith, rules, get_or-take}
use Rattle.std.proofs.lemmas.List.{length-take-le}
use Rattle.std.proofs.lemmas.List.Sorted.{IsPartitionPoint-from_clause}
use Rattle.basics.specs.Facts.Places.{place_of_parts}
use Rattle.basics.proofs.place_among_rising.Goals as goal

pub returns : goal.returns
returns c =
    let part = c.partition_point.ensures in
    let x = c.args.x in
    place_of_parts _ _ x _ part.bound
    (λ parted. IsPartitionPoint-from_clause (λ n. ltb n x) _ _ part.partitioned parted (λ a r q k. search rules))
    (search (arith, length-take-le, c.told-values))
    (λ j below. search (arith, get_or-take))
    c.requires
