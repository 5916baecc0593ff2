-- `round_tests::stream_count` meets its contract: `count` is the number of ids before this number.
use Rattle.std.proofs.Common.{◌≡◌, take, leb}
use Rattle.std.specs.List.{count_by}
use Rattle.basics.specs.Limits.{largest_id}
use Rattle.round_tests.proofs.stream_count.Given as goal

abbrev pub invariant-loop-number : goal.invariant-loop-number
invariant-loop-number l = l.count ≡ count_by (λ n. leb n largest_id) (take l.number-index l.numbers)
