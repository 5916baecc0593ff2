-- `round_tests::none_by_in_range` meets its contract: `none` says whether no due time before this one is by the end.
use Rattle.basics.specs.Decides.{Decides}
use Rattle.round_tests.specs.Tests.{NoneBy}
use Rattle.round_tests.proofs.none_by_in_range.Given as goal

abbrev pub invariant-loop-due : goal.invariant-loop-due
invariant-loop-due l = Decides l.none (NoneBy l.due-index l.dues l.end)
