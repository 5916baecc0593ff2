-- `Places::least_key` meets its contract: the least of the limit and the keys met.
use Rattle.std.proofs.Common.{length}
use Rattle.basics.specs.NewIds.{at}
use Rattle.places.specs.Soundness.{IsLeast}
use Rattle.places.proofs.Places.least_key.Given as goal

abbrev pub invariant-loop-id : goal.invariant-loop-id
invariant-loop-id l = IsLeast (at l.self.ids.now) (at l.self.keys.now) (length l.yielded) l.least
