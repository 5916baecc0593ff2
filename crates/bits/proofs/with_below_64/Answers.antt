-- `bits::with_below_64` meets its contract: the number 1 shifted by n has digit n alone.
use native.Mathlib.Omega.{arith}
use Rattle.bits.specs.Facts.Bits.{joined_is_with}
use Rattle.bits.proofs.with_below_64.Goals as goal

pub returns : goal.returns
returns c = joined_is_with c.args.set c.args.n (omega arith)
