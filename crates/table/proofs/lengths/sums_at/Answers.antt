-- `table::lengths::sums_at` meets its contract: each walk goes one length further, and its sum with it.
use mathlib.Core.Path.{refl}
use native.Mathlib.Omega.{arith}
use Rattle.table.specs.Facts.Lengths.{sums_carried}
use Rattle.table.specs.NoDivision.{NeverDivides, never_divides}
use Rattle.table.proofs.lengths.sums_at.Goals as goal
use Rattle.table.proofs.lengths.sums_at.Code as code

pub returns : goal.returns
returns c =
    let pre = c.requires in
    sums_carried pre.has pre.formed _ _ (omega arith) pre.sums c.advance.ensures c.advance-2.ensures

-- Annex 12.20: no division, no remainder, and no call but of functions of which the same is proved
pub no_division : NeverDivides code.function
unfolding never_divides
no_division = refl
