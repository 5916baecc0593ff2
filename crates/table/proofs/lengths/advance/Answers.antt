use mathlib.Core.Path.{refl}
use native.Mathlib.Omega.{arith}
use lib.ListN.{get_or}
use Rattle.table.specs.Facts.Lengths.{none_gone_on, one_more_gone_on, all_gone_on, hits_few, hits_before_few}
use Rattle.table.specs.NoDivision.{NeverDivides, never_divides}
use Rattle.table.proofs.lengths.advance.Goals as goal
use Rattle.table.proofs.lengths.advance.Code as code

pub loop-i-init : goal.loop-i-init
loop-i-init c = none_gone_on _ _ _

pub overflow_add-sum : goal.overflow_add-sum
overflow_add-sum c =
    let args = c.args in
    let loop = c.loop-i in
    omega (arith, hits_few (get_or loop.times loop.i 0) args.t, hits_before_few args.times.now args.t loop.i)

pub loop-i-preserved : goal.loop-i-preserved
loop-i-preserved c =
    one_more_gone_on c.loop-i.invariant c.loop-i-test.true _ _ c.hit-sum.ensures c.time_after.ensures

pub returns : goal.returns
returns c = all_gone_on c.loop-i.invariant (omega arith)

-- Annex 12.20: no division, no remainder, and no call but of functions of which the same is proved
pub no_division : NeverDivides code.function
unfolding never_divides
no_division = refl
