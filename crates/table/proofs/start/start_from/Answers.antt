use mathlib.Core.Path.{refl}
use native.Mathlib.Omega.{arith}
use Rattle.table.specs.Facts.Search.{search_begins, stops, goes_on, ends}
use Rattle.table.specs.NoDivision.{LoopsNeverDivide, loops_never_divide}
use Rattle.table.proofs.start.start_from.Goals as goal
use Rattle.table.proofs.start.start_from.Code as code

pub loop-t-init : goal.loop-t-init
loop-t-init c = search_begins c.requires (omega arith)

pub returns-then-t-now : goal.returns-then-t-now
returns-then-t-now c =
    let loop = c.loop-t in
    stops c.requires loop.invariant loop.auto.t c.advance.ensures c.rounds_from-needed.ensures c.if-t-now.true

pub loop-t-preserved : goal.loop-t-preserved
loop-t-preserved c =
    let loop = c.loop-t in
    goes_on c.requires loop.invariant loop.auto.t c.advance.ensures c.rounds_from-needed.ensures _ c.if-t-now.false c.lesser-start.ensures

pub returns : goal.returns
returns c = ends c.requires (omega arith) c.loop-t.invariant.looked

-- Annex 12.20: in the loop over lengths no division, no remainder, and no call but of functions of which the same is proved
pub no_division : LoopsNeverDivide code.function
unfolding loops_never_divide
no_division = refl
