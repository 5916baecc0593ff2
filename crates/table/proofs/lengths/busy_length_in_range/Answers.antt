use mathlib.Core.Path.{refl}
use Prim.Native.Nat.{◌≤◌}
use Rattle.std.proofs.Common.{rules}
use native.Mathlib.Omega.{arith}
use Rattle.basics.specs.Limits.{longest_period}
use Rattle.basics.specs.OneTo.{OneTo}
use Rattle.table.specs.Needs.{EachRecord}
use Rattle.table.specs.Facts.Busy.{can_carry, one_length_more, busy_found, frame_reached, period_fits, deadline_fits, test_begins}
use Rattle.table.specs.NoDivision.{LoopsNeverDivide, loops_never_divide}
use Rattle.table.proofs.lengths.busy_length_in_range.Goals as goal
use Rattle.table.proofs.lengths.busy_length_in_range.Code as code

pub column_in_range-periods-requires : goal.column_in_range-periods-requires
column_in_range-periods-requires c =
    let fit : EachRecord (λ r. OneTo longest_period r.period) c.args.table.now = period_fits _ _ _ c.requires in
    search rules

pub column_in_range-dues-requires : goal.column_in_range-dues-requires
column_in_range-dues-requires c =
    let fit : EachRecord (λ r. r.deadline ≤ longest_period) c.args.table.now = deadline_fits _ _ _ c.requires in
    search rules

pub loop-t-init : goal.loop-t-init
loop-t-init c =
    test_begins _ _ _ c.requires (omega arith)
    (λ k low. let period = c.column_in_range-periods.ensures.held k low in search rules)
    (omega arith)
    (λ k low. let deadline = c.column_in_range-dues.ensures.held k low in search rules)

pub sums_at-at-requires : goal.sums_at-at-requires
sums_at-at-requires c = can_carry _ _ _ c.requires c.loop-t.invariant c.loop-t.auto.t c.loop-t-test.true

pub returns-then-at-slots : goal.returns-then-at-slots
returns-then-at-slots c =
    let loop = c.loop-t in
    let tested = one_length_more _ _ _ c.requires loop.invariant loop.auto.t c.loop-t-test.true c.sums_at-at.ensures c.if-slots-t.false in
    busy_found _ _ _ c.requires tested (omega arith) (omega arith)

pub returns-else-at-slots : goal.returns-else-at-slots
returns-else-at-slots c =
    let loop = c.loop-t in
    let tested = one_length_more _ _ _ c.requires loop.invariant loop.auto.t c.loop-t-test.true c.sums_at-at.ensures c.if-slots-t.false in
    frame_reached _ _ _ c.requires tested (omega arith)

-- Annex 12.20: in the loop over lengths no division, no remainder, and no call but of functions of which the same is proved
pub no_division : LoopsNeverDivide code.function
unfolding loops_never_divide
no_division = refl
