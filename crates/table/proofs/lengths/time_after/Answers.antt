-- `table::lengths::time_after` meets its contract: the two cases are those of `after_hit`.
use mathlib.Core.Path.{refl, sym}
use Rattle.table.specs.Facts.Lengths.{after_yes, after_no}
use Rattle.table.specs.NoDivision.{NeverDivides, never_divides}
use Rattle.table.proofs.lengths.time_after.Goals as goal
use Rattle.table.proofs.lengths.time_after.Code as code

pub returns-then-time-t : goal.returns-then-time-t
returns-then-time-t c = sym (after_yes _ _ _ c.if-time-t.true)

pub returns-else-time-t : goal.returns-else-time-t
returns-else-time-t c = sym (after_no _ _ _ c.if-time-t.false)

-- Annex 12.20: no division, no remainder, and no call but of functions of which the same is proved
pub no_division : NeverDivides code.function
unfolding never_divides
no_division = refl
