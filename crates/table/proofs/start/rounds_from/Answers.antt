-- `table::start::rounds_from` meets its contract by its invariant alone.
use mathlib.Core.Path.{refl}
use Rattle.table.specs.NoDivision.{NeverDivides, never_divides}
use Rattle.table.proofs.start.rounds_from.Code as code

-- Annex 12.20: no division, no remainder, and no call but of functions of which the same is proved
pub no_division : NeverDivides code.function
unfolding never_divides
no_division = refl
