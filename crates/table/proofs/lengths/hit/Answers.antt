-- `table::lengths::hit` meets its contract: the two cases are those of `hits`.
use mathlib.Core.Path.{refl}
use Rattle.std.proofs.Common.{arith}
use Rattle.std.proofs.lemmas.Bool.Decides.{nat_tests}
use Rattle.table.specs.Facts.Lengths.{hits_yes, hits_no}
use Rattle.table.specs.NoDivision.{NeverDivides, never_divides}
use Rattle.table.proofs.lengths.hit.Goals as goal
use Rattle.table.proofs.lengths.hit.Code as code

pub returns : goal.returns
returns c = grind (arith, nat_tests, hits_yes c.args.time c.args.t, hits_no c.args.time c.args.t)

-- Annex 12.20: no division, no remainder, and no call but of functions of which the same is proved
pub no_division : NeverDivides code.function
unfolding never_divides
no_division = refl
