use Rattle.superframe.proofs.Euclid.{gcd_step}
use Rattle.superframe.proofs.+gcd.Goals as goal

pub returns-else-b-eq0 : goal.returns-else-b-eq0
returns-else-b-eq0 t c = gcd_step c.args.a c.args.b c.gcd.result c.gcd.ensures
