-- `superframe::lcm_within_limit` meets its contract: m / gcd × p is the least common multiple, and at most 5,040 × 240.
use Rattle.superframe.proofs.Euclid.{gcd_positive, lcm_of_two}
use Rattle.superframe.proofs.lcm_within_limit.Goals as goal

pub nonzero_div-result : goal.nonzero_div-result
nonzero_div-result c = gcd_positive c.args.m c.args.p c.gcd-g.result c.requires.0.0 c.gcd-g.ensures

pub returns : goal.returns
returns c =
    let pre = c.requires in
    lcm_of_two c.args.m c.args.p c.gcd-g.result pre.0.0 pre.1.0 c.gcd-g.ensures
