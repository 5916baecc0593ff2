-- `superframe::gcd` meets its contract: Euclid's step keeps the divisor, and the measure is the second number, which the remainder lies below.
use Rattle.superframe.proofs.+gcd.Given as goal

abbrev pub decreases-gcd : goal.decreases-gcd
decreases-gcd l = l.b
