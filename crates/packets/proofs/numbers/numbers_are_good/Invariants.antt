-- `packets::numbers::numbers_are_good` meets its contract: the numbers before place i are good ids, and `met` has their remainders; at the first
-- number that is no id, all that is left has to be messages.
use lib.ListN.{take}
use Rattle.packets.specs.Met.{IsMet}
use Rattle.packets.proofs.numbers.numbers_are_good.Given as goal

abbrev pub invariant-loop-i : goal.invariant-loop-i
invariant-loop-i l = IsMet (take l.i l.numbers) l.met
