-- `checker::sending::Streams::send_all` meets its contract: the ids before the next place have been sent.
use lib.ListN.{drop}
use Rattle.checker.proofs.Facts.Sending.{Sending}
use Rattle.checker.proofs.sending.Streams.send_all.Given as goal

abbrev pub invariant-loop-number : goal.invariant-loop-number
invariant-loop-number l = Sending l.initial.self l.listed l.start l.self (drop l.number-index l.listed)
