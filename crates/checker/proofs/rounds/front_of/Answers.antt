-- `checker::rounds::front_of` meets its contract: what is read, part by part, are the values of the packet in front.
use native.Mathlib.Omega.{arith}
use Rattle.checker.proofs.Facts.Fronts.{read_in_front}
use Rattle.checker.proofs.rounds.front_of.Goals as goal

pub returns : goal.returns
returns c =
    read_in_front c.args.rest.now (λ i. omega (arith, c.type_inv.rest i)) c.in_ok-length.ensures
    (λ i. c.in_ok-length.length) (omega arith) c.start_of_header.ensures c.from.ensures
    c.ids_of_pairs.ensures
