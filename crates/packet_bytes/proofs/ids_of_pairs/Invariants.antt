-- `packet_bytes::ids_of_pairs` meets its contract: the first k places hold the ids of the first k pairs.
use Rattle.packet_bytes.specs.Facts.Stores.{AreTaken}
use Rattle.packet_bytes.proofs.ids_of_pairs.Given as goal

abbrev pub invariant-loop-k : goal.invariant-loop-k
invariant-loop-k l = AreTaken l.part l.k l.ids
