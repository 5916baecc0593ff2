-- `packet_bytes::write_ids_in_room` meets its contract: the first k ids are stored, and later bytes are as they were.
use Rattle.packet_bytes.specs.Facts.Stores.{AreStored}
use Rattle.packet_bytes.proofs.write_ids_in_room.Given as goal

abbrev pub invariant-loop-k : goal.invariant-loop-k
invariant-loop-k l = AreStored l.initial.part l.ids l.k l.part
