-- `packets::write` meets its contract: refused, nothing was stored; else the header and then the ids are.
use Rattle.packet_bytes.specs.Layout.{Values}
use Rattle.packets.specs.Facts.Writing.{refuses_27, refuses_28, writes, header_and_ids}
use Rattle.packets.proofs.write.Goals as goal

pub returns-then-not-are_good : goal.returns-then-not-are_good
returns-then-not-are_good c = refuses_27 _ _ (c.are_good.ensures.if_false c.if-not-are_good.true)

pub returns-then-packet-ids : goal.returns-then-packet-ids
returns-then-packet-ids c = refuses_28 _ _ (c.are_good.ensures.if_true c.if-not-are_good.false) c.if-packet-ids.true

pub returns : goal.returns
returns c =
    let before = c.args.packet.now in
    let v : Values = record { start = c.args.start; slots = c.args.slots; ids = c.args.ids.now } in
    let good = c.are_good.ensures.if_true c.if-not-are_good.false in
    let long = c.if-packet-ids.false in
    writes v before _ good long
    (header_and_ids v before _ _ long c.write_header_in_room.ensures c.write_ids_in_room.ensures)
