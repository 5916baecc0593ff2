-- `packets::read` meets its contract: the values tested are those in the bytes.
use Rattle.std.specs.Prelude.{◌≡◌, List, ℕ, ◌+◌, ◌*◌, ◌≤◌, length, get_or}
use Rattle.std.proofs.Common.{ap, ◌∙◌, sym, arith}
use Rattle.packets.specs.Reading.{HasLength}
use Rattle.packets.specs.Facts.Reading.{too_many_ids}
use Rattle.packets.proofs.Reading.{refuses_26, refuses_27, tested, reads}
use Rattle.packets.proofs.read.Goals as goal

-- the length is right where there are six bytes and as many as n says, and byte 5 is n
right_length : (p : List ℕ) (n : ℕ) → 6 ≤ length p → length p ≡ 6 + 2 * n → n ≡ get_or p 5 0 → HasLength p
right_length p n header long is = (header, long ∙ ap (λ (k : ℕ). 6 + 2 * k) is)

pub returns-then-packet-lt6 : goal.returns-then-packet-lt6
returns-then-packet-lt6 c = refuses_26 _ (λ long. omega (arith, long.0))

pub returns-then-packet-n : goal.returns-then-packet-n
returns-then-packet-n c = refuses_26 _ (λ long. c.if-packet-n.true (long.1 ∙ ap (λ (n : ℕ). 6 + 2 * n) (sym c.from-n.ensures)))

pub returns-then-n : goal.returns-then-n
returns-then-n c =
    let long = c.if-packet-n.false in
    refuses_27 _ (right_length _ _ c.if-packet-lt6.false long c.from-n.ensures) (too_many_ids _ _ long c.if-n.true)

pub returns-then-not-are_good : goal.returns-then-not-are_good
returns-then-not-are_good c =
    let good = tested c.args.packet.now c.start_of_header-start.ensures c.from-slots.ensures c.ids_of_pairs-ids.ensures c.are_good.ensures in
    refuses_27 _ (right_length _ _ c.if-packet-lt6.false c.if-packet-n.false c.from-n.ensures) (good.if_false c.if-not-are_good.true)

pub returns : goal.returns
returns c =
    let good = tested c.args.packet.now c.start_of_header-start.ensures c.from-slots.ensures c.ids_of_pairs-ids.ensures c.are_good.ensures in
    reads _ (λ i. omega (arith, c.type_inv.packet i)) (right_length _ _ c.if-packet-lt6.false c.if-packet-n.false c.from-n.ensures)
    c.start_of_header-start.ensures c.from-slots.ensures c.from-n.ensures (good.if_true c.if-not-are_good.false)
