use Rattle.std.proofs.Common.{◌≡◌, ◌*◌, ◌≤◌, ◌<◌, length, length-set, arith, take_all}
use Rattle.command.specs.Text.IsFields.{none}
use Rattle.command.proofs.Facts.Puts.{put_byte, put_none, put_in_rest, put_field_more, put_line}
use Rattle.command.proofs.print.put_line_in_range.Goals as goal

pub loop-number-init : goal.loop-number-init
loop-number-init c = put_none _ 1 (none, omega arith)

pub loop-number-preserved : goal.loop-number-preserved
loop-number-preserved c =
    let loop = c.loop-number in
    let field = c.put_field_in_range-written in
    let long = length-set c.args.out.now 0 c.args.letter in
    let inside : loop.written ≤ length loop.out =
    omega (arith, loop.invariant.ends, loop.invariant.property.1, c.requires, c.loop-number-test.true, loop.auto.out, long) in
    put_field_more c.args.numbers.now loop.number-index c.loop-number-test.true (omega (arith, c.requires, long)) loop.invariant
    (put_in_rest loop.written inside field.ensures)

pub returns-clause-put : goal.returns-clause-put
returns-clause-put c =
    let out = c.args.out.now in
    let numbers = c.args.numbers.now in
    let loop = c.loop-number in
    let all : loop.number-index ≡ length numbers = omega (arith, loop.auto.number-index-end, c.loop-number-test.false) in
    let inside : loop.written < length loop.out =
    omega (arith, loop.invariant.ends, loop.invariant.property.1, c.requires, all, loop.auto.out, length-set out 0 c.args.letter) in
    let fields = rw (all, take_all (length numbers) numbers (omega arith)) at loop.invariant in
    put_line c.args.letter numbers (21 * length numbers) (omega arith) (put_byte out 0 c.args.letter (omega (arith, c.requires))) fields
    (put_byte loop.out loop.written 10 inside)
