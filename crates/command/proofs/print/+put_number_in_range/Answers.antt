use Rattle.std.proofs.Common.{◌+◌, ◌%◌, ◌<◌, length, arith}
use Rattle.command.proofs.Facts.Puts.{put_byte, put_one_digit, tenth_ends, put_last_digit}
use Rattle.command.proofs.print.+put_number_in_range.Goals as goal

pub returns-then-value-lt10 : goal.returns-then-value-lt10
returns-then-value-lt10 t c = put_one_digit c.args.value c.if-value-lt10.true (put_byte c.args.out.now 0 (48 + c.args.value) (omega (arith, c.requires)))

pub bounds-out-written : goal.bounds-out-written
bounds-out-written t c =
    let tenth = c.put_number_in_range-written in
    omega (arith, tenth_ends c.args.value c.ranges.value.fits tenth.ensures, c.requires, tenth.auto.out)

pub returns : goal.returns
returns t c =
    let tenth = c.put_number_in_range-written in
    let inside : tenth.result < length tenth.new.out =
    omega (arith, tenth_ends c.args.value c.ranges.value.fits tenth.ensures, c.requires, tenth.auto.out) in
    put_last_digit c.args.value c.ranges.value.fits c.if-value-lt10.false (omega arith) tenth.ensures
    (put_byte tenth.new.out tenth.result (48 + c.args.value % 10) inside)
