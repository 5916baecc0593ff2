use Rattle.std.proofs.Common.{length-set, arith}
use Rattle.command.proofs.Facts.Puts.{put_byte, put_in_rest, put_field}
use Rattle.command.proofs.print.put_field_in_range.Goals as goal

pub returns : goal.returns
returns c =
    let out = c.args.out.now in
    put_field c.args.value (omega arith) (put_byte out 0 44 (omega (arith, c.requires)))
    (put_in_rest 1 (omega (arith, length-set out 0 44, c.requires)) c.put_number_in_range.ensures)
