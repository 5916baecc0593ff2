use Rattle.std.proofs.Common.{◌≡◌, refl, true, arith, ◌∙◌, length-set}
use Rattle.basics.specs.Limits.{places}
use Rattle.basics.specs.Facts.Decides.{decides_no}
use Rattle.places.specs.Facts.Marks.{no_marks}
use Rattle.places.specs.Facts.Filing.{filed_none, filed_free, counted_few, filed_all, row_absent, row_again, row_new}
use Rattle.places.proofs.Places.file_in_range.Goals as goal
use Rattle.places.proofs.Places.file_in_range.Goals.{then-self-x-gt0+in-Some+else-met-i, else-self-x-gt0}

pub loop-x-init : goal.loop-x-init
loop-x-init c = record { long = refl; filed = filed_none _ (no_marks places) }

pub returns-in_default : goal.returns-in_default
returns-in_default c =
    let loop = c.loop-x in
    decides_no (row_absent loop.met c.requires loop.invariant.filed c.loop-x-test.true c.if-self-x-gt0.true c.in_default.ensures)

pub returns-then-met-i : goal.returns-then-met-i
returns-then-met-i c =
    let loop = c.loop-x in
    decides_no (row_again loop.met c.requires loop.invariant.filed c.loop-x-test.true c.if-self-x-gt0.true c.in-Some.ensures c.if-met-i.true)

pub overflow_add-n : goal.overflow_add-n
overflow_add-n c = omega (arith, counted_few c.loop-x.invariant.filed, c.requires.few)

pub loop-x-preserved : goal.loop-x-preserved
loop-x-preserved c =
    let loop = c.loop-x in
    let inv = loop.invariant in
    elim c.if-self-x-gt0.branch [
      | then-self-x-gt0+in-Some+else-met-i w ↦ rw (w.met-is, w.n-is) (record {
        long = length-set loop.met w.in-Some.i true ∙ inv.long;
        filed = row_new loop.met c.requires inv.filed c.loop-x-test.true w.if-self-x-gt0.true w.in-Some.ensures w.if-met-i.false inv.long;
      })
      | else-self-x-gt0 w ↦ rw (w.met-is, w.n-is) (record { long = inv.long; filed = filed_free inv.filed (omega (arith, w.if-self-x-gt0.false)) })
    ]

pub returns : goal.returns
returns c =
    let loop = c.loop-x in
    let e : loop.x ≡ places = omega arith in
    filed_all c.requires.ascend (rw e at loop.invariant.filed)
