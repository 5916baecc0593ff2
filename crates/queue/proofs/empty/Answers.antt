use Rattle.std.proofs.Common.{refl, lt_irrefl, arith}
use Rattle.std.proofs.lemmas.List.{get_or-replicate}
use Rattle.basics.specs.Limits.{places}
use Rattle.queue.specs.Layout.Heads.{all_alone}
use Rattle.queue.proofs.empty.Goals as goal

pub loop-x-init : goal.loop-x-init
loop-x-init c =
    record {
      size = refl;
      free = λ i below. get_or-replicate 544 i 0 0 (omega arith);
      alone = λ j low high. absurd (lt_irrefl places (omega (arith, low, high)));
    }

pub returns : goal.returns
returns c = all_alone c.loop-x.links c.loop-x.x c.loop-x-test.false c.loop-x.invariant
