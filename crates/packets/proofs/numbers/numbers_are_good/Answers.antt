use Rattle.std.specs.Prelude.{List, ℕ, ◌-◌, take, drop}
use Rattle.std.proofs.Common.{arith}
use mathlib.Core.Path.{subst}
use lib.Seq.{take_all}
use Rattle.basics.specs.Decides.{Decides}
use Rattle.basics.specs.Facts.Decides.{decides_yes, decides_no}
use Rattle.bits.specs.Facts.Words.{zeros}
use Rattle.packets.specs.Good.{AreMessages, IdsGood}
use Rattle.packets.specs.Facts.Met.{none_met, one_more_met}
use Rattle.packets.specs.Facts.Numbers.{all_tested, good_is_new, rest_decides, ids_alone}
use Rattle.packets.proofs.numbers.numbers_are_good.Goals as goal

pub loop-i-init : goal.loop-i-init
unfolding zeros
loop-i-init c = none_met

pub returns-then-not-is_id : goal.returns-then-not-is_id
returns-then-not-is_id c =
    let no_id = c.is_id.ensures.if_false c.if-not-is_id.true in
    -- the part that was tested ends where the numbers do
    let rest : ℕ → List ℕ = λ end. take (end - c.loop-i.i) (drop c.loop-i.i c.args.numbers.now) in
    rest_decides _ _ c.loop-i-test.true c.loop-i.invariant.good no_id
    (subst (λ (end : ℕ). Decides c.all_messages.result (AreMessages (rest end))) (omega arith) (all_tested _ c.all_messages.ensures))

pub returns-then-is_met : goal.returns-then-is_met
returns-then-is_met c =
    let low = (c.is_id.ensures.if_true c.if-not-is_id.false).1 in
    decides_no (λ good. good_is_new _ _ c.loop-i-test.true good low (c.is_met.ensures.if_true c.if-is_met.true))

pub loop-i-preserved : goal.loop-i-preserved
loop-i-preserved c =
    let is_id = c.is_id.ensures.if_true c.if-not-is_id.false in
    let new = c.is_met.ensures.if_false c.if-is_met.false in
    one_more_met _ _ c.loop-i-test.true c.loop-i.invariant is_id new c.put_below_1024.ensures

pub returns : goal.returns
returns c = decides_yes (ids_alone _ (subst IdsGood (take_all _ _ c.loop-i-test.false) c.loop-i.invariant.good))
