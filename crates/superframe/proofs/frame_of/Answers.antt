-- `superframe::frame_of` meets its contract: each of its three outcomes is superframe-of's in that case.
use Rattle.std.specs.Prelude.{◌≡◌, List, ℕ, Option, None, Some, ok_or}
use Rattle.std.proofs.Common.{sym, ap, ◌∙◌}
use Rattle.basics.specs.declared.refusals.Refusal.TheVariants.{LongFrame}
use Rattle.superframe.specs.Periods.{AllInRange}
use Rattle.superframe.specs.Superframe.{superframe_of}
use Rattle.superframe.specs.Multiples.{IsLcmWithinLimit, answered_by}
use Rattle.superframe.specs.Facts.Superframe.{refuses_18, gives_lcm, refuses_19}
use Rattle.superframe.proofs.Prefix.{each_place, each_member}
use Rattle.superframe.proofs.frame_of.Goals as goal

-- of periods in range the frame is their least common multiple, where that is within the limit
lcm_or_refusal : (periods : List ℕ) (lcm : Option ℕ) → AllInRange periods → IsLcmWithinLimit periods lcm
    → answered_by (ok_or lcm LongFrame) ≡ superframe_of periods
lcm_or_refusal periods None good above = sym (refuses_19 periods good above)
lcm_or_refusal periods (Some m) good is = sym (gives_lcm periods good m is.0 is.1)

pub returns-then-not-all_in_range : goal.returns-then-not-all_in_range
returns-then-not-all_in_range c = sym (refuses_18 c.args.periods.now (λ good. c.all_in_range.ensures.if_false c.if-not-all_in_range.true (each_place _ good)))

pub returns : goal.returns
returns c =
    let good = each_member _ (c.all_in_range.ensures.if_true c.if-not-all_in_range.false) in
    ap answered_by c.ok_or.ensures.value ∙ lcm_or_refusal c.args.periods.now _ good c.lcm_in_range.ensures
