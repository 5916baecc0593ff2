-- A test that the checker computes of what the superframe of a list of periods is, for the worked cases of crate demands.
use Rattle.std.specs.Prelude.{◌≡◌, Bool, false, ◌&&◌, List, ℕ, zero, suc, leb, eqb}
use Rattle.std.proofs.Common.{sym, true≢false, leb-true, eqb-true}
use Rattle.std.proofs.Math.Bool.{So, and-eq-true_iff}
use Rattle.basics.specs.Limits.{longest_frame}
use Rattle.superframe.specs.Facts.PeriodTests.{remainders, none_up_to, ranges, above, in_range, tested_lcm}
use Rattle.superframe.specs.Superframe.{superframe_of}
use Rattle.superframe.specs.Facts.Superframe.{gives_lcm, refuses_19}

-- periods in range, with a least common multiple of 1 to 5,040 that is the value, or none up to 5,040, the answer 19 and the value 0
unfoldable pub superframe_test : List ℕ → ℕ → ℕ → Bool
unfolding remainders none_up_to ranges
superframe_test ps zero zero = false
superframe_test ps zero (suc b) = ranges ps && ((eqb (remainders ps (suc b)) 0 && none_up_to ps b) && leb (suc b) longest_frame)
superframe_test ps (suc n) value = ranges ps && ((eqb (suc n) 19 && eqb value 0) && none_up_to ps longest_frame)

-- where the test of periods, an answer and a value is passed, superframe gives that answer and value for the periods
pub tested_superframe : (ps : List ℕ) (answer value : ℕ) → So (superframe_test ps answer value) → superframe_of ps ≡ record { answer = answer; value = value }
unfolding superframe_test
tested_superframe ps zero zero tested = absurd (true≢false (sym tested))
tested_superframe ps zero (suc b) tested =
    let range = (and-eq-true_iff (ranges ps) ((eqb (remainders ps (suc b)) 0 && none_up_to ps b) && leb (suc b) longest_frame)).0 tested in
    let low = (and-eq-true_iff (eqb (remainders ps (suc b)) 0 && none_up_to ps b) (leb (suc b) longest_frame)).0 range.1 in
    let least = (and-eq-true_iff (eqb (remainders ps (suc b)) 0) (none_up_to ps b)).0 low.0 in
    gives_lcm ps (in_range ps range.0) (suc b)
    (tested_lcm ps b (eqb-true (remainders ps (suc b)) 0 least.0) least.1) (leb-true (suc b) longest_frame low.1)
tested_superframe ps (suc n) value tested =
    let range = (and-eq-true_iff (ranges ps) ((eqb (suc n) 19 && eqb value 0) && none_up_to ps longest_frame)).0 tested in
    let high = (and-eq-true_iff (eqb (suc n) 19 && eqb value 0) (none_up_to ps longest_frame)).0 range.1 in
    let numbers = (and-eq-true_iff (eqb (suc n) 19) (eqb value 0)).0 high.0 in
    rw (eqb-true (suc n) 19 numbers.0, eqb-true value 0 numbers.1)
    (refuses_19 ps (in_range ps range.0) (λ m common. above ps longest_frame m high.1 common))
