-- Answers of tests put together.
use Rattle.std.specs.Prelude.{◌≡◌, Bool, true, false, not, ℕ, ◌≤◌, ◌<◌, leb, ltb, eqb}
use Rattle.std.proofs.Common.{true≢false, lt_irrefl, arith, leb-true, leb-false, ltb-true, ltb-false, eqb-true}
use Rattle.std.proofs.lemmas.Bool.{false≢true, eqb-false, not-true, not-false}
use Rattle.basics.specs.Decides.{Decides}

-- true decides a property that holds ..
pub decides_yes : {P : Type 0} → P → Decides true P
decides_yes holds = record { if_true = λ _. holds; if_false = λ e. absurd (true≢false e) }

-- .. and false one that does not
pub decides_no : {P : Type 0} → (P → ⊥) → Decides false P
decides_no fails = record { if_true = λ e. absurd (false≢true e); if_false = λ _. fails }

-- what follows a test `if !b`
pub failed : {b : Bool} {P : Type 0} → Decides b P → not b ≡ true → P → ⊥
failed {b} d e = d.if_false (not-true b e)

-- past a test `if !b` that was not taken, what b decides holds
pub passed : {b : Bool} {P : Type 0} → Decides b P → not b ≡ false → P
passed {b} d e = d.if_true (not-false b e)

-- what decides a property decides one that says the same
pub same_as : {b : Bool} {P Q : Type 0} → (P → Q) → (Q → P) → Decides b P → Decides b Q
same_as on back d = record { if_true = λ e. on (d.if_true e); if_false = λ e q. d.if_false e (back q) }

-- comparisons decide
pub less_than : (m n : ℕ) → Decides (ltb m n) (m < n)
less_than m n = record { if_true = λ e. ltb-true m n e; if_false = λ e l. lt_irrefl m (omega (arith, ltb-false m n e)) }

-- the test m == n is true exactly if the numbers are equal
pub equal_to : (m n : ℕ) → Decides (eqb m n) (m ≡ n)
equal_to m n = record { if_true = λ e. eqb-true m n e; if_false = λ e. eqb-false m n e }

-- the test m <= n is true exactly if m is at most n
pub no_more_than : (m n : ℕ) → Decides (leb m n) (m ≤ n)
no_more_than m n = record { if_true = λ e. leb-true m n e; if_false = λ e l. lt_irrefl m (omega (arith, leb-false m n e)) }
