-- Code that neither divides nor takes a remainder. A function's code is here what its contract is proved of, before the compiler's back end.
use Rattle.std.specs.Prelude.{◌≡◌, Bool, true, false, ◌&&◌, ◌||◌, List, [], ◌∷◌}
use Rattle.std.proofs.Math.Path.{refl}
use Rattle.std.proofs.Math.Bool.{So}
use lib.Text.{eqt}
use mir.Syntax.{Op2, add, sub, mul, div, rem, bit_and, bit_or, bit_xor, shl, shr, eq, ne, lt, le, with_addr, offset, ptr_eq, ptr_ne, ptr_lt, ptr_le}
use mir.Syntax.{float_add, float_sub, float_mul, float_div, float_rem, float_eq, float_ne, float_lt, float_le}
use mir.Syntax.{wrap_add, wrap_sub, wrap_mul, map2, mask, shuffle, swizzle, fold, dot4}
use mir.Syntax.{unsigned, Place, Opd, Sig, Rv, rv_opd, op2, op1, addr_of, aggregate, repeat, repeat_p, select}
use mir.Syntax.{Symbol, Callee, fn, fn₀, method, forked, awaited, prim}
use mir.Syntax.{Fn, Body, skip, seq, assign, block, loop, cond, switch, exit, return, call, unreachable, call_v, lend_static}
use mir.Syntax.{Arms, arm, default, no_default}

-- Annex 12.20: the functions that a loop over lengths may call, and they each other: each of them is held to the same in its own proof file.
unfoldable pub in_loops : List Symbol
in_loops =
    "table::lengths::sums_at"
    ∷ "table::lengths::advance"
    ∷ "table::lengths::hit"
    ∷ "table::lengths::time_after"
    ∷ "table::start::rounds_from"
    ∷ "table::start::lesser"
    ∷ []

-- Annex 12.20: whether an operation on two values is neither a division nor a remainder. All of them stand here, so that a new one has to be looked at.
-- One that goes lane by lane does what its operation does.
unfoldable pub is_plain : Op2 → Bool
is_plain (add s) = true
is_plain (sub s) = true
is_plain (mul s) = true
is_plain (div s) = false
is_plain (rem s) = false
is_plain bit_and = true
is_plain bit_or = true
is_plain bit_xor = true
is_plain shl = true
is_plain (shr s) = true
is_plain eq = true
is_plain ne = true
is_plain (lt s) = true
is_plain (le s) = true
is_plain with_addr = true
is_plain offset = true
is_plain ptr_eq = true
is_plain ptr_ne = true
is_plain ptr_lt = true
is_plain ptr_le = true
is_plain float_add = true
is_plain float_sub = true
is_plain float_mul = true
is_plain float_div = false
is_plain float_rem = false
is_plain float_eq = true
is_plain float_ne = true
is_plain float_lt = true
is_plain float_le = true
is_plain wrap_add = true
is_plain wrap_sub = true
is_plain wrap_mul = true
is_plain (map2 o) = is_plain o
is_plain (mask o) = is_plain o
is_plain (shuffle lanes) = true
is_plain (swizzle k) = true
is_plain (fold o) = is_plain o
is_plain dot4 = true

-- Annex 12.20: of what an assignment stores, only an operation on two values can divide.
unfoldable pub plain_value : Rv → Bool
unfolding is_plain
plain_value (rv_opd o) = true
plain_value (op2 o a b) = is_plain o
plain_value (op1 o a) = true
plain_value (addr_of p) = true
plain_value (aggregate os) = true
plain_value (repeat o n) = true
plain_value (repeat_p o n) = true
plain_value (select m a b) = true

-- Annex 12.20: whether a name is one of these.
unfoldable pub among : Symbol → List Symbol → Bool
among n [] = false
among n (m ∷ ms) = eqt n m || among n ms

-- Annex 12.20: a call that names a function does not divide if it names one of those above. No other call is taken.
unfoldable pub plain_call : Callee → Bool
unfolding among in_loops
plain_call (fn n args) = among n in_loops
plain_call (method d k args) = false
plain_call (forked types f) = false
plain_call (awaited types) = false
plain_call (prim act) = false

unfoldable mutual
  unfolding plain_value plain_call

  -- Annex 12.20: no division, no remainder, and no call but of the functions above.
  pub never_divides : Body → Bool
  never_divides skip = true
  never_divides (seq a b) = never_divides a && never_divides b
  never_divides (assign p v) = plain_value v
  never_divides (block b) = never_divides b
  never_divides (loop b) = never_divides b
  never_divides (cond c a b) = never_divides a && never_divides b
  never_divides (switch c arms) = arms_never_divide arms
  never_divides (exit k) = true
  never_divides return = true
  never_divides (call f os p) = plain_call f
  never_divides unreachable = true
  never_divides (call_v o sig os p) = false
  never_divides (lend_static p type value) = true

  arms_never_divide : Arms → Bool
  arms_never_divide (arm keys b rest) = never_divides b && arms_never_divide rest
  arms_never_divide (default b) = never_divides b
  arms_never_divide no_default = true

unfoldable mutual
  unfolding never_divides

  -- Annex 12.20: the same of each loop in a body, whatever stands outside the loops.
  pub loops_never_divide : Body → Bool
  loops_never_divide skip = true
  loops_never_divide (seq a b) = loops_never_divide a && loops_never_divide b
  loops_never_divide (assign p v) = true
  loops_never_divide (block b) = loops_never_divide b
  loops_never_divide (loop b) = never_divides b
  loops_never_divide (cond c a b) = loops_never_divide a && loops_never_divide b
  loops_never_divide (switch c arms) = loops_of_arms_never_divide arms
  loops_never_divide (exit k) = true
  loops_never_divide return = true
  loops_never_divide (call f os p) = true
  loops_never_divide unreachable = true
  loops_never_divide (call_v o sig os p) = true
  loops_never_divide (lend_static p type value) = true

  loops_of_arms_never_divide : Arms → Bool
  loops_of_arms_never_divide (arm keys b rest) = loops_never_divide b && loops_of_arms_never_divide rest
  loops_of_arms_never_divide (default b) = loops_never_divide b
  loops_of_arms_never_divide no_default = true

-- Annex 12.20: a function neither divides nor takes a remainder, nor calls one that is not held to the same, ..
abbrev pub NeverDivides : Fn → Type 0
NeverDivides f = So (never_divides f.body)

-- Annex 12.20: .. or so it is in its loops, whatever stands outside of them.
abbrev pub LoopsNeverDivide : Fn → Type 0
LoopsNeverDivide f = So (loops_never_divide f.body)

-- Worked: a remainder deep in a loop, a call of another function, one by its address, a division lane by lane, and one that stands outside the loops or
-- within one.
module _ (c a b : Opd) (p : Place) where
  remainder_refused : never_divides (loop (switch c (arm [] (assign p (op2 (rem unsigned) a b)) no_default))) ≡ false
  unfolding never_divides
  remainder_refused = refl

  other_call_refused : never_divides (call (fn₀ "table::in_range") [] p) ≡ false
  unfolding never_divides
  other_call_refused = refl

  call_by_address_refused : (sig : Sig) → never_divides (call_v c sig [] p) ≡ false
  unfolding never_divides
  call_by_address_refused sig = refl

  lanes_divided_refused : never_divides (assign p (op2 (map2 (div unsigned)) a b)) ≡ false
  unfolding never_divides
  lanes_divided_refused = refl

  outside_loops : loops_never_divide (seq (assign p (op2 (div unsigned) a b)) (loop skip)) ≡ true
  unfolding loops_never_divide
  outside_loops = refl

  within_a_loop_refused : loops_never_divide (block (loop (cond c (assign p (op2 (div unsigned) a b)) skip))) ≡ false
  unfolding loops_never_divide
  within_a_loop_refused = refl
