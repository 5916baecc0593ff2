use native.Mathlib.Omega.{arith}
use Rattle.std.proofs.Common.{◌≡◌, List, ℕ, ◌+◌, ◌<◌, length, sym, subst}
use Rattle.std.proofs.lemmas.Result.{err_from_is_err_and}
use Rattle.state.specs.declared.Planner.{Planner}
use Rattle.command.specs.Lines.{IsLineEnd}
use Rattle.command.specs.Runs.{part_of}
use Rattle.accept.specs.Script.{IsRun, IsUndone, Leaves, no_line, one_more}
use Rattle.accept.specs.declared.script.Undone.{Undone}
use Rattle.accept.proofs.script.planner_of.Goals as goal

-- a line that was not done leaves its planner too
undone_leaves : {script : List ℕ} {from number to : ℕ} {p : Planner} {undone : Undone} → Leaves script from number p → from < length script
    → IsLineEnd script from to → (undone.number ≡ number + 1) × IsRun p (number + 1) (part_of script from to) undone.planner → IsUndone script undone
undone_leaves {script} {to = to} {undone = undone} before more end (same, run) =
    record { place = to + 1; left = subst (λ (n : ℕ). Leaves script (to + 1) n undone.planner) (sym same) (one_more before more to end run) }

pub loop-from-init : goal.loop-from-init
loop-from-init c = (omega arith, no_line c.beginning.ensures.closed)

pub returns-in_err-planner : goal.returns-in_err-planner
returns-in_err-planner c =
    let error = err_from_is_err_and c.from_residual.result c.from_residual.ensures.1 in
    rw (error.1, error.2) (undone_leaves c.loop-from.invariant.1 c.loop-from-test.true c.line_end_in_range-to.ensures c.in_err-planner.ensures)

pub loop-from-preserved : goal.loop-from-preserved
loop-from-preserved c =
    let (few, left) = c.loop-from.invariant in
    let end = c.line_end_in_range-to in
    (omega (arith, few, end.ensures.after), one_more left c.loop-from-test.true end.result end.ensures c.in_ok-planner.ensures)

pub returns : goal.returns
returns c =
    let loop = c.loop-from in
    record { place = loop.from; lines = loop.number; all = omega (arith, c.loop-from-test.false); left = loop.invariant.1 }
