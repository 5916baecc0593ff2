-- `checker::check` meets its contract: the round that breaks a rule is the one behind those that pass.
use native.Mathlib.Omega.{arith}
use Rattle.checker.proofs.Facts.Verdicts.{verdict_of_none, verdict_of_broken, passed_fits}
use Rattle.checker.proofs.check.Goals as goal

pub returns-then-found-eq0 : goal.returns-then-found-eq0
returns-then-found-eq0 c = verdict_of_none c.args.p c.args.plan.now c.find-found.ensures c.if-found-eq0.true

pub overflow_add-result : goal.overflow_add-result
overflow_add-result c = omega (arith, passed_fits c.args.p c.args.plan.now c.find-found.ensures)

pub returns : goal.returns
returns c =
    verdict_of_broken c.args.p c.args.plan.now c.find-found.ensures
    c.if-found-eq0.false
