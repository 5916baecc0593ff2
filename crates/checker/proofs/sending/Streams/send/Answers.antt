-- `checker::sending::Streams::send` meets its contract: the test of the id's row is that of its record, and only its due time moves.
use native.Mathlib.Omega.{arith}
use Rattle.std.specs.Prelude.{refl}
use Rattle.checker.proofs.Facts.Columns.{shown, are_columns, sent_shown}
use Rattle.checker.proofs.Facts.Rows.{row_refused, next_due_fits, row_sent}
use Rattle.checker.proofs.sending.Streams.send.Goals as goal

pub returns-then-not-rides : goal.returns-then-not-rides
returns-then-not-rides c =
    let row = c.in-Some.ensures in
    (refl, row_refused (shown c.self.view_is c.self.invariant) row.0 row.1 (c.rides.ensures.if_false c.if-not-rides.true))

pub overflow_add-self : goal.overflow_add-self
overflow_add-self c =
    let row = c.in-Some.ensures in
    omega (arith, next_due_fits (shown c.self.view_is c.self.invariant) row.0 row.1 (c.rides.ensures.if_true c.if-not-rides.false) c.requires)

pub invariant_of-self : goal.invariant_of-self
invariant_of-self c =
    let row = c.in-Some.ensures in
    are_columns (sent_shown (shown c.self.view_is c.self.invariant) c.args.number c.in-Some.row row.0 row.1)

pub returns : goal.returns
returns c =
    let row = c.in-Some.ensures in
    row_sent (shown c.self.view_is c.self.invariant) row.0 row.1 (c.rides.ensures.if_true c.if-not-rides.false)
