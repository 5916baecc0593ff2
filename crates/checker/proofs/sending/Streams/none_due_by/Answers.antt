-- `checker::sending::Streams::none_due_by` meets its contract: the due times are those of the records.
use Rattle.checker.proofs.Facts.Columns.{shown}
use Rattle.checker.proofs.Facts.Rows.{none_due, none_by}
use Rattle.checker.proofs.sending.Streams.none_due_by.Goals as goal

pub returns : goal.returns
returns c =
    let shows = shown c.self.view_is c.self.invariant in
    record {
      if_true = λ is. none_due shows (c.none_by_in_range.ensures.if_true is);
      if_false = λ is none. c.none_by_in_range.ensures.if_false is (none_by shows none);
    }
