-- `checker::sending::Streams::row_of` meets its contract: the columns can be searched by halving, and a number that is not there is no record's id.
use Rattle.checker.proofs.Facts.Rows.{columns_rise, not_there}
use Rattle.checker.proofs.sending.Streams.row_of.Goals as goal

pub place_among_rising-row-requires : goal.place_among_rising-row-requires
place_among_rising-row-requires c = columns_rise c.self.invariant

pub returns-then-self-row : goal.returns-then-self-row
returns-then-self-row c =
    rw (← c.self.view_is, ← c.from-id.ensures) (not_there c.self.invariant c.place_among_rising-row.ensures c.if-self-row.true)
