-- `queue::links::rank_of` meets its contract: id 0 stands at a free place.
use mathlib.Core.Path.{sym}
use native.Mathlib.Omega.{arith}
use Rattle.queue.specs.Layout.Ranks.{rank_some, rank_none}
use Rattle.queue.proofs.links.rank_of.Goals as goal

pub returns-then-entry-lt1 : goal.returns-then-entry-lt1
returns-then-entry-lt1 c = sym (rank_none _ _ (omega (arith, c.if-entry-lt1.true)))

pub returns : goal.returns
returns c = rw (c.from.ensures, c.from-2.ensures) (sym (rank_some _ _ c.if-entry-lt1.false))
