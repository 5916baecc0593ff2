-- `Places::ids_differ` meets its contract: each place is asked.
use Rattle.std.proofs.Common.{rules, refl}
use Rattle.std.proofs.lemmas.Iterator.{cases_from_all, YieldsList-from_range}
use Rattle.basics.specs.Limits.{places}
use Rattle.basics.specs.NewIds.{at, New}
use Rattle.places.specs.Facts.Soundness.{all_tested}
use borrow.Author.Tests.{tests}
use Rattle.places.proofs.Places.ids_differ.Goals as goal

pub returns : goal.returns
returns c =
    let new = New (at c.args.self.ids.now) in
    all_tested places new _
    (cases_from_all _ _ _ new (λ i. new i → ⊥) c.all.ensures.ran (YieldsList-from_range 0 64 64 refl refl)
    (λ x q k. search (rules, tests)) (λ x q k. search (rules, tests)))
