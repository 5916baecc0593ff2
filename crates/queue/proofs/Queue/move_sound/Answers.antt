-- `Queue::move_sound` meets its contract: the id has a place, and the move at that place moves its entry alone.
use Rattle.std.proofs.Common.{ℕ, subst}
use Rattle.std.proofs.lemmas.Bool.{some_since}
use Rattle.std.proofs.lemmas.Option.{MatchOption-at_some}
use Rattle.queue.specs.Layout.{entries}
use Rattle.queue.specs.Calls.{moved, HasEntries}
use Rattle.queue.specs.Layout.Change.{filed_somewhere, filed_place, move_at}
use Rattle.queue.proofs.Queue.move_sound.Goals as goal

pub unwrap-x-requires : goal.unwrap-x-requires
unwrap-x-requires c = some_since c.place_of.result _ _ c.place_of.ensures (filed_somewhere c.args.self.now c.args.id c.requires.filed)

pub move_at_sound-requires : goal.move_at_sound-requires
move_at_sound-requires c =
    let a = c.args in
    move_at a.self.now a.id a.amount c.unwrap-x.result c.requires (MatchOption-at_some _ _ _ c.unwrap-x.ensures c.place_of.ensures)

pub returns : goal.returns
returns c =
    let a = c.args in
    let q = a.self.now in
    let place = MatchOption-at_some _ _ _ c.unwrap-x.ensures c.place_of.ensures in
    let has = (filed_place q a.id c.unwrap-x.result c.requires.filed place).1 in
    subst (λ (n : ℕ). HasEntries c.move_at_sound.new.self (moved n a.amount (entries q))) has c.move_at_sound.ensures.has_entries
