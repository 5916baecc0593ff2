-- `Queue::delete_sound` meets its contract: the id has a place, and what is taken out there is its entry alone.
use Rattle.std.proofs.Common.{ℕ, rules, subst}
use Rattle.std.proofs.lemmas.Bool.{some_since}
use Rattle.std.proofs.lemmas.Option.{MatchOption-at_some}
use Rattle.places.specs.Entries.{without}
use Rattle.queue.specs.Layout.{entries}
use Rattle.queue.specs.Layout.Change.{filed_somewhere, filed_place, delete_can_take, delete_entries}
use Rattle.queue.specs.Calls.{HasEntries}
use Rattle.queue.specs.Linking.{HasShape, taken_out}
use Rattle.queue.proofs.Queue.delete_sound.Goals as goal

pub unwrap-x-requires : goal.unwrap-x-requires
unwrap-x-requires c = some_since c.place_of.result _ _ c.place_of.ensures (filed_somewhere c.args.self.now c.args.id c.requires.filed)

pub take_out-requires : goal.take_out-requires
take_out-requires c =
    let a = c.args in
    let place = MatchOption-at_some _ _ _ c.unwrap-x.ensures c.place_of.ensures in
    delete_can_take a.self.now c.unwrap-x.result c.requires.sound (filed_place a.self.now a.id c.unwrap-x.result c.requires.filed place).0

pub returns : goal.returns
returns c =
    let q = c.args.self.now in
    let x = c.unwrap-x.result in
    let here = filed_place q c.args.id x c.requires.filed (MatchOption-at_some _ _ _ c.unwrap-x.ensures c.place_of.ensures) in
    let shape : HasShape q = search rules in
    let left = delete_entries q x c.requires.sound here.0 shape in
    rw c.take_out.ensures (subst (λ (n : ℕ). HasEntries (taken_out q x) (without n (entries q))) here.1 left)
