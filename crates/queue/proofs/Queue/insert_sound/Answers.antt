-- `Queue::insert_sound` meets its contract: the entry goes to a free place, linked in before the first node of its bucket with a larger rank.
use Rattle.std.proofs.Common.{rules}
use Rattle.std.proofs.lemmas.Bool.{some_since}
use Rattle.std.proofs.lemmas.Option.{MatchOption-at_some}
use Rattle.places.specs.Order.{triple}
use Rattle.queue.specs.Linking.{HasShape}
use Rattle.queue.specs.Layout.Change.{insert_somewhere, insert_rank, insert_can_put, insert_entries}
use Rattle.queue.proofs.Queue.insert_sound.Goals as goal

pub unwrap-x-requires : goal.unwrap-x-requires
unwrap-x-requires c =
    let a = c.args in
    some_since c.first_free.result _ _ c.first_free.ensures (insert_somewhere a.self.now (triple a.key a.release a.id) c.requires)

pub position_sound-n-requires : goal.position_sound-n-requires
position_sound-n-requires c =
    let a = c.args in
    (c.requires.sound, insert_rank a.self.now (triple a.key a.release a.id) c.requires)

pub put_before-requires-clause-can : goal.put_before-requires-clause-can
put_before-requires-clause-can c =
    let a = c.args in
    let place = MatchOption-at_some _ _ _ c.unwrap-x.ensures c.first_free.ensures in
    insert_can_put a.self.now (triple a.key a.release a.id) c.requires c.unwrap-x.result c.position_sound-n.result place c.position_sound-n.ensures

pub returns : goal.returns
returns c =
    let a = c.args in
    let place = MatchOption-at_some _ _ _ c.unwrap-x.ensures c.first_free.ensures in
    let shape : HasShape a.self.now = search rules in
    rw c.put_before.ensures
    (insert_entries a.self.now (triple a.key a.release a.id) c.requires c.unwrap-x.result c.position_sound-n.result place c.position_sound-n.ensures shape)
