-- `Queue::move_at_sound` meets its contract: the entry is taken out, and put in again at its place under the larger key and release.
use Rattle.std.proofs.Common.{rules, lit<, lt_of_le_of_lt, le_trans}
use Rattle.queue.specs.Linking.{HasShape}
use Rattle.queue.specs.Layout.Change.{move_fits, delete_can_take, move_rank, move_can_put, moved_at}
use Rattle.queue.proofs.Queue.move_at_sound.Goals as goal

pub overflow_add-entry : goal.overflow_add-entry
overflow_add-entry c = record { fits = lt_of_le_of_lt (move_fits c.args.self.now c.args.amount c.args.x c.requires).0 (lit< tt) }

pub overflow_add-entry-2 : goal.overflow_add-entry-2
overflow_add-entry-2 c =
    let fits = move_fits c.args.self.now c.args.amount c.args.x c.requires in
    record { fits = lt_of_le_of_lt (le_trans fits.1 fits.0) (lit< tt) }

pub take_out-requires : goal.take_out-requires
take_out-requires c = delete_can_take c.args.self.now c.args.x c.requires.can.sound c.requires.holds

pub position_sound-n-requires : goal.position_sound-n-requires
position_sound-n-requires c =
    let a = c.args in
    let shape : HasShape a.self.now = search rules in
    rw (c.take_out.ensures, c.from.ensures) (move_rank a.self.now a.amount a.x c.requires shape)

pub put_before-requires-clause-can : goal.put_before-requires-clause-can
put_before-requires-clause-can c =
    let a = c.args in
    let shape : HasShape a.self.now = search rules in
    let position = rw (c.take_out.ensures, c.from.ensures) at c.position_sound-n.ensures in
    rw c.take_out.ensures (move_can_put a.self.now a.amount a.x c.requires shape c.position_sound-n.result position)

pub returns : goal.returns
returns c =
    let a = c.args in
    let shape : HasShape a.self.now = search rules in
    let position = rw (c.take_out.ensures, c.from.ensures) at c.position_sound-n.ensures in
    rw (c.put_before.ensures, c.take_out.ensures, c.from.ensures) (moved_at a.self.now a.amount a.x c.requires shape c.position_sound-n.result position)
