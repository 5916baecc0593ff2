-- `Queue::next_sound` meets its contract: the place found holds the head of the entries after the point.
use Rattle.std.proofs.Common.{sym, ap, ◌∙◌}
use Rattle.places.specs.Order.{Entry}
use Rattle.places.specs.Lent.{as_entry}
use Rattle.queue.specs.Layout.Decide.{decide_sound}
use Rattle.queue.specs.declared.Found.{Found}
use Rattle.queue.specs.Layout.First.{after_found, after_none}
use Rattle.queue.proofs.Queue.next_sound.Goals as goal

pub returns-in-Some : goal.returns-in-Some
returns-in-Some c =
    let a = c.args in
    let q = a.self.now in
    ap {B = Found} (λ (e : Entry). record { answer = 0; key = e.key; release = e.release; id = e.id }) c.entry_at.ensures
    ∙ sym (after_found q c.requires (as_entry a.point) (decide_sound q) c.in-Some.x c.in-Some.ensures)

pub returns-in-None : goal.returns-in-None
returns-in-None c =
    let a = c.args in
    sym (after_none a.self.now c.requires (as_entry a.point) (decide_sound a.self.now) c.in-None.ensures)
