-- `Queue::may_delete` meets its contract: the tests are the refusals of delete, in their order.
use Rattle.queue.specs.Layout.Answers.{filed_if, not_filed_if}
use Rattle.queue.proofs.Refused.{refuses_5, refuses_24, delete_answers_0}
use Rattle.queue.proofs.Queue.may_delete.Goals as goal

pub returns-then-not-is_sound : goal.returns-then-not-is_sound
returns-then-not-is_sound c = refuses_5 c.args.self.now _ (c.is_sound.ensures.if_false c.if-not-is_sound.true)

pub returns-then-is_none : goal.returns-then-is_none
returns-then-is_none c =
    let q = c.args.self.now in
    let id = c.args.id in
    refuses_24 q (c.is_sound.ensures.if_true c.if-not-is_sound.false) id _ (not_filed_if q id _ c.place_holding.ensures c.if-is_none.ensures)

pub returns : goal.returns
returns c =
    let q = c.args.self.now in
    let id = c.args.id in
    delete_answers_0 q id (c.is_sound.ensures.if_true c.if-not-is_sound.false) (filed_if q id _ c.place_holding.ensures c.if-is_none.ensures)
