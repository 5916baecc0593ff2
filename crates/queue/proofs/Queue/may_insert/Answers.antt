-- `Queue::may_insert` meets its contract: the tests are the refusals of insert, in their order.
use Rattle.std.proofs.Common.{sym, ◌∙◌, lt_irrefl, lt_of_lt_of_le}
use Rattle.places.specs.Order.{triple}
use Rattle.queue.specs.Layout.Answers.{full_if, room_if, filed_if, not_filed_if, insert_bounds, insert_fits, insert_released}
use Rattle.queue.proofs.Refused.{refuses_5, insert_answers_6, insert_answers_21, insert_answers_22, insert_answers_23, insert_answers_0}
use Rattle.queue.proofs.Queue.may_insert.Goals as goal
use Rattle.queue.proofs.Queue.may_insert.Goals.{then-entry-via-then-entry, then-entry-via-else-entry+then-not-key_fits}

pub returns-then-not-is_sound : goal.returns-then-not-is_sound
returns-then-not-is_sound c = refuses_5 c.args.self.now _ (c.is_sound.ensures.if_false c.if-not-is_sound.true)

pub returns-then-not-is_one_to : goal.returns-then-not-is_one_to
returns-then-not-is_one_to c =
    let a = c.args in
    insert_answers_6 a.self.now a.entry.id a.entry.key a.entry.release (c.is_sound.ensures.if_true c.if-not-is_sound.false) (c.is_one_to.ensures.if_false c.if-not-is_one_to.true)

pub returns-then-is_none : goal.returns-then-is_none
returns-then-is_none c =
    let a = c.args in
    insert_answers_21 a.self.now a.entry.id a.entry.key a.entry.release (c.is_sound.ensures.if_true c.if-not-is_sound.false) (c.is_one_to.ensures.if_true c.if-not-is_one_to.false)
    (full_if a.self.now _ c.first_free.ensures c.if-is_none.ensures)

pub returns-then-is_some : goal.returns-then-is_some
returns-then-is_some c =
    let a = c.args in
    insert_answers_22 a.self.now a.entry.id a.entry.key a.entry.release (c.is_sound.ensures.if_true c.if-not-is_sound.false) (c.is_one_to.ensures.if_true c.if-not-is_one_to.false)
    (room_if a.self.now _ c.first_free.ensures c.if-is_none.ensures) (filed_if a.self.now a.entry.id _ c.place_holding.ensures (sym c.is_some.ensures ∙ c.if-is_some.true))

pub returns-then-entry : goal.returns-then-entry
returns-then-entry c =
    let a = c.args in
    let q = a.self.now in
    let sound = c.is_sound.ensures.if_true c.if-not-is_sound.false in
    let new = triple a.entry.key a.entry.release a.entry.id in
    insert_answers_23 q a.entry.id a.entry.key a.entry.release sound (c.is_one_to.ensures.if_true c.if-not-is_one_to.false)
    (room_if q _ c.first_free.ensures c.if-is_none.ensures) (not_filed_if q a.entry.id _ c.place_holding.ensures (sym c.is_some.ensures ∙ c.if-is_some.false))
    (λ within. elim c.then-entry.branch [
      | then-entry-via-then-entry w ↦ lt_irrefl _ (lt_of_lt_of_le w.if-entry.true (insert_released q sound new within))
      | then-entry-via-else-entry+then-not-key_fits w ↦
          let fits = rw (w.places.ensures.0, w.places.ensures.1, w.from.ensures) at w.key_fits.ensures in
          fits.if_false w.if-not-key_fits.true (insert_fits q sound new within)
    ])

pub returns : goal.returns
returns c =
    let a = c.args in
    let q = a.self.now in
    let sound = c.is_sound.ensures.if_true c.if-not-is_sound.false in
    let fits = rw (c.places.ensures.0, c.places.ensures.1, c.from.ensures) at c.key_fits.ensures in
    insert_answers_0 q a.entry.id a.entry.key a.entry.release sound (c.is_one_to.ensures.if_true c.if-not-is_one_to.false)
    (room_if q _ c.first_free.ensures c.if-is_none.ensures) (not_filed_if q a.entry.id _ c.place_holding.ensures (sym c.is_some.ensures ∙ c.if-is_some.false))
    (insert_bounds q sound (triple a.entry.key a.entry.release a.entry.id) c.if-entry.false (fits.if_true c.if-not-key_fits.false))
