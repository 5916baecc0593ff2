-- `Queue::may_move` meets its contract: the tests are the refusals of move, in their order, on the key at the id's place.
use Rattle.queue.specs.Layout.Answers.{filed_at, not_filed_at, moved_fits, moved_bounds}
use Rattle.queue.proofs.Refused.{refuses_5, refuses_24, move_answers_23, move_answers_0}
use Rattle.queue.proofs.Queue.may_move.Goals as goal

pub returns-then-not-is_sound : goal.returns-then-not-is_sound
returns-then-not-is_sound c = refuses_5 c.args.self.now _ (c.is_sound.ensures.if_false c.if-not-is_sound.true)

pub returns-in_default : goal.returns-in_default
returns-in_default c =
    let q = c.args.self.now in
    let id = c.args.id in
    refuses_24 q (c.is_sound.ensures.if_true c.if-not-is_sound.false) id _ (not_filed_at q id c.in_default.ensures)

pub returns-then-not-key_fits : goal.returns-then-not-key_fits
returns-then-not-key_fits c =
    let a = c.args in
    let q = a.self.now in
    let sound = c.is_sound.ensures.if_true c.if-not-is_sound.false in
    let filed = filed_at q a.id c.in-Some.x c.in-Some.ensures in
    let fits = rw (c.places.ensures.0, c.places.ensures.1, c.from.ensures, c.from-2.ensures) at c.key_fits.ensures in
    move_answers_23 q a.id a.amount sound filed
    (λ within. fits.if_false c.if-not-key_fits.true (moved_fits q sound a.id c.in-Some.x a.amount filed c.in-Some.ensures.1 within))

pub returns : goal.returns
returns c =
    let a = c.args in
    let q = a.self.now in
    let sound = c.is_sound.ensures.if_true c.if-not-is_sound.false in
    let filed = filed_at q a.id c.in-Some.x c.in-Some.ensures in
    let fits = rw (c.places.ensures.0, c.places.ensures.1, c.from.ensures, c.from-2.ensures) at c.key_fits.ensures in
    move_answers_0 q a.id a.amount sound filed
    (moved_bounds q sound a.id c.in-Some.x a.amount filed c.in-Some.ensures.1 (fits.if_true c.if-not-key_fits.false))
