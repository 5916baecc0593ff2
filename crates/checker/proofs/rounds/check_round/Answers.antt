-- `checker::rounds::check_round` meets its contract: the rules are asked for in their order, on the values of the packet in front.
use mathlib.Core.List.{[]}
use native.Mathlib.Omega.{arith}
use Rattle.std.proofs.lemmas.Result.{err_from_is_err_and}
use Rattle.checker.proofs.Facts.Rules.{breaks_front, none_breaks, few_ids, refused_ids, sent_ids, slots_break, rest_breaks, front_passes}
use Rattle.checker.proofs.rounds.check_round.Goals as goal

pub returns-in_default : goal.returns-in_default
returns-in_default c waiting = none_breaks c.in_default.ensures

pub returns-in_err-listed : goal.returns-in_err-listed
returns-in_err-listed c =
    let p = err_from_is_err_and c.from_residual.result c.from_residual.ensures.1 in
    rw (p.1, p.2) (λ waiting. breaks_front _ c.in-Some.ensures.are (c.in_err-listed.ensures waiting c.args.streams.now))

pub shared_ref_as_front-send_all : goal.shared_ref_as_front-send_all
shared_ref_as_front-send_all c = few_ids c.requires (c.in_ok-listed.ensures [] [])

pub send_all-requires : goal.send_all-requires
send_all-requires c = (c.in_ok-listed.ensures [] []).packet.0.start

pub returns-in_err-send_all : goal.returns-in_err-send_all
returns-in_err-send_all c =
    let p = err_from_is_err_and c.from_residual-in_err-send_all.result c.from_residual-in_err-send_all.ensures.1 in
    let refused = c.in_err-send_all.ensures in
    rw (p.1, p.2, refused.0) (λ waiting.
    let three = c.in_ok-listed.ensures waiting c.args.streams.now in
    breaks_front _ c.in-Some.ensures.are (slots_break three (refused_ids c.in-Some.front three refused.1)))

pub overflow_add-front : goal.overflow_add-front
overflow_add-front c = omega (arith, (c.in_ok-listed.ensures [] []).packet.0.start)

pub returns-then-not-none_due_by : goal.returns-then-not-none_due_by
returns-then-not-none_due_by c waiting =
    let three = c.in_ok-listed.ensures waiting c.args.streams.now in
    let sent = sent_ids c.in-Some.front three c.in_ok-send_all.ensures in
    breaks_front _ c.in-Some.ensures.are (rest_breaks three sent (c.none_due_by.ensures.if_false c.if-not-none_due_by.true))

pub returns : goal.returns
returns c waiting =
    let three = c.in_ok-listed.ensures waiting c.args.streams.now in
    let sent = sent_ids c.in-Some.front three c.in_ok-send_all.ensures in
    front_passes c.in-Some.ensures three sent (c.none_due_by.ensures.if_true c.if-not-none_due_by.false)
