use Rattle.std.proofs.Common.{◌≡◌, refl, ap, ◌<◌, length, length-take-le, take, set, get_or, get_or-take, arith}
use Rattle.planner.proofs.Facts.Serving.{none_served, can_send, one_more_served, all_turns, can_move_in_place, served_in_place}
use Rattle.state.specs.declared.Planner.{Planner}
use Rattle.planner.proofs.slots.serve_sound.Goals as goal

pub loop-k-init : goal.loop-k-init
loop-k-init c =
    let long : length c.args.p.now.table.streams ≡ 64 = omega arith in
    record { kept = refl; serving = none_served c.requires.0 long refl }

pub at_next_packet_in_range-requires : goal.at_next_packet_in_range-requires
at_next_packet_in_range-requires c =
    let chosen = c.args.chosen.now in
    let below : c.loop-k.k < chosen.n = omega (arith, c.loop-k-test.true, length-take-le chosen.n chosen.rows (omega arith)) in
    rw (get_or-take chosen.n chosen.rows c.loop-k.k 0 below) (can_send c.requires.0 below c.loop-k.invariant.serving)

pub loop-k-preserved : goal.loop-k-preserved
loop-k-preserved c =
    let now = c.loop-k.p in
    let chosen = c.args.chosen.now in
    let below : c.loop-k.k < chosen.n = omega (arith, c.loop-k-test.true, length-take-le chosen.n chosen.rows (omega arith)) in
    let row = get_or (take chosen.n chosen.rows) c.loop-k.k 0 in
    let next = set now.table.streams row c.at_next_packet_in_range.result in
    record {
      kept =
          ap
          (λ (q : Planner). record {
            setting = q.setting;
            last = q.last;
            waiting = q.waiting;
            table = record { count = q.table.count; streams = next };
            queue = q.queue;
          })
          c.loop-k.invariant.kept;
      serving = rw (get_or-take chosen.n chosen.rows c.loop-k.k 0 below) (one_more_served c.requires.0 below c.loop-k.invariant.serving (rw (← get_or-take chosen.n chosen.rows c.loop-k.k 0 below) c.at_next_packet_in_range.ensures));
    }

pub move_all_sound-requires : goal.move_all_sound-requires
move_all_sound-requires c = let inv = all_turns c.loop-k.invariant.serving (omega (arith, length-take-le c.args.chosen.now.n c.args.chosen.now.rows (omega arith))) in can_move_in_place c.requires.0 inv c.loop-k.invariant.kept

pub returns : goal.returns
returns c =
    let inv = all_turns c.loop-k.invariant.serving (omega (arith, length-take-le c.args.chosen.now.n c.args.chosen.now.rows (omega arith))) in
    served_in_place c.requires.0 inv c.loop-k.invariant.kept c.move_all_sound.ensures c.requires.1
