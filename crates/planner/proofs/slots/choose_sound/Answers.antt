use Rattle.std.proofs.Common.{◌≡◌, ℕ, ◌+◌, ◌∙◌, sym, ap, ◌<◌, length, length-take-le, get_or, get_or-take, subst, arith}
use Rattle.std.proofs.Math.Path.{subst⁻¹}
use Rattle.basics.specs.Places.{IsPlaceAmong}
use Rattle.state.specs.Content.{content, slots_of}
use Rattle.planner.specs.Needs.{with_chosen}
use Rattle.planner.proofs.Facts.Choosing.{Visited, can_walk, can_look_up, full_chosen, all_chosen, one_more_taken_in, one_more_skipped_in}
use Rattle.planner.proofs.slots.choose_sound.Goals as goal
use Rattle.planner.proofs.slots.choose_sound.Goals.{then-streams-row, else-streams-row}

pub in_order_sound-order-requires : goal.in_order_sound-order-requires
in_order_sound-order-requires c =
    let long : length c.args.p.now.table.streams ≡ 64 = omega arith in
    can_walk c.requires long

pub returns-then-chosen-slots : goal.returns-then-chosen-slots
returns-then-chosen-slots c =
    let long : length c.args.p.now.table.streams ≡ 64 = omega arith in
    full_chosen c.requires long c.loop-i.invariant (c.if-chosen-slots.true ∙ c.stream_slots-slots.ensures)

pub place_among_rising-row-requires : goal.place_among_rising-row-requires
place_among_rising-row-requires c =
    let long : length c.args.p.now.table.streams ≡ 64 = omega arith in
    can_look_up c.requires long c.ids_in_range-ids.ensures

pub loop-i-preserved : goal.loop-i-preserved
loop-i-preserved c =
    let p = c.args.p.now in
    let long : length c.args.p.now.table.streams ≡ 64 = omega arith in
    let row = c.place_among_rising-row.result in
    let order = c.in_order_sound-order.result in
    let below : c.loop-i.i < p.table.count = omega (arith, c.loop-i-test.true, length-take-le p.table.count order.ids (omega arith)) in
    let same_id = get_or-take p.table.count order.ids c.loop-i.i 0 below in
    let in_row = subst (λ (n : ℕ). IsPlaceAmong c.ids_in_range-ids.result n row) (c.from.ensures ∙ same_id) c.place_among_rising-row.ensures in
    let not_full = λ (full : c.loop-i.chosen.n ≡ slots_of (content p)). c.if-chosen-slots.false (full ∙ sym c.stream_slots-slots.ensures) in
    let now_visited = Visited p.queue p.table (slots_of (content p)) c.args.start (c.loop-i.i + 1) in
    elim c.if-streams-row.branch [
      | then-streams-row w ↦
          subst⁻¹ now_visited (w.chosen-is ∙ w.push.ensures ∙ ap (λ (n : ℕ). with_chosen c.loop-i.chosen n (get_or order.places c.loop-i.i 0) row) same_id)
          (one_more_taken_in c.requires long c.loop-i.invariant below c.in_order_sound-order.ensures c.ids_in_range-ids.ensures in_row not_full
          w.if-streams-row.true)
      | else-streams-row w ↦
          subst⁻¹ now_visited w.chosen-is
          (one_more_skipped_in c.requires long c.loop-i.invariant below c.in_order_sound-order.ensures c.ids_in_range-ids.ensures in_row
          w.if-streams-row.false)
    ]

pub returns : goal.returns
returns c =
    let long : length c.args.p.now.table.streams ≡ 64 = omega arith in
    all_chosen c.requires long c.loop-i.invariant
    (omega (arith, c.loop-i-test.false, length-take-le c.args.p.now.table.count c.in_order_sound-order.result.ids (omega arith)))
