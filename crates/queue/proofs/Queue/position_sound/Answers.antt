use Rattle.std.proofs.Common.{ap, ◌∙◌}
use Rattle.places.specs.Order.{Entry}
use Rattle.queue.specs.Layout.{next_at}
use Rattle.queue.specs.Layout.Ranks.{rank}
use Rattle.queue.specs.Layout.Walk.{reached_first, reached_next, walk_falls, stop_at_place, stop_at_head}
use Rattle.queue.proofs.Queue.position_sound.Goals as goal

pub loop-n-init : goal.loop-n-init
loop-n-init c =
    let q = c.args.self.now in
    reached_first q c.requires.0 c.args.entry.key _ c.next_of-n.result c.requires.1.some (c.next_of-n.ensures ∙ ap (next_at q) c.head_of.ensures)

pub returns-then-rank-rank_of : goal.returns-then-rank-rank_of
returns-then-rank-rank_of c =
    let loop = c.loop-n in
    let there = c.rank_of.ensures ∙ ap (λ (e : Entry). rank e.release e.id) c.entry_at.ensures in
    stop_at_place c.args.self.now c.requires.0 c.args.entry.key _ loop.n loop.invariant c.loop-n-test.true
    (rw (← c.rank_of-rank.ensures, ← there) c.if-rank-rank_of.true)

pub loop-n-smaller : goal.loop-n-smaller
loop-n-smaller c =
    let loop = c.loop-n in
    walk_falls c.args.self.now c.requires.0 loop.n c.next_of-n-in-loop-n.result loop.invariant.node c.loop-n-test.true c.next_of-n-in-loop-n.ensures

pub loop-n-preserved : goal.loop-n-preserved
loop-n-preserved c =
    let loop = c.loop-n in
    let there = c.rank_of.ensures ∙ ap (λ (e : Entry). rank e.release e.id) c.entry_at.ensures in
    reached_next c.args.self.now c.requires.0 c.args.entry.key _ loop.n c.next_of-n-in-loop-n.result c.requires.1 loop.invariant c.loop-n-test.true
    (rw (← c.rank_of-rank.ensures, ← there) c.if-rank-rank_of.false) c.next_of-n-in-loop-n.ensures

pub returns : goal.returns
returns c =
    let loop = c.loop-n in
    stop_at_head c.args.self.now c.requires.0 c.args.entry.key _ loop.n c.requires.1.small loop.invariant c.loop-n-test.false
