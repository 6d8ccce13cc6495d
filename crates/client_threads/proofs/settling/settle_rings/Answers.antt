use Rattle.std.proofs.Common.{◌≡◌, ◌<◌, ◌∙◌, [], rules, length, map}
use Rattle.client_threads.specs.Desks.{seen}
use Rattle.client_threads.proofs.Gathering.{gathered_both}
use Rattle.client_threads.proofs.Readiness.{going_over, next_ready, settled_next}
use Rattle.client_threads.proofs.settling.settle_rings.Goals as goal

pub loop-desks-preserved : goal.loop-desks-preserved
loop-desks-preserved c =
    let some : 0 < length c.loop-desks.desks.items = search rules in (
      rw (c.remove-desk.ensures.items, c.remove-room.ensures.items, c.push_reserved.ensures.items)
          (settled_next (map seen c.args.desks.items) c.args.ends.items c.args.lanes.items c.loop-desks.desks.items c.loop-desks.rooms.items c.loop-desks.ends.items c.settle_queue.new.ends.items c.loop-desks.lanes.items c.settle_queue.new.lanes.items c.loop-desks.settled.items c.remove-desk.result c.settle_queue.result some c.remove-desk.ensures.value c.loop-desks.invariant.0 c.settle_queue.ensures.settled c.settle_queue.ensures.ends c.settle_queue.ensures.lanes),
      search rules,
      gathered_both c.args.keeper.now c.args.lanes.items c.loop-desks.keeper c.loop-desks.lanes.items c.settle_queue.new.keeper c.settle_queue.new.lanes.items c.loop-desks.invariant.2 c.settle_queue.ensures.gathered,
      c.settle_queue.ensures.knows,
      c.settle_queue.ensures.on,
      c.settle_queue.ensures.gathered.board ∙ c.loop-desks.invariant.5,
    )

pub settle_queue-requires-clause-passes : goal.settle_queue-requires-clause-passes
settle_queue-requires-clause-passes c =
    let some : 0 < length c.loop-desks.desks.items = search rules in
    (next_ready (map seen c.args.desks.items) c.args.ends.items c.args.lanes.items c.loop-desks.desks.items c.loop-desks.rooms.items c.loop-desks.ends.items c.loop-desks.lanes.items c.loop-desks.settled.items c.remove-desk.result c.remove-room.result some c.remove-desk.ensures.value c.remove-room.ensures.value c.loop-desks.invariant.0).belong

pub settle_queue-requires-clause-board : goal.settle_queue-requires-clause-board
settle_queue-requires-clause-board c = (c.loop-desks.invariant.5, c.loop-desks.invariant.4)

pub collect_all-requires-clause-board : goal.collect_all-requires-clause-board
collect_all-requires-clause-board c = (c.loop-desks.invariant.5, c.loop-desks.invariant.4)

pub returns-clause-gathered : goal.returns-clause-gathered
returns-clause-gathered c =
    gathered_both c.args.keeper.now c.args.lanes.items c.loop-desks.keeper c.loop-desks.lanes.items c.collect_all.new.keeper [] c.loop-desks.invariant.2 c.collect_all.ensures.gathered

pub returns-clause-settled : goal.returns-clause-settled
returns-clause-settled c =
    let none : length c.loop-desks.desks.items ≡ 0 = search rules in
    going_over (map seen c.args.desks.items) c.args.ends.items c.args.lanes.items c.loop-desks.desks.items c.loop-desks.rooms.items c.loop-desks.ends.items c.loop-desks.lanes.items c.loop-desks.settled.items none c.loop-desks.invariant.0
