use Rattle.std.proofs.Common.{subst}
use Rattle.access_core.specs.Cores.{Core}
use Rattle.threads_load.specs.Rounds.{parts_of}
use Rattle.threads_load.specs.Stages.{HasQueues}
use Rattle.threads_load.proofs.Endings.{finishes}
use Rattle.threads_load.proofs.load.finish.Goals as goal

pub returns-in_ok-find_queues-in-Ok : goal.returns-in_ok-find_queues-in-Ok
returns-in_ok-find_queues-in-Ok g c = λ producers packets its published.
    let stage = c.args.stage in
    let there = subst (λ (core : Core). HasQueues core c.args.plan.now) c.core_in.ensures c.in_ok-find_queues-in-Ok.ensures in
    finishes g.B.Room.opened c.args.plan.now producers packets c.args.wanted stage.front (parts_of c.args.out) stage.broker stage.ends.items stage.lanes.items c.in-Ok.settlement c.ended_by.result
    c.requires.parts c.requires.ready.granted there c.requires.ready.lanes its c.in-Ok.ensures.passes published c.in-Ok.ensures.settled c.in-Ok.ensures.closed c.ended_by.ensures.core c.ended_by.ensures.parts
    (c.ended_by.ensures.counts _ c.requires.counts) (c.ended_by.ensures.ends c.args.plan.now c.requires.counts)
