use Rattle.client_threads.proofs.Gathering.{gathered_one}
use Rattle.client_threads.proofs.settling.settle_queue.Goals as goal

pub returns-clause-gathered : goal.returns-clause-gathered
returns-clause-gathered c =
    gathered_one c.args.keeper.now c.settle_ring.new.keeper c.args.lanes.now.items c.take_lane-lane.new.lanes.items c.take_lane-lane.result c.take_lane-lane.ensures.sums c.settle_ring.ensures.gathered

pub returns-clause-on : goal.returns-clause-on
returns-clause-on c = (c.take_lane-lane.ensures.on c.args.board.now c.requires.board.1).1
