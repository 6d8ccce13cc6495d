use Rattle.client_threads.proofs.GoingOn.{all_still_of, shares_stay}
use Rattle.client_threads.proofs.HandingOver.{still_settled}
use Rattle.client_threads.proofs.lanes.run_lanes.Goals as goal

pub returns-clause-lanes : goal.returns-clause-lanes
returns-clause-lanes g c =
    all_still_of g.B.Room.opened g.B.Room.board c.args.broker.now c.args.lanes.items c.run_any.result.items c.run_any.ensures.count c.run_any.ensures.each

pub returns-clause-settled : goal.returns-clause-settled
returns-clause-settled g c parts settled =
    still_settled g.B.Room.opened g.B.Room.board c.args.broker.now c.args.lanes.items c.run_any.result.items c.run_any.ensures.count c.run_any.ensures.each parts settled

pub returns-clause-shares : goal.returns-clause-shares
returns-clause-shares g c =
    shares_stay g.B.Room.opened g.B.Room.board c.args.broker.now c.args.lanes.items c.run_any.result.items c.run_any.ensures.count c.run_any.ensures.each
