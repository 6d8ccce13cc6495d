use Rattle.client_threads.proofs.GoingOn.{stays_on_both}
use Rattle.client_threads.proofs.TurnsMade.{one_turn_more}
use Rattle.client_threads.proofs.lanes.run_on.Goals as goal

pub loop-before-preserved : goal.loop-before-preserved
loop-before-preserved g c = (
  stays_on_both g.B.Room.board c.args.broker.now c.args.lane.now c.loop-before.lane c.turn-done.new.lane c.loop-before.invariant.0 c.turn-done.ensures.on,
  one_turn_more g.B.Room.opened c.args.ring.now c.args.lane.now c.loop-before.lane c.turn-done.result c.turn-done.new.lane c.loop-before.invariant.1 c.turn-done.ensures.turn,
)
