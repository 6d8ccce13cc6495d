use Rattle.threads_load.proofs.running.hand_out.Goals as goal

pub returns-in-Ok-clause-lanes : goal.returns-in-Ok-clause-lanes
returns-in-Ok-clause-lanes g c = c.take_part.ensures.of g.B.Room.board c.args.broker.now c.requires.lanes
