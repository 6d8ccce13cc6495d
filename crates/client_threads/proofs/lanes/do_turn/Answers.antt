use Rattle.client_threads.proofs.Turning.{serves_both}
use Rattle.client_threads.proofs.lanes.do_turn.Goals as goal

pub returns-clause-serves : goal.returns-clause-serves
returns-clause-serves c = serves_both c.args.lane.now c.serve-served.new.lane c.advance-advanced.new.lane c.args.core.now.history c.serve-served.new.core.history c.advance-advanced.new.core.history c.serve-served.ensures.serves c.advance-advanced.ensures.serves

pub returns-clause-does : goal.returns-clause-does
returns-clause-does c = record { mid = c.serve-served.new.lane; between = c.serve-served.new.core.history; serves = c.serve-served.ensures.found; advances = c.advance-advanced.ensures.advances }
