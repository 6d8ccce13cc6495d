-- The call is requests in turn, and hands out no part.
use Rattle.uses.proofs.whole_run.submit.Goals as goal

pub returns : goal.returns
returns c = c.law_lane_calls_are_requests.ensures.submit (record { 0 = 1 }) 1 c.args.words.now _ c.submit-sent.result _ c.submit-sent.ensures
