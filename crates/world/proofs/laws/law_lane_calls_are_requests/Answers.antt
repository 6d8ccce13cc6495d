use Rattle.world.specs.Lanes.{peek, publish, retire, serve_next, submit}
use Rattle.world.proofs.Requesting.{keeps_peek, keeps_publish, keeps_retire, keeps_serve_next, keeps_submit, reaches}
use Rattle.world.proofs.laws.law_lane_calls_are_requests.Goals as goal

pub returns-clause-publish : goal.returns-clause-publish
returns-clause-publish c = λ queue producer ticket words. reaches (publish queue producer ticket words) (keeps_publish queue producer ticket words)

pub returns-clause-submit : goal.returns-clause-submit
returns-clause-submit c = λ queue producer words. reaches (submit queue producer words) (keeps_submit queue producer words)

pub returns-clause-peek : goal.returns-clause-peek
returns-clause-peek c = λ queue. reaches (peek queue) (keeps_peek queue)

pub returns-clause-retire : goal.returns-clause-retire
returns-clause-retire c = λ queue. reaches (retire queue) (keeps_retire queue)

pub returns-clause-serve_next : goal.returns-clause-serve_next
returns-clause-serve_next c = λ queue. reaches (serve_next queue) (keeps_serve_next queue)
