use Rattle.std.proofs.Common.{List, [], ◌∷◌, ◌++◌, ◌∙◌, subst, sym}
use Rattle.client_threads.specs.Lanes.{LaneSeen}
use Rattle.threads_load.specs.Stages.{AreOf}
use Rattle.threads_load.proofs.Handing.{handed_of, none_left}
use Rattle.threads_load.proofs.Shares.{handed_keep, same_keep}
use Rattle.threads_load.proofs.running.settle_part.Goals as goal

pub returns-in-Ok-clause-parts : goal.returns-in-Ok-clause-parts
returns-in-Ok-clause-parts c = none_left c.settle.new.self ∙ c.in-Ok.ensures.parts

pub returns-in-Ok-clause-queues : goal.returns-in-Ok-clause-queues
returns-in-Ok-clause-queues c = λ queues are. handed_of queues c.args.lanes.now.items c.settle.new.lanes.items c.in-Ok.ensures.lanes are

pub returns-in-Err-clause-parts : goal.returns-in-Err-clause-parts
returns-in-Err-clause-parts c = λ i. c.in-Err.ensures.back.1 i ++ c.in-Err.ensures.back.0 i ∷ []

pub returns-in-Err-clause-queues : goal.returns-in-Err-clause-queues
returns-in-Err-clause-queues c = λ queues are. subst (λ (ls : List LaneSeen). AreOf queues ls) (sym c.in-Err.ensures.back.2) are

pub returns-in-Ok-clause-shares : goal.returns-in-Ok-clause-shares
returns-in-Ok-clause-shares c = handed_keep c.args.lanes.now.items c.settle.new.lanes.items c.in-Ok.ensures.lanes

pub returns-in-Err-clause-shares : goal.returns-in-Err-clause-shares
returns-in-Err-clause-shares c = same_keep c.args.lanes.now.items c.settle.new.lanes.items c.in-Err.ensures.back.2
