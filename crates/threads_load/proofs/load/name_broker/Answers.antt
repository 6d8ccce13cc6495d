use Rattle.std.proofs.Common.{ap, ◌∙◌}
use Rattle.client_threads.specs.Boards.{FrontSeen}
use Rattle.threads_load.proofs.Planned.{granted_left}
use Rattle.threads_load.proofs.Shares.{section_share}
use Rattle.threads_load.proofs.load.name_broker.Goals as goal

pub returns-in-Ok-clause-granted : goal.returns-in-Ok-clause-granted
returns-in-Ok-clause-granted g c = granted_left g.B.Room.opened _ _ c.in-Ok.ensures.section

pub returns-in-Ok-clause-front : goal.returns-in-Ok-clause-front
returns-in-Ok-clause-front g c = (c.in-Ok.ensures.front, section_share g.B.Room.opened _ _ c.in-Ok.ensures.section ∙ ap (λ (f : FrontSeen). f.share) c.named-broker.ensures.front)
