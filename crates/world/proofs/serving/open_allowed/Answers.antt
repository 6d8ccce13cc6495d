-- The ring can be made, and without memory all is as before.
use Rattle.std.proofs.Common.{ap, refl, inr, Err}
use Rattle.core_model.specs.declared.event.Event.TheVariants.{Open}
use Rattle.core_model.specs.declared.refusal.Refusal.TheVariants as refusal
use Rattle.core_model.specs.Legal.{may_lack_memory}
use Rattle.core_model.specs.Owed.{Owed}
use Rattle.ring_core.specs.Machine.{judged_size}
use Rattle.world.proofs.Handing.{allowed_fits}
use Rattle.world.proofs.serving.open_allowed.Goals as goal

pub make_ring-requires-clause-size : goal.make_ring-requires-clause-size
make_ring-requires-clause-size c =
    (allowed_fits c.args.core.now.history c.args.opening.client c.args.opening.agent c.args.opening.size c.args.opening.producers c.args.queue c.requires).0

pub make_ring-requires-clause-producers : goal.make_ring-requires-clause-producers
make_ring-requires-clause-producers c =
    (allowed_fits c.args.core.now.history c.args.opening.client c.args.opening.agent c.args.opening.size c.args.opening.producers c.args.queue c.requires).1

pub returns-in-Err : goal.returns-in-Err
returns-in-Err c =
    let may = ap (λ (owing : Owed). may_lack_memory (Open c.args.opening.client c.args.opening.agent (judged_size c.args.opening.size c.args.opening.producers)) owing) c.requires in
    (Err refusal.OutOfMemory, inr (record { may = may; asks = refl; reply_is = refl; history_is = refl }), refl, c.in-Err.ensures.rings)
