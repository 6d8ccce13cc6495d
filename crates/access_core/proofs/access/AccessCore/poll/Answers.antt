-- A poll that is owed a failure finds room for its entry, and isn't refused.
use Rattle.std.proofs.Common.{◌≡◌, ◌∙◌, sym}
use Rattle.core_model.specs.Owed.{enters, refuses}
use Rattle.core_model.specs.declared.outcome.Outcome.TheVariants as outcome
use Rattle.core_model.specs.declared.outcome.Polled.TheVariants as polled_as
use Rattle.core_model.proofs.Room.{failure-finds}
use Rattle.access_core.proofs.access.AccessCore.poll.Goals as goal

pub returns-in_err-place-clause-room : goal.returns-in_err-place-clause-room
returns-in_err-place-clause-room c = λ error effects owing is.
    let finds = failure-finds c.args.self.now.history c.keeps_room.ensures c.args.queue c.args.packet error effects owing in
    let both : enters (outcome.Polled (polled_as.Failed error)) effects ≡ refuses c.in_err-place.field-0.0 = sym (finds ∙ owing) ∙ c.in_err-place.ensures.why in
    absurd cc
