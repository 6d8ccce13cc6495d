-- An emptied audit is a rotation with its part dropped: the rings and the history stay in step behind what was in it.
use Rattle.std.proofs.Common.{◌++◌, refl, subst}
use Rattle.core_model.specs.Rotation.{Truncates}
use Rattle.core_model.specs.History.{History}
use Rattle.world.specs.declared.request.Request.TheVariants as request
use Rattle.world.specs.Dues.{IsServed, handed}
use Rattle.world.specs.States.{Joined}
use Rattle.world.proofs.Deciding.{obeyed_decided}
use Rattle.world.proofs.Kept.{served_kept}
use Rattle.world.proofs.Obeyed.{World}
use Rattle.world.proofs.Truncating.{IsHandedBack, as_served, handed_back}
use Rattle.world.proofs.world.World.truncate.Goals as goal

pub invariant_of-self : goal.invariant_of-self
invariant_of-self c =
    let s = c.self.inside in
    let h = c.self.invariant.0 in
    let core' = c.truncate.new.self.history in
    let old : Joined = World s.core.history s.rings.items s.closed in
    let new : Joined = World core' s.rings.items s.closed in
    let answer : IsHandedBack s.core.history core' = handed_back s.core.history core' c.truncate.result c.truncate.ensures.truncated in (
      record { first = h.first; prior = h.prior ++ handed answer.reply; behind = served_kept h.first h.prior old h.behind request.Rotate answer.reply new (as_served s.core.history core' s.rings.items s.closed answer) },
      obeyed_decided s.core.history core' s.rings.items s.closed s.rings.items s.closed h.first h.prior h.behind c.self.invariant.1 answer.reply request.Rotate (answer.hands, refl, refl),
    )

pub returns-clause-truncated : goal.returns-clause-truncated
returns-clause-truncated c =
    subst (λ (w : Joined). Truncates w.core c.truncate.result c.truncate.new.self.history) c.self.view_is c.truncate.ensures.truncated

pub returns-clause-joined : goal.returns-clause-joined
returns-clause-joined c =
    let s = c.self.inside in
    let h = c.self.invariant.0 in
    let core' = c.truncate.new.self.history in
    let old : Joined = World s.core.history s.rings.items s.closed in
    let new : Joined = World core' s.rings.items s.closed in
    let answer : IsHandedBack s.core.history core' = handed_back s.core.history core' c.truncate.result c.truncate.ensures.truncated in
    record { first = h.first; prior = h.prior ++ handed answer.reply; behind = served_kept h.first h.prior old h.behind request.Rotate answer.reply new (as_served s.core.history core' s.rings.items s.closed answer) }
