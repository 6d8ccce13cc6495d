-- What the type keeps is the headline's premise.
use Rattle.std.proofs.Common.{◌≡◌, List, sym, ap, subst, ◌∙◌}
use Rattle.policy.specs.Policy.{Declared, region_lengths}
use Rattle.core_model.specs.declared.entry.Entry.{Entry}
use Rattle.core_model.specs.History.{Start}
use Rattle.world.specs.States.{Joined}
use Rattle.world.specs.Headline.{Headline}
use Rattle.world.specs.InStep.{IsJoined, IsJoinedBehind}
use Rattle.world.proofs.Obeyed.{World}
use Rattle.world.proofs.world.World.headline.Goals as goal

pub returns-clause-joined : goal.returns-clause-joined
returns-clause-joined c = subst IsJoined c.self.view_is c.self.invariant.0

pub returns-clause-headline : goal.returns-clause-headline
returns-clause-headline c =
    subst (λ (world : Joined). (first : Declared) (prior : List Entry) → IsJoinedBehind first prior world → Headline first prior world) c.self.view_is
    (λ first prior behind.
    let lengths : region_lengths first ≡ region_lengths c.policy.result.now =
    sym (ap (λ (now : Start). region_lengths now.policy) behind.start_is) ∙ sym (ap region_lengths c.policy.ensures) in
    c.headline_of.ensures first prior (World c.self.inside.core.history c.self.inside.rings.items c.self.inside.closed) lengths behind)
