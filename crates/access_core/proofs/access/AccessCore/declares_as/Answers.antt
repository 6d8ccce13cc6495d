-- The policy in force declares what the core's own does.
use Rattle.std.proofs.Common.{◌≡◌, ◌↔◌, true, subst}
use Rattle.policy.specs.Declaring.{DeclaresAs}
use Rattle.core_model.specs.declared.origin.Origin.{Origin}
use Rattle.core_model.specs.History.{History, beginning}
use Rattle.access_core.proofs.ReloadLemmas.{declared-in}
use Rattle.access_core.proofs.Seen.{seen}
use Rattle.access_core.proofs.access.AccessCore.declares_as.Goals as goal

pub returns : goal.returns
returns c =
    let both = declared-in c.self.inside.start c.args.policy.now in
    let told : c.declares_as.result ≡ true ↔ DeclaresAs c.self.inside.start.policy c.args.policy.now =
    subst (λ (o : Origin). c.declares_as.result ≡ true ↔ DeclaresAs o.policy c.args.policy.now) c.as_ref.ensures c.declares_as.ensures in
    subst (λ (h : History). c.declares_as.result ≡ true ↔ DeclaresAs (beginning h).policy c.args.policy.now) (seen c.self.view_is)
    ((λ yes. both.0 (told.0 yes)), (λ same. told.1 (both.1 same)))
