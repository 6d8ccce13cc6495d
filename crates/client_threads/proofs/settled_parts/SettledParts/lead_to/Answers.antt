use Rattle.std.proofs.Common.{rules, ◌≡◌, ◌++◌, List, true, subst}
use Rattle.std.specs.Prelude.{◌↔◌, Some}
use Rattle.core_model.specs.History.{Part}
use Rattle.core_model.specs.Rotation.{GoOn, LeadTo}
use Rattle.core_model.specs.declared.origin.Origin.{Origin}
use Rattle.client_threads.specs.inner.SettledEnds.{EndIn}
use Rattle.client_threads.proofs.HandingOver.{leads_on}
use Rattle.client_threads.proofs.settled_parts.SettledParts.lead_to.Goals as goal

pub returns-in-Some : goal.returns-in-Some
returns-in-Some c =
    let settled = c.self.inside.parts in
    let last = c.in-Some.last in
    let is : c.self.inside.last ≡ Some last = search rules in
    let at : c.end.result.now ≡ last.end = search rules in
    let ended : EndIn settled (Some last) = subst (EndIn settled) is c.self.invariant in
    let goes : c.go_on.result ≡ true ↔ GoOn last.end c.args.parts.now c.args.start.now = subst (λ (o : Origin). c.go_on.result ≡ true ↔ GoOn o c.args.parts.now c.args.start.now) at c.go_on.ensures in
    subst (λ (ps : List Part). c.go_on.result ≡ true ↔ LeadTo (ps ++ c.args.parts.now) c.args.start.now) c.self.view_is
    (leads_on settled last c.args.parts.now c.args.start.now c.go_on.result ended goes)
