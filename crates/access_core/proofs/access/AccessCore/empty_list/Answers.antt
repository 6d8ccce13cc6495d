-- The places for spare lists are as before.
use Rattle.std.proofs.Common.{◌∙◌, ap, subst, sym}
use Rattle.access_core.proofs.Terms.{IsCached}
use Rattle.access_core.specs.inner.Cached.{core_of}
use Rattle.access_core.proofs.access.AccessCore.empty_list.Goals as goal

pub invariant_of-self : goal.invariant_of-self
invariant_of-self c = subst (λ spare. IsCached (record c.self.inside { spare = spare })) (sym c.empty_list.ensures.same) c.self.invariant

pub returns-clause-same : goal.returns-clause-same
returns-clause-same c = ap (λ spare. core_of (record c.self.inside { spare = spare })) c.empty_list.ensures.same ∙ c.self.view_is
