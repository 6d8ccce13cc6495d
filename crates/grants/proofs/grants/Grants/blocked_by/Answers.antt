-- The first packet with a denied hold is the first that holds a right that the rows don't allow.
use Rattle.std.proofs.Common.{subst, ◌∙◌, ap}
use Rattle.std.specs.Prelude.{vec_len, vec_capacity, ◌-◌}
use Rattle.grants.proofs.Terms.{IsFirstTo}
use Rattle.grants.specs.inner.Reloading.{has_denied}
use Rattle.grants.proofs.ReloadLemmas.{blocked-first}
use Rattle.grants.proofs.grants.Grants.blocked_by.Goals as goal

pub returns : goal.returns
returns c =
    let room = vec_capacity c.self.inside.holds - vec_len c.self.inside.holds in
    blocked-first c.args.rows.now c.self.inside.table c.self.inside.holds.items room c.args.self.now c.self.view_is c.first_denied.result
    (subst (λ hs. IsFirstTo (has_denied c.args.rows.now hs) c.first_denied.result) c.as_slice.ensures.value c.first_denied.ensures)
