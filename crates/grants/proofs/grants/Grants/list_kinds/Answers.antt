-- The rows of the four kinds are the listing.
use Rattle.std.proofs.Common.{◌∙◌, ◌++◌, ap, arith}
use Rattle.policy.specs.declared.object.Kind.TheVariants as kind
use Rattle.policy.specs.Listing.{listing_by}
use Rattle.grants.proofs.Terms.{count, in_force, objects_of_kind, rules_in}
use Rattle.grants.proofs.ListingLemmas.{counted-kinds, listed-kinds}
use Rattle.grants.proofs.grants.Grants.list_kinds.Goals as goal

pub returns-clause-rows : goal.returns-clause-rows
returns-clause-rows c =
    let rules = rules_in c.args.self.now in
    c.in_ok-list_kind-4.ensures.rows
    ∙ ap (λ rows. rows ++ listing_by (in_force c.args.self.now c.args.client) (objects_of_kind (count rules) kind.Kernel)) (c.in_ok-list_kind-3.ensures.rows
    ∙ ap (λ rows. rows ++ listing_by (in_force c.args.self.now c.args.client) (objects_of_kind (count rules) kind.Signal)) (c.in_ok-list_kind-2.ensures.rows
    ∙ ap (λ rows. rows ++ listing_by (in_force c.args.self.now c.args.client) (objects_of_kind (count rules) kind.Region)) c.in_ok-list_kind.ensures.rows))
    ∙ listed-kinds (in_force c.args.self.now c.args.client) c.args.rows.now (objects_of_kind (count rules) kind.Agent) (objects_of_kind (count rules) kind.Region)
    (objects_of_kind (count rules) kind.Signal) (objects_of_kind (count rules) kind.Kernel)

pub returns-in_err-list_kind-clause-lacks : goal.returns-in_err-list_kind-clause-lacks
returns-in_err-list_kind-clause-lacks = grind (arith, counted-kinds)

pub returns-in_err-list_kind-2-clause-lacks : goal.returns-in_err-list_kind-2-clause-lacks
returns-in_err-list_kind-2-clause-lacks = grind (arith, counted-kinds)

pub returns-in_err-list_kind-3-clause-lacks : goal.returns-in_err-list_kind-3-clause-lacks
returns-in_err-list_kind-3-clause-lacks = grind (arith, counted-kinds)

pub returns-in_err-list_kind-4-clause-lacks : goal.returns-in_err-list_kind-4-clause-lacks
returns-in_err-list_kind-4-clause-lacks = grind (arith, counted-kinds)
