-- The listing of the grants that are kept is the history's.
use Rattle.std.proofs.Common.{◌≡◌, refl, true, Err, inl, inr, rules}
use Rattle.core_model.specs.History.{beginning}
use Rattle.access_core.proofs.Seen.{seen}
use Rattle.access_core.proofs.Listing.{listing-lacked, listing-replied}
use Rattle.access_core.proofs.Terms.{knows_client, rules_of}
use Rattle.core_model.specs.declared.refusal.Refusal.TheVariants as refusal
use Rattle.access_core.proofs.access.AccessCore.list.Goals as goal

pub returns-in_err-list : goal.returns-in_err-list
returns-in_err-list c =
    let declared : knows_client (rules_of (beginning c.args.self.now.history).policy) c.args.client ≡ true = search rules in
    let reply : c.from_residual.result ≡ Err refusal.OutOfMemory = search rules in
    inr (listing-lacked c.self.inside c.self.invariant c.args.client _ (seen c.self.view_is) c.in_err-list.ensures.lacks declared, rw reply refl)

pub returns : goal.returns
returns c =
    let declared : knows_client (rules_of (beginning c.args.self.now.history).policy) c.args.client ≡ true = search rules in
    inl (listing-replied c.self.inside c.self.invariant c.args.client _ (seen c.self.view_is) _ c.in_ok-list.ensures.rows declared)
