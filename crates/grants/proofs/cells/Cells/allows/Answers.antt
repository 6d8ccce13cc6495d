-- In the place of a declared client and object stands what the rows allow.
use Rattle.std.proofs.Common.{◌≡◌, ◌∙◌, ◌&&◌, ap, sym, subst, Some}
use Rattle.policy.specs.Rules.{are_allowed}
use Rattle.grants.specs.Cells.{place_of}
use Rattle.grants.specs.inner.Weighing.{has_at}
use Rattle.grants.proofs.Terms.{Table, boxed_slice_items, knows_client, knows_object, slice_get}
use Rattle.grants.proofs.WeighLemmas.{all_allowed}
use Rattle.grants.proofs.cells.Cells.allows.Goals as goal

pub returns-in-Some : goal.returns-in-Some
returns-in-Some c =
    let inside = c.self.inside in
    let at : place_of inside.rules c.args.client c.args.object ≡ Some c.in-Some.place = sym c.place_of.ensures ∙ c.in-Some.is in
    subst (λ (t : Table). c.includes.result ≡ ((knows_client t.rules c.args.client && knows_object t.rules c.args.object) && are_allowed t.rules c.args.client c.args.object c.args.rights)) c.self.view_is
    (c.includes.ensures ∙ all_allowed inside.rules inside.rules.rows (boxed_slice_items inside.allowed.table) c.self.invariant.2 c.args.client c.args.object
    c.in-Some.place c.args.rights c.rights_at.result at
    (λ right. c.rights_at.ensures right ∙ ap (λ xs. has_at right (slice_get xs c.in-Some.place)) c.as_slice.ensures.value))
