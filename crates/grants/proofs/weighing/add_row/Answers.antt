-- The row's rights are added in its place, and nowhere else.
use Rattle.std.proofs.Common.{◌≡◌, ◌∙◌, ◌<◌, ◌||◌, length, ap, sym, rules}
use Rattle.grants.proofs.Terms.{Right, boxed_slice_items, has, slice_get}
use Rattle.grants.specs.inner.Weighing.{has_at}
use Rattle.grants.proofs.WeighLemmas.{row_added}
use Rattle.grants.proofs.weighing.add_row.Goals as goal

pub returns-in-Some-clause-rights : goal.returns-in-Some-clause-rights
returns-in-Some-clause-rights c = λ other right within.
    let old = boxed_slice_items c.args.line.now in
    let place_within : c.in-Some.place < length old = search rules in
    let more : (right : Right) → has c.union-more.result right ≡ (has_at right (slice_get old c.in-Some.place) || has c.args.row.now.rights right) = λ r.
    c.union-more.ensures r ∙ ap (λ b. b || has c.args.row.now.rights r) (c.rights_at.ensures r ∙ ap (λ xs. has_at r (slice_get xs c.in-Some.place)) c.as_slice.ensures.value) in
    ap (λ xs. has_at right (slice_get xs other)) c.put_rights.ensures
    ∙ row_added c.args.rules.now c.args.client c.args.row.now c.in-Some.place old c.union-more.result place_within
    (sym c.is_for.ensures ∙ c.if-not-is_for.false) (sym c.target_place.ensures ∙ c.in-Some.is) more other right
