-- Each right of the set is among those of the place.
use Rattle.std.proofs.Common.{◌≡◌, ◌∙◌, ◌&&◌, ◌||◌, not, ap, sym}
use Rattle.grants.specs.inner.Weighing.{has_at, settled_at}
use Rattle.grants.proofs.Terms.{Right, each_right-has, has, slice_get}
use Rattle.grants.proofs.WeighLemmas.{each_in}
use Rattle.grants.proofs.weighing.are_rights_allowed.Goals as goal

pub returns : goal.returns
returns c =
    let grid = c.args.rules.now in
    let granted = c.args.granted.now in
    let denied = c.args.denied.now in
    let place = c.args.place in
    let at : (right : Right) → has c.settled.result right ≡ settled_at grid granted denied right place = λ right.
    c.settled.ensures right
    ∙ (λ i. (has_at right (slice_get granted place) || c.rights_at-all.ensures right i) && not (has_at right (slice_get denied place) || c.rights_at-none.ensures right i))
    ∙ ap (λ n. (has_at right (slice_get granted place) || has_at right (slice_get granted n)) && not (has_at right (slice_get denied place) || has_at right (slice_get denied n))) c.kind_place_at-kind.ensures in (
      λ is right has_it. sym (at right) ∙ each_right-has c.args.rights (has c.settled.result) (sym c.includes.ensures ∙ is) right has_it,
      λ within. c.includes.ensures ∙ each_in c.args.rights (has c.settled.result) (λ right has_it. at right ∙ within right has_it),
    )
