-- The changed cell is that of the client and the object alone.
use Rattle.std.proofs.Common.{◌≡◌, ◌∙◌, sym, ap, subst, arith, Some}
use Rattle.grants.proofs.Terms.{boxed_slice_items, cell_of, item_at, replacement, same_pair}
use Rattle.std.specs.Prelude.{if◌then◌else◌}
use Rattle.grants.specs.Cells.{place_of}
use Rattle.grants.proofs.PlaceLemmas.{cell-set, place-within}
use Rattle.grants.proofs.cells.Cells.set.Goals as goal

pub put-requires : goal.put-requires
put-requires c =
    let at : place_of c.self.inside.rules c.args.client c.args.object ≡ Some c.in-Some.place = sym c.place_of.ensures ∙ c.in-Some.is in
    let within = place-within c.self.inside.rules c.args.client c.args.object c.in-Some.place at in
    let long = c.self.invariant.0 in
    omega arith

pub returns-in-Some-clause-cells : goal.returns-in-Some-clause-cells
returns-in-Some-clause-cells c = λ client object.
    let at : place_of c.self.inside.rules c.args.client c.args.object ≡ Some c.in-Some.place = sym c.place_of.ensures ∙ c.in-Some.is in
    subst (λ t. item_at (boxed_slice_items c.put.new.cells) (place_of c.self.inside.rules client object)
    ≡ (if same_pair client object c.args.client c.args.object then replacement c.args.cell (cell_of t client object) else cell_of t client object))
    c.self.view_is
    (ap (λ cells. item_at cells (place_of c.self.inside.rules client object)) c.put.ensures
    ∙ cell-set c.self.inside.rules (boxed_slice_items c.self.inside.cells) c.self.invariant.0 c.args.client c.args.object c.args.cell c.in-Some.place at client object)
