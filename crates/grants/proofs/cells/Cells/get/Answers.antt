-- There is a cell just for a declared client and object.
use Rattle.std.proofs.Common.{◌∙◌, ap, sym, ◌&&◌}
use Rattle.grants.proofs.Terms.{boxed_slice_items, is_some, item_at, knows_client, knows_object, slice_get}
use Rattle.grants.proofs.PlaceLemmas.{cell-declared}
use Rattle.grants.proofs.cells.Cells.get.Goals as goal

pub returns-clause-declared : goal.returns-clause-declared
returns-clause-declared c =
    ap is_some (c.cell_at.ensures ∙ ap (λ cells. slice_get cells c.in_ok-place.place) c.as_slice.ensures.value
    ∙ ap (item_at (boxed_slice_items c.self.inside.cells)) (sym c.in_ok-place.was ∙ c.place_of.ensures))
    ∙ cell-declared c.self.inside.rules (boxed_slice_items c.self.inside.cells) c.self.invariant.0 c.args.client c.args.object
    ∙ ap (λ t. knows_client t.rules c.args.client && knows_object t.rules c.args.object) c.self.view_is
