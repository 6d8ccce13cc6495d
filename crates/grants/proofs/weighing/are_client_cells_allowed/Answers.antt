-- The next cell has no other right.
use Rattle.std.proofs.Common.{◌≡◌, ◌∙◌, ◌+◌, ◌*◌, ap, subst}
use Rattle.std.specs.Prelude.{Option}
use Rattle.grants.specs.inner.Weighing.{IsWithin}
use Rattle.grants.proofs.Terms.{Cell, object_count, slice_get}
use Rattle.grants.proofs.WeighLemmas.{next-within}
use Rattle.grants.proofs.weighing.are_client_cells_allowed.Goals as goal

pub loop-place-preserved : goal.loop-place-preserved
loop-place-preserved c =
    let grid = c.args.rules.now in
    let cell : c.cell_at-cell.result ≡ slice_get c.args.cells.now (c.args.before * object_count grid + c.loop-place.place) =
    c.cell_at-cell.ensures ∙ ap (λ n. slice_get c.args.cells.now (c.args.before * n + c.loop-place.place)) c.object_count.ensures.count in
    next-within grid c.args.granted.now c.args.denied.now c.args.before c.args.cells.now c.loop-place.place c.loop-place.invariant
    (subst (λ (s : Option Cell). IsWithin grid c.args.granted.now c.args.denied.now c.loop-place.place s) cell
    (c.is_cell_allowed.ensures.0 c.if-not-is_cell_allowed.false))
