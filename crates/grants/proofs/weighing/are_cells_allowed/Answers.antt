-- The rows allow the rights of the next client, or have one that they don't.
use Rattle.std.proofs.Common.{List, ◌+◌, sym, subst}
use Rattle.grants.proofs.Terms.{Rights}
use Rattle.grants.specs.inner.Weighing.{IsLine}
use Rattle.grants.proofs.WeighLemmas.{next-allowed}
use Rattle.grants.proofs.weighing.are_cells_allowed.Goals as goal

pub loop-before-preserved : goal.loop-before-preserved
loop-before-preserved c =
    let grid = c.args.rules.now in
    let before = c.loop-before.before in
    let line = subst (λ (xs : List Rights). IsLine grid (record { 0 = before + 1 }) c.args.rows.now.allows xs) (sym c.as_slice.ensures.value) c.cover_client.ensures.allows in
    let line' = subst (λ (xs : List Rights). IsLine grid (record { 0 = before + 1 }) c.args.rows.now.denies xs) (sym c.as_slice-in-loop-before.ensures.value) c.cover_client.ensures.denies in
    record {
      allowed =
          next-allowed grid c.args.rows.now before c.as_slice.result.now c.as_slice-in-loop-before.result.now line line' c.args.cells.now
          (c.are_client_cells_allowed.ensures.0 c.if-not-are_client_cells_allowed.false) c.loop-before.invariant.allowed;
      granted = c.cover_client.ensures.granted;
      denied = c.cover_client.ensures.denied;
    }
