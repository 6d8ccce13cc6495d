use Rattle.std.proofs.Common.{◌∙◌}
use Rattle.std.proofs.lemmas.Result.{err_from_is_err_and}
use Rattle.script.specs.Runs.{law}
use Rattle.script.proofs.Blocks.{caused_behind, front_breaks, front_some}
use Rattle.script.proofs.run.take_block.Goals as goal

pub returns-in_err-rest-clause-taken : goal.returns-in_err-rest-clause-taken
returns-in_err-rest-clause-taken g c =
    let p = err_from_is_err_and c.from_residual.result c.from_residual.ensures.1 in
    let l = law g.L.Style.answering g.V.Watch.watching c.args.later.now in
    rw (p.1, p.2) (front_breaks l _ _ _ _ _ _ _ _ _ c.loop-rest.rest.now _ c.loop-rest.invariant.0 c.in_err-rest.ensures.taken)

pub loop-rest-preserved : goal.loop-rest-preserved
loop-rest-preserved g c =
    let l = law g.L.Style.answering g.V.Watch.watching c.args.later.now in (
      front_some l _ _ _ _ _ _ _ _ _ _ c.loop-rest.rest.now _ c.loop-rest.invariant.0 c.in_ok-rest.ensures.taken,
      c.in_ok-rest.ensures.written ∙ c.loop-rest.invariant.1,
    )

pub returns-in_err-rest-clause-caused : goal.returns-in_err-rest-clause-caused
returns-in_err-rest-clause-caused g c =
    let p = err_from_is_err_and c.from_residual.result c.from_residual.ensures.1 in
    rw (p.1, p.2) (caused_behind _ _ _ _ c.loop-rest.invariant.1 c.in_err-rest.ensures.caused)
