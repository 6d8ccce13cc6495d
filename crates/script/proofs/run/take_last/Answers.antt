use Rattle.std.specs.Prelude.{⊤}
use Rattle.std.proofs.lemmas.Result.{err_from_is_err_and}
use Rattle.script.specs.Runs.{law}
use Rattle.script.proofs.Blocks.{caused_fault, caused_turned, end_taken, end_turned, failed_handed}
use Rattle.script.proofs.run.take_last.Goals as goal

pub returns-in_err-hand_over-clause-taken : goal.returns-in_err-hand_over-clause-taken
returns-in_err-hand_over-clause-taken g c =
    let p = err_from_is_err_and c.from_residual.result c.from_residual.ensures.1 in
    let l = law g.L.Style.answering g.V.Watch.watching c.args.later.now in
    rw (p.1, p.2, c.in_err-hand_over.ensures.fault)
    (end_taken _ l _ _ _ _ _ _ c.take_end-ended.result c.requires.empty c.take_end-ended.ensures c.in_err-hand_over.ensures.begun)

pub returns-in_err-said-clause-taken : goal.returns-in_err-said-clause-taken
returns-in_err-said-clause-taken g c =
    let p = err_from_is_err_and c.from_residual-in_err-said.result c.from_residual-in_err-said.ensures.1 in
    let l = law g.L.Style.answering g.V.Watch.watching c.args.later.now in
    rw (p.1, p.2) (failed_handed l _ _ _ _ _ _ _ _ c.requires.empty c.in_err-said.ensures c.in_ok-hand_over.ensures.handed)

pub returns-in_err-said-clause-caused : goal.returns-in_err-said-clause-caused
returns-in_err-said-clause-caused g c =
    let p = err_from_is_err_and c.from_residual-in_err-said.result c.from_residual-in_err-said.ensures.1 in
    let l = law g.L.Style.answering g.V.Watch.watching c.args.later.now in
    rw (p.1, p.2) (caused_fault l _ _ _ _ _ _ _ _ c.in_ok-hand_over.ensures.written c.in_err-said.ensures)

pub returns-clause-taken : goal.returns-clause-taken
returns-clause-taken g c =
    end_turned g.L.Style.answering g.V.Watch.watching c.args.later.now
    _ _ _ _ _ _ _ c.in_ok-said.said c.take_turn.result c.requires.empty c.in_ok-said.ensures c.in_ok-hand_over.ensures.handed c.take_turn.ensures

pub returns-clause-caused : goal.returns-clause-caused
returns-clause-caused g c =
    caused_turned g.V.Watch.watching.passes _ _ c.in_ok-said.said _ _ c.take_turn.result c.in_ok-hand_over.ensures.written c.take_turn.ensures
