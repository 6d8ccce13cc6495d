use Rattle.std.proofs.Common.{refl, arith, ap, ◌∙◌}
use Rattle.std.proofs.lemmas.Result.{err_from_is_err_and}
use Rattle.std.specs.Prelude.{⊤}
use Rattle.script.specs.Runs.{law}
use Rattle.script.proofs.Blocks.{caused_fault, caused_turn, failed_handed, turn_failed, turn_passed, written_taken}
use Rattle.script.proofs.run.take_some.Goals as goal

pub returns-in_err-hand_over-clause-taken : goal.returns-in_err-hand_over-clause-taken
returns-in_err-hand_over-clause-taken g c =
    let p = err_from_is_err_and c.from_residual.result c.from_residual.ensures.1 in
    let l = law g.L.Style.answering g.V.Watch.watching c.args.later.now in
    rw (p.1, p.2, c.in_err-hand_over.ensures.fault)
    (written_taken _ l _ _ _ _ _ _ _ (λ t. t.0) (λ t. t.1.now) c.take_bytes-taken.result c.requires.empty c.take_bytes-taken.ensures c.in_err-hand_over.ensures.begun)

pub returns-in_err-said-clause-taken : goal.returns-in_err-said-clause-taken
returns-in_err-said-clause-taken g c =
    let p = err_from_is_err_and c.from_residual-in_err-said.result c.from_residual-in_err-said.ensures.1 in
    let l = law g.L.Style.answering g.V.Watch.watching c.args.later.now in
    rw (p.1, p.2) (failed_handed l _ _ _ _ _ _ _ _ c.requires.empty c.in_err-said.ensures c.in_ok-hand_over.ensures.handed)

pub returns-in_err-said-clause-caused : goal.returns-in_err-said-clause-caused
returns-in_err-said-clause-caused g c =
    let p = err_from_is_err_and c.from_residual-in_err-said.result c.from_residual-in_err-said.ensures.1 in
    let l = law g.L.Style.answering g.V.Watch.watching c.args.later.now in
    rw (p.1, p.2) (caused_fault l _ _ _ _ _ _ _ _ c.in_ok-hand_over.ensures.written c.in_err-said.ensures)

pub returns-in_err-take_turn-clause-taken : goal.returns-in_err-take_turn-clause-taken
returns-in_err-take_turn-clause-taken g c =
    let p = err_from_is_err_and c.from_residual-in_err-take_turn.result c.from_residual-in_err-take_turn.ensures.1 in
    rw (p.1, p.2)
    (turn_failed g.L.Style.answering g.V.Watch.watching c.args.later.now
    _ _ _ _ _ _ _ _ c.in_ok-said.left.now c.in_ok-said.said _ c.requires.empty c.in_ok-said.ensures c.in_ok-hand_over.ensures.handed c.in_err-take_turn.ensures)

pub returns-clause-taken : goal.returns-clause-taken
returns-clause-taken g c =
    turn_passed g.L.Style.answering g.V.Watch.watching c.args.later.now
    _ _ _ _ _ _ _ _ _ _ c.in_ok-said.left.now c.in_ok-said.said c.requires.some c.requires.empty c.in_ok-said.ensures c.in_ok-hand_over.ensures.handed
    refl c.in_ok-hand_over.ensures.empty refl c.in_ok-take_turn.ensures

pub returns-in_err-take_turn-clause-caused : goal.returns-in_err-take_turn-clause-caused
returns-in_err-take_turn-clause-caused g c =
    let p = err_from_is_err_and c.from_residual-in_err-take_turn.result c.from_residual-in_err-take_turn.ensures.1 in
    rw (p.1, p.2) (caused_turn g.V.Watch.watching.passes _ _ c.in_ok-said.said _ _ _ c.in_ok-hand_over.ensures.written c.in_err-take_turn.ensures)
