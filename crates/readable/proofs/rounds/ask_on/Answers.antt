-- One request more, or the last.
use Rattle.std.proofs.Common.{sym, ◌∙◌}
use Rattle.std.proofs.lemmas.Result.{err_from_is_err_and}
use Rattle.readable.proofs.Making.{asked_again, asks_begun, ended_with, unkept, unkept_behind}
use Rattle.readable.proofs.rounds.ask_on.Goals as goal

pub asked-init : goal.asked-init
asked-init c = asks_begun c.args.world.now c.args.log.now

pub asked-preserved : goal.asked-preserved
asked-preserved c =
    asked_again c.args.world.now c.asked.world c.make.new.world c.args.log.now c.asked.log c.make.new.log c.args.asked c.in_ok-step.step c.asked.invariant c.in_ok-step.ensures

pub returns-then-not-is_again : goal.returns-then-not-is_again
returns-then-not-is_again c =
    ended_with c.args.world.now c.asked.world c.make.new.world c.args.log.now c.asked.log c.make.new.log c.args.asked c.in_ok-step.step c.asked.invariant c.in_ok-step.ensures
    (sym c.is_again.ensures ∙ c.if-not-is_again.true)

pub returns-in_err-step : goal.returns-in_err-step
returns-in_err-step c =
    let p = err_from_is_err_and c.from_residual.result c.from_residual.ensures.1 in
    rw p.1 (unkept_behind c.args.world.now c.asked.world c.make.new.world c.args.log.now c.asked.log c.asked.invariant c.in_err-step.ensures)

pub returns : goal.returns
returns c = unkept c.args.world.now c.asked.world c.args.log.now c.asked.log c.asked.invariant
