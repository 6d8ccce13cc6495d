-- Work that is done is finished.
use Rattle.std.proofs.Common.{sym, ◌∙◌}
use Rattle.std.proofs.lemmas.Result.{err_from_is_err_and}
use Rattle.readable.proofs.Making.{ended_unkept, worked, worked_and_finished}
use Rattle.readable.proofs.rounds.work_on.Goals as goal

pub returns-then-is_done : goal.returns-then-is_done
returns-then-is_done c =
    worked_and_finished c.args.flying.now c.args.world.now c.ask_on.new.world c.make.new.world c.args.log.now c.ask_on.new.log c.make.new.log c.in_ok-step.step c.in_ok-make.field-0
    (rw c.work_of.ensures at c.in_ok-step.ensures) (sym c.is_done.ensures ∙ c.if-is_done.true) (rw c.finish_of.ensures at c.in_ok-make.ensures)

pub returns-in_err-make : goal.returns-in_err-make
returns-in_err-make c =
    let p = err_from_is_err_and c.from_residual-in_err-make.result c.from_residual-in_err-make.ensures.1 in
    rw p.1 (ended_unkept c.args.world.now c.ask_on.new.world c.make.new.world c.args.log.now c.ask_on.new.log c.work_of.result c.in_ok-step.step c.in_ok-step.ensures c.in_err-make.ensures)

pub returns : goal.returns
returns c =
    worked c.args.flying.now c.args.world.now c.ask_on.new.world c.args.log.now c.ask_on.new.log c.in_ok-step.step (rw c.work_of.ensures at c.in_ok-step.ensures)
    (sym c.is_done.ensures ∙ c.if-is_done.false)
