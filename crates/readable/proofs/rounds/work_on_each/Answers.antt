-- One packet more is worked on, or all are.
use Rattle.std.proofs.Common.{arith, take}
use Rattle.std.proofs.lemmas.Result.{err_from_is_err_and}
use Rattle.readable.proofs.Making.{each_all, each_more, each_none, each_unkept}
use Rattle.readable.proofs.rounds.work_on_each.Goals as goal

pub packets-init : goal.packets-init
packets-init c = each_none c.args.world.now c.args.log.now

pub packets-preserved : goal.packets-preserved
packets-preserved c =
    each_more c.args.flight.now c.packets.place _ c.args.world.now c.packets.world c.work_on.new.world c.args.log.now c.packets.log c.work_on.new.log (omega arith)
    c.packets.invariant c.in_ok-work_on.ensures

pub returns-in_err-work_on : goal.returns-in_err-work_on
returns-in_err-work_on c =
    let p = err_from_is_err_and c.from_residual.result c.from_residual.ensures.1 in
    rw p.1 (each_unkept (take c.packets.place c.args.flight.now) c.args.world.now c.packets.world c.work_on.new.world c.args.log.now c.packets.log c.packets.invariant c.in_err-work_on.ensures)

pub returns : goal.returns
returns c = each_all c.args.flight.now c.packets.place c.args.world.now c.packets.world c.args.log.now c.packets.log (omega arith) c.packets.invariant
