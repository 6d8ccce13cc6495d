-- The queues are served, and the packets in flight then worked on.
use Rattle.std.proofs.Common.{None}
use Rattle.std.proofs.lemmas.Result.{err_from_is_err_and}
use Rattle.readable.proofs.Making.{round_made, serves_undone, serves_unkept}
use Rattle.readable.proofs.rounds.make_round.Goals as goal

pub returns-in-Ok : goal.returns-in-Ok
returns-in-Ok c =
    round_made c.args.queues c.in_ok-flight.flight.items c.args.world.now c.serve_all.new.world c.work_on_each.new.world c.args.log.now c.serve_all.new.log c.work_on_each.new.log
    c.in_ok-serve_all.ensures c.in_ok-flight.ensures (rw c.as_slice.ensures.value at c.in-Ok.ensures)

pub returns-in_err-flight : goal.returns-in_err-flight
returns-in_err-flight c =
    let p = err_from_is_err_and c.from_residual-in_err-flight.result c.from_residual-in_err-flight.ensures.1 in
    rw p.1 (serves_undone c.args.queues c.args.world.now c.serve_all.new.world c.args.log.now c.serve_all.new.log None c.in_ok-serve_all.ensures)

pub returns : goal.returns
returns c = serves_unkept c.args.queues c.args.world.now c.serve_all.new.world c.work_on_each.new.world c.args.log.now c.serve_all.new.log c.in_ok-serve_all.ensures c.in-Err.ensures
