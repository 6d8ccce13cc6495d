-- One queue more is served, or all are.
use Rattle.std.proofs.lemmas.Result.{err_from_is_err_and}
use Rattle.readable.proofs.Making.{served_more, served_none, served_unkept, serves_undone}
use Rattle.readable.proofs.rounds.serve_all.Goals as goal

pub queues-init : goal.queues-init
queues-init c = served_none c.args.queues c.args.world.now c.args.log.now c.first-next.result c.first-next.ensures

pub queues-preserved : goal.queues-preserved
queues-preserved c =
    served_more c.args.queues c.args.world.now c.queues.world c.ask_on.new.world c.args.log.now c.queues.log c.ask_on.new.log c.in-Some.queue c.in_ok-ask_on.field-0 c.queues.next
    c.behind-following.result c.in-Some.is c.queues.invariant c.in_ok-ask_on.ensures c.behind-following.ensures

pub returns-in_err-ask_on : goal.returns-in_err-ask_on
returns-in_err-ask_on c =
    let p = err_from_is_err_and c.from_residual.result c.from_residual.ensures.1 in
    rw p.1 (served_unkept c.args.queues c.args.world.now c.queues.world c.ask_on.new.world c.args.log.now c.queues.log c.queues.next c.queues.invariant c.in_err-ask_on.ensures)

pub returns : goal.returns
returns c = serves_undone c.args.queues c.args.world.now c.queues.world c.args.log.now c.queues.log c.queues.next c.queues.invariant
