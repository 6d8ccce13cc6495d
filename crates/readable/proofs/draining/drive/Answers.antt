-- One round more, or the last.
use Rattle.std.proofs.lemmas.Result.{err_from_is_err_and}
use Rattle.readable.proofs.Making.{rounds_more, rounds_none, rounds_over, rounds_undone, rounds_unkept}
use Rattle.readable.proofs.draining.drive.Goals as goal

pub rounds-init : goal.rounds-init
rounds-init c = rounds_none c.args.world.now c.args.log.now

pub rounds-preserved : goal.rounds-preserved
rounds-preserved c =
    rounds_more c.args.queues c.args.world.now c.rounds.world c.make_round.new.world c.args.log.now c.rounds.log c.begin_round.new.self c.make_round.new.log c.rounds.invariant
    c.begin_round.ensures.tally c.begin_round.ensures.fates c.in_ok-make_round.ensures

pub returns-then-not-has_moved : goal.returns-then-not-has_moved
returns-then-not-has_moved c =
    rounds_over c.args.queues c.args.world.now c.rounds.world c.make_round.new.world c.args.log.now c.rounds.log c.begin_round.new.self c.make_round.new.log c.rounds.invariant
    c.begin_round.ensures.tally c.begin_round.ensures.fates c.begin_round.ensures.moved c.in_ok-make_round.ensures c.if-not-has_moved.true

pub returns-in_err-make_round : goal.returns-in_err-make_round
returns-in_err-make_round c =
    let p = err_from_is_err_and c.from_residual.result c.from_residual.ensures.1 in
    rw p.1 (rounds_unkept c.args.world.now c.rounds.world c.make_round.new.world c.args.log.now c.rounds.log c.rounds.invariant c.in_err-make_round.ensures)

pub returns : goal.returns
returns c = rounds_undone c.args.world.now c.rounds.world c.args.log.now c.rounds.log c.rounds.invariant
