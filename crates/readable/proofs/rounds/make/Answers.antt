-- A request is made and kept.
use Rattle.readable.proofs.Making.{made_one, made_unkept}
use Rattle.readable.proofs.rounds.make.Goals as goal

pub returns-in-Ok : goal.returns-in-Ok
returns-in-Ok c =
    made_one c.args.world.now c.request-came.new.world c.args.log.now c.note.new.self c.args.asked c.about.result c.request-came.result c.step_of.result
    c.request-came.ensures c.in-Ok.ensures.tally c.in-Ok.ensures.fates c.in-Ok.ensures.moved c.step_of.ensures

pub returns-in-Err : goal.returns-in-Err
returns-in-Err c = made_unkept c.args.world.now c.request-came.new.world c.args.asked c.request-came.result c.request-came.ensures
