use Rattle.threads_load.proofs.Belonging.{producers_still}
use Rattle.threads_load.proofs.Produced.{all_ends_planned}
use Rattle.threads_load.proofs.running.produce_all.Goals as goal

pub returns-clause-planned : goal.returns-clause-planned
returns-clause-planned g c = all_ends_planned c.args.broker.now c.args.plan.now c.args.share.packets c.args.ends.items c.produce_any.result.items c.produce_any.ensures.count c.produce_any.ensures.each

pub returns-clause-ends : goal.returns-clause-ends
returns-clause-ends g c = producers_still c.args.broker.now c.args.plan.now c.args.share.packets c.args.ends.items c.produce_any.result.items c.produce_any.ensures.count c.produce_any.ensures.each
