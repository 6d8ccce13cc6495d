use Rattle.threads_load.proofs.Belonging.{ends_still}
use Rattle.threads_tests.proofs.many.publish_from_all.Goals as goal

pub returns : goal.returns
returns g c = ends_still c.args.broker.now c.args.ends.items c.publish_from_any.result.items c.publish_from_any.ensures.count c.publish_from_any.ensures.each
