use Rattle.std.proofs.Common.{rules, ◌≡◌, length, subst}
use Rattle.threads_load.specs.Stages.{EachStaysOf}
use Rattle.threads_load.proofs.Belonging.{put_back}
use Rattle.threads_tests.proofs.many.publish_from_any.Goals as goal

pub returns-clause-each : goal.returns-clause-each
returns-clause-each g c =
    let own : c.as_mut_slice.result.now ≡ c.args.ends.items = search rules in
    let each : EachStaysOf c.args.broker.now c.as_mut_slice.result.now c.publish_from_threads.new.ends = c.publish_from_threads.ensures in
    let count : c.args.ends.len ≡ length c.publish_from_threads.new.ends = search rules in
    put_back c.args.broker.now c.args.ends.len c.args.ends.items c.publish_from_threads.new.ends _ count
    (subst (λ xs. EachStaysOf c.args.broker.now xs c.publish_from_threads.new.ends) own each)
