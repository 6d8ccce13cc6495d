use Rattle.std.proofs.Common.{rules, ◌≡◌, length, subst}
use Rattle.threads_load.specs.Publications.{EachProduces}
use Rattle.threads_load.proofs.Belonging.{produced_back}
use Rattle.threads_load.proofs.running.produce_any.Goals as goal

pub returns-then-len-gt0-clause-each : goal.returns-then-len-gt0-clause-each
returns-then-len-gt0-clause-each g c =
    let own : c.as_mut_slice.result.now ≡ c.args.ends.items = search rules in
    let each : EachProduces c.args.broker.now c.args.plan.now c.args.share.packets c.as_mut_slice.result.now c.produce_each.new.ends = c.produce_each.ensures in
    let count : c.args.ends.len ≡ length c.produce_each.new.ends = search rules in
    produced_back c.args.broker.now c.args.plan.now c.args.share.packets c.args.ends.len c.args.ends.items c.produce_each.new.ends _ count
    (subst (λ xs. EachProduces c.args.broker.now c.args.plan.now c.args.share.packets xs c.produce_each.new.ends) own each)
