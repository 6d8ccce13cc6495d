use Rattle.std.proofs.Common.{rules, subst, slice_index_or}
use Rattle.client_threads.specs.Running.{IsEndOf}
use Rattle.threads_load.specs.Publications.{Produces, PublishesPlanned, planned_at}
use Rattle.threads_load.specs.Stages.{StaysOf}
use Rattle.threads_load.proofs.Belonging.{end_at}
use Rattle.threads_load.proofs.Produced.{produces}
use Rattle.threads_load.proofs.running.produce_each.Goals as goal

pub for_each_mut-requires-clause-accepts : goal.for_each_mut-requires-clause-accepts
for_each_mut-requires-clause-accepts g c κs within =
    λ i p lt is. let h : IsEndOf c.args.broker.now p.now = end_at c.args.broker.now c.args.ends.now i p.now c.requires.ends lt is in search rules

pub returns : goal.returns
returns g c =
    λ place d lt. let k = (c.for_each_mut.ensures place d lt).1 in
    let call = k.call in
    let stays : StaysOf c.args.broker.now k.argument.now k.after_call.now = search rules in
    let published : PublishesPlanned (planned_at c.args.plan.now k.argument.now.queue.0) c.args.share.packets k.argument.now k.after_call.now = search rules in
    let made = produces c.args.broker.now c.args.plan.now c.args.share.packets k.argument.now k.after_call.now stays published in
    subst (λ e. Produces c.args.broker.now c.args.plan.now c.args.share.packets (slice_index_or c.args.ends.now place d) e) k.left (subst (λ e. Produces c.args.broker.now c.args.plan.now c.args.share.packets e k.after_call.now) k.argument_is made)
