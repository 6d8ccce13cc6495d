use Rattle.std.proofs.Common.{rules, subst, slice_index_or}
use Rattle.client_threads.specs.Running.{IsEndOf}
use Rattle.threads_load.specs.Stages.{StaysOf}
use Rattle.threads_load.proofs.Belonging.{end_at}
use Rattle.threads_tests.proofs.many.publish_from_threads.Goals as goal

pub for_each_mut-requires-clause-accepts : goal.for_each_mut-requires-clause-accepts
for_each_mut-requires-clause-accepts g c κs within =
    λ i p lt is. let h : IsEndOf c.args.broker.now p.now = end_at c.args.broker.now c.args.ends.now i p.now c.requires lt is in search rules

pub returns : goal.returns
returns g c =
    λ place d lt. let k = (c.for_each_mut.ensures place d lt).1 in
    let call = k.call in
    let stays : StaysOf c.args.broker.now k.argument.now k.after_call.now = search rules in
    subst (λ e. StaysOf c.args.broker.now (slice_index_or c.args.ends.now place d) e) k.left (subst (λ e. StaysOf c.args.broker.now e k.after_call.now) k.argument_is stays)
