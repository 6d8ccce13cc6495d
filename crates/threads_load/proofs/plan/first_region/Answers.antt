use Rattle.std.proofs.Common.{◌+◌, ◌∙◌, length, refl, sym, arith}
use Rattle.threads_load.specs.Plans.{can_count_in}
use Rattle.threads_load.proofs.Ranges.{found_at, missed_at}
use Rattle.threads_load.proofs.plan.first_region.Goals as goal

pub returns-then-can_count_in : goal.returns-then-can_count_in
returns-then-can_count_in c =
    sym (found_at (can_count_in c.args.policy.now c.args.client) (λ n. record { 0 = n }) c.loop-before.before (length c.args.policy.now.regions) (c.loop-before.before + 1)
    refl (omega (arith, c.loop-before-test.true, c.object_count-before-end.ensures.count)) c.loop-before.invariant (sym c.can_count_in.ensures ∙ c.if-can_count_in.true))

pub loop-before-preserved : goal.loop-before-preserved
loop-before-preserved c =
    missed_at (can_count_in c.args.policy.now c.args.client) (λ n. record { 0 = n }) c.loop-before.before (c.loop-before.before + 1)
    refl c.loop-before.invariant (sym c.can_count_in.ensures ∙ c.if-can_count_in.false)
