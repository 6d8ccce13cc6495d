-- Once the places of all clients are filled, each is.
use Rattle.std.proofs.Common.{◌≤◌, subst, arith}
use Rattle.grants.proofs.Terms.{boxed_slice_items}
use Rattle.grants.proofs.WeighLemmas.{filled-all}
use Rattle.grants.proofs.weighing.fill_table.Goals as goal

pub returns-clause-allowed : goal.returns-clause-allowed
returns-clause-allowed c =
    let past : c.client_count-before-end.result ≤ c.loop-before.before = omega arith in
    filled-all c.args.rules.now c.args.rows.now c.loop-before.before (boxed_slice_items c.loop-before.allowed)
    (subst (λ n. n ≤ c.loop-before.before) c.client_count-before-end.ensures.count past) c.loop-before.invariant.filled
