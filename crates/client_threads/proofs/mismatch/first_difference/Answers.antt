use Rattle.std.proofs.Common.{◌<◌, length, rules}
use Rattle.client_threads.proofs.Differences.{differs_at_end, differs_there}
use Rattle.client_threads.proofs.mismatch.first_difference.Goals as goal

pub returns-in-Err-clause-differs : goal.returns-in-Err-clause-differs
returns-in-Err-clause-differs c = differs_there _ c.args.served.now c.in-Err.left.now c.in-Err.ensures.parts

pub returns-else-is_empty-clause-differs : goal.returns-else-is_empty-clause-differs
returns-else-is_empty-clause-differs c =
    let some : 0 < length c.in-Ok.left.now = search rules in
    differs_at_end _ c.args.served.now c.in-Ok.left.now c.in-Ok.ensures.same some
