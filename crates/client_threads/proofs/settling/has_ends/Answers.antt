use Rattle.std.proofs.Common.{rules, ◌≡◌, ◌+◌, false, sym}
use Rattle.ring.specs.Settling.{has_pass}
use Rattle.ring.proofs.Settling.{missing_one}
use Rattle.client_threads.specs.Settling.{passes_of}
use Rattle.client_threads.proofs.settling.has_ends.Goals as goal

pub returns-then-not-has_end : goal.returns-then-not-has_end
returns-then-not-has_end c =
    let passes = passes_of c.args.queue.0 c.args.ends.now in
    let no : has_pass (c.loop-before.before + 1) passes ≡ false = search rules in
    sym (missing_one c.args.producers c.loop-before.before passes c.loop-before-test.true no)
