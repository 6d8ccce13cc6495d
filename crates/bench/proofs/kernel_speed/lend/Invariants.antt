-- the regions that are lent so far have the numbers up to theirs
use Rattle.std.proofs.Common.{All, ◌+◌, ◌<◌}
use Rattle.bench.proofs.kernel_speed.lend.Given as goal

abbrev pub invariant-regions : goal.invariant-regions
invariant-regions l = All (λ region. region.handle.0 < l.before + 1) l.view
