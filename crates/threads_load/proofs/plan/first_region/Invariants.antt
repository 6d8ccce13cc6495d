-- None of the regions so far can be counted in.
use Rattle.std.proofs.Common.{◌≡◌, map}
use Rattle.std.specs.Prelude.{None}
use Rattle.std.specs.List.{find, range_with_len}
use Rattle.threads_load.specs.Plans.{can_count_in}
use Rattle.threads_load.proofs.plan.first_region.Given as goal

abbrev pub invariant-loop-before : goal.invariant-loop-before
invariant-loop-before l = find (can_count_in l.policy l.client) (map (λ n. record { 0 = n }) (range_with_len 1 l.before)) ≡ None
