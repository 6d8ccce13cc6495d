use Rattle.std.proofs.Common.{◌+◌, ap, arith, ◌∙◌, ◌≡◌}
use Rattle.std.specs.Prelude.{map}
use Rattle.executor.specs.Group.{least_waiting}
use Rattle.executor.specs.inner.Stops.{standing}
use Rattle.executor.proofs.RoundLemmas.{least_after}
use Rattle.executor.proofs.rounds.least_waiting.Goals as goal

pub items-init : goal.items-init
items-init c =
    let e : 0 + c.args.ended ≡ c.args.ended + 0 = omega arith in
    least_after c.args.ended 0 (map standing c.args.stopped.now) ∙ ap (λ n. least_waiting n (map standing c.args.stopped.now)) e
