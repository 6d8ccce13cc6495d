use Rattle.std.proofs.Common.{◌≡◌}
use Rattle.std.specs.List.{list_all}
use Rattle.std.specs.Prelude.{drop}
use Rattle.executor.specs.inner.Few.{is_low}
use Rattle.kernel_check.specs.Steps.{sets}
use Rattle.executor.proofs.registers_set.set_few.Given as goal

abbrev pub invariant-each : goal.invariant-each
invariant-each l = list_all (λ s. is_low (sets s)) l.steps ≡ list_all (λ s. is_low (sets s)) (drop l.step-index l.steps)
