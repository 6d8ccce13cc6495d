use Rattle.std.proofs.Common.{◌≡◌, ◌++◌, drop, map}
use Rattle.kernel_check.specs.declared.step.LinedStep.{LinedStep}
use Rattle.kernel_check.proofs.program.steps_of.Given as goal

abbrev pub invariant-steps : goal.invariant-steps
invariant-steps l = l.steps.items ++ map (λ (one : LinedStep). one.step) (drop l.one-index l.lined) ≡ map (λ (one : LinedStep). one.step) l.lined
