use Rattle.std.proofs.Common.{◌≡◌, ◌++◌, drop, map}
use Rattle.kernel_check.specs.declared.step.LinedStep.{LinedStep}
use Rattle.kernel_check.proofs.program.lines_of.Given as goal

abbrev pub invariant-lines : goal.invariant-lines
invariant-lines l = l.lines.items ++ map (λ (one : LinedStep). one.line) (drop l.one-index l.lined) ≡ map (λ (one : LinedStep). one.line) l.lined
