use Rattle.kernel_check.proofs.FlatLemmas.{BeforeRest}
use Rattle.kernel_check.proofs.flattening.flat_steps.Given as goal

abbrev pub invariant-steps : goal.invariant-steps
invariant-steps l = BeforeRest l.flats.items l.steps l.step-index
