use Rattle.kernel_check.specs.Faults.{causes}
use Rattle.kernel_check.proofs.LawLemmas as law
use Rattle.kernel_check.proofs.SoundLemmas.{none_fails}
use Rattle.kernel_check.proofs.laws.law_faults_are_earliest.Goals as goal

pub returns : goal.returns
returns c = record {
  earliest = law.earliest;
  all_pass = law.all_pass;
  least = λ fails. law.first fails causes;
  none = none_fails;
}
