use Rattle.policy.proofs.FirstFaults.{faults_agree}
use Rattle.policy.proofs.laws.law_faults_are_first.Goals as goal

pub returns : goal.returns
returns c = faults_agree
