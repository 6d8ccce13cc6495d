use Rattle.executor.proofs.LockLemmas.{group_comes, strip_leads}
use Rattle.executor.proofs.OrderedRuns.{group_ran}
use Rattle.executor.proofs.laws.law_lock_step_is_right.Goals as goal

pub returns-clause-strips : goal.returns-clause-strips
returns-clause-strips c = strip_leads

pub returns-clause-groups : goal.returns-clause-groups
returns-clause-groups c = group_comes

pub returns-clause-each : goal.returns-clause-each
returns-clause-each c = group_ran
