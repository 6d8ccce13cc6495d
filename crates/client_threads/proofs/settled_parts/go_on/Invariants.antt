-- Whether all go on is whether those that are left do.
use Rattle.core_model.proofs.Handed.{Leads}
use Rattle.client_threads.proofs.settled_parts.go_on.Given as goal

abbrev pub invariant-loop-part : goal.invariant-loop-part
invariant-loop-part l = Leads l.end l.parts l.start l.reached l.part-index
