-- Memory for the session was wanted, and nothing was opened.
use Rattle.std.proofs.Common.{refl, Err}
use Rattle.hobbydresser_c.specs.declared.opening.Failure.TheVariants as failure
use Rattle.hobbydresser_c.proofs.opening.hd_open.Goals as goal

pub returns-in-None-clause-met : goal.returns-in-None-clause-met
returns-in-None-clause-met c shut =
    (Err failure.OutOfMemory, tt, (c.tell_failure-in-None.ensures.status, c.tell_failure-in-None.ensures.fault, record { state_is = refl; session_is = refl }))
