-- There is a next number.
use Rattle.std.proofs.Common.{arith}
use Rattle.access_core.proofs.QueueLemmas.{opened-few}
use Rattle.access_core.proofs.access.AccessCore.may_open.Goals as goal

pub overflow_add-result : goal.overflow_add-result
overflow_add-result c = omega (arith, opened-few c.self.inside c.self.invariant)
