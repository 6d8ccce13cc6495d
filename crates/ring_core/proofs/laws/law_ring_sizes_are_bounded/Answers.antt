use Rattle.std.proofs.Common.{arith}
use Rattle.std.proofs.lemmas.Bool.Decides.{nat_tests}
use Rattle.ring_core.proofs.Sizes.{ring_size_bounds}
use Rattle.ring_core.proofs.laws.law_ring_sizes_are_bounded.Goals as goal

pub returns-clause-least : goal.returns-clause-least
returns-clause-least c = λ size h. grind (arith, nat_tests)

pub returns-clause-most : goal.returns-clause-most
returns-clause-most c = λ size h. (ring_size_bounds size h).1
