-- A policy within the limits has regions that memory takes.
use Rattle.std.proofs.Common.{arith}
use Rattle.access_core.proofs.access.opening.law_of_lengths.Goals as goal

pub returns : goal.returns
returns = grind arith
