-- The first that is missing is found, or none is missing.
use Rattle.std.proofs.Common.{arith}
use Rattle.kernel_check.proofs.Walks.{place_found, place_none}
use Rattle.access_core.proofs.access.opening.first_missing.Goals as goal

pub returns-then-not-has_entry-clause-place : goal.returns-then-not-has_entry-clause-place
returns-then-not-has_entry-clause-place = grind (arith, place_found)

pub returns-clause-place : goal.returns-clause-place
returns-clause-place = grind (arith, place_none)
