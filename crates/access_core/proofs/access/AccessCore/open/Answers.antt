-- Each kernel has its checked kernel where there is no fault.
use Rattle.std.proofs.Common.{arith}
use Rattle.access_core.proofs.Opened.{entries-there}
use Rattle.access_core.proofs.access.AccessCore.open.Goals as goal

pub get_parts-requires : goal.get_parts-requires
get_parts-requires = grind (arith, entries-there)

pub blank-requires-clause-entries : goal.blank-requires-clause-entries
blank-requires-clause-entries = grind (arith, entries-there)
