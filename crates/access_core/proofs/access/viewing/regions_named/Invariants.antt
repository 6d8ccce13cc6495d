-- the regions that were named so far are marked
use Rattle.std.proofs.Common.{take}
use Rattle.access_core.proofs.Terms.{LeavesOut}
use Rattle.access_core.proofs.access.viewing.regions_named.Given as goal

abbrev pub invariant-loop-named : goal.invariant-loop-named
invariant-loop-named l = LeavesOut l.marks (take l.named-index l.given)
