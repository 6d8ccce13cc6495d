-- Each region that is named is marked.
use Rattle.std.proofs.Common.{arith, subst}
use Rattle.access_core.proofs.Terms.{LeavesOut, take_all}
use Rattle.access_core.proofs.Marking.{leaves-more}
use Rattle.access_core.proofs.access.viewing.regions_named.Goals as goal

pub loop-named-preserved : goal.loop-named-preserved
loop-named-preserved c = leaves-more _ _ c.args.given.now c.loop-named.named-index _ (omega arith) c.loop-named.invariant c.mark.ensures

pub returns : goal.returns
returns c = subst (LeavesOut c.loop-named.marks) (take_all c.loop-named.named-index c.args.given.now c.loop-named-test.false) c.loop-named.invariant
