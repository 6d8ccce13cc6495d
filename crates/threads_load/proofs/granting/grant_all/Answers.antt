use Rattle.threads_load.proofs.Granted.{has_for_more, more_adds}
use Rattle.threads_load.proofs.granting.grant_all.Goals as goal

pub returns-in_err-grant_client-clause-adds : goal.returns-in_err-grant_client-clause-adds
returns-in_err-grant_client-clause-adds c =
    more_adds c.args.core.now.history c.loop-before.core.history c.grant_client.new.core.history c.loop-before.invariant.0 c.grant_client.ensures.adds

pub loop-before-preserved : goal.loop-before-preserved
loop-before-preserved c = (
  more_adds c.args.core.now.history c.loop-before.core.history c.grant_client.new.core.history c.loop-before.invariant.0 c.grant_client.ensures.adds,
  has_for_more c.loop-before.core.history c.grant_client.new.core.history c.loop-before.before c.grant_client.ensures.adds c.loop-before.invariant.1 c.in_ok-grant_client.ensures.has,
)
