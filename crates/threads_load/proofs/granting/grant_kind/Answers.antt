use Rattle.std.proofs.Common.{◌+◌, subst}
use Rattle.policy.specs.declared.object.Object.{Object}
use Rattle.threads_load.specs.Grantings.{HasAllowed}
use Rattle.threads_load.proofs.Granted.{has_on_more, more_adds}
use Rattle.threads_load.proofs.granting.grant_kind.Goals as goal

pub returns-in_err-grant_on-clause-adds : goal.returns-in_err-grant_on-clause-adds
returns-in_err-grant_on-clause-adds c =
    more_adds c.args.core.now.history c.loop-before.core.history c.grant_on.new.core.history c.loop-before.invariant.0 c.grant_on.ensures.adds

pub loop-before-preserved : goal.loop-before-preserved
loop-before-preserved c = (
  more_adds c.args.core.now.history c.loop-before.core.history c.grant_on.new.core.history c.loop-before.invariant.0 c.grant_on.ensures.adds,
  has_on_more c.loop-before.core.history c.grant_on.new.core.history c.args.client c.args.kind c.loop-before.before c.grant_on.ensures.adds c.loop-before.invariant.1
      (subst (λ (o : Object). HasAllowed c.grant_on.new.core.history c.args.client o) c.of.ensures c.in_ok-grant_on.ensures.has),
)
