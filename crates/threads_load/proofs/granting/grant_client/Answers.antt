use Rattle.threads_load.proofs.Granted.{has_each_if, more_adds}
use Rattle.threads_load.proofs.granting.grant_client.Goals as goal

pub returns-in_err-grant_kind-2-clause-adds : goal.returns-in_err-grant_kind-2-clause-adds
returns-in_err-grant_kind-2-clause-adds c =
    more_adds c.args.core.now.history c.grant_kind.new.core.history c.grant_kind-2.new.core.history c.grant_kind.ensures.adds c.grant_kind-2.ensures.adds

pub returns-in_err-grant_kind-3-clause-adds : goal.returns-in_err-grant_kind-3-clause-adds
returns-in_err-grant_kind-3-clause-adds c =
    more_adds c.args.core.now.history c.grant_kind-2.new.core.history c.grant_kind-3.new.core.history
    (more_adds c.args.core.now.history c.grant_kind.new.core.history c.grant_kind-2.new.core.history c.grant_kind.ensures.adds c.grant_kind-2.ensures.adds)
    c.grant_kind-3.ensures.adds

pub returns-clause-adds : goal.returns-clause-adds
returns-clause-adds c =
    more_adds c.args.core.now.history c.grant_kind.new.core.history c.grant_kind-4.new.core.history c.grant_kind.ensures.adds
    (more_adds c.grant_kind.new.core.history c.grant_kind-2.new.core.history c.grant_kind-4.new.core.history c.grant_kind-2.ensures.adds
    (more_adds c.grant_kind-2.new.core.history c.grant_kind-3.new.core.history c.grant_kind-4.new.core.history c.grant_kind-3.ensures.adds c.grant_kind-4.ensures.adds))

pub returns-clause-has : goal.returns-clause-has
returns-clause-has c =
    has_each_if c.grant_kind-4.result c.grant_kind.new.core.history c.grant_kind-2.new.core.history c.grant_kind-3.new.core.history c.grant_kind-4.new.core.history c.args.client
    c.grant_kind-2.ensures.adds c.grant_kind-3.ensures.adds c.grant_kind-4.ensures.adds
    c.in_ok-grant_kind.ensures.has c.in_ok-grant_kind-2.ensures.has c.in_ok-grant_kind-3.ensures.has c.grant_kind-4.ensures.has
