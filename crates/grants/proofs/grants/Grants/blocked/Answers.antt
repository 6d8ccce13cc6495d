-- The rows of the policy are those that are looked at.
use Rattle.std.proofs.Common.{subst}
use Rattle.policy.specs.declared.rows.PolicyRows.{PolicyRows}
use Rattle.grants.specs.Ledger.{IsBlockedBy}
use Rattle.grants.proofs.grants.Grants.blocked.Goals as goal

pub returns : goal.returns
returns c = subst (λ (rows : PolicyRows). IsBlockedBy c.args.self.now rows c.blocked_by.result) c.rows.ensures.rows c.blocked_by.ensures
