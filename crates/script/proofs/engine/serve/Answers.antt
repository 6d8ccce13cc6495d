-- The audit is told as the answer to the query for it.
use Rattle.std.proofs.Common.{sym, subst}
use Rattle.std.proofs.lemmas.Result.{err_from_is_err_and}
use Rattle.script.specs.Expansions.{does}
use Rattle.script.specs.Runs.{audit_reply}
use Rattle.script.proofs.Auditing.{audit_told}
use Rattle.script.proofs.engine.serve.Goals as goal

pub returns-in_err-tell_audit-clause-served : goal.returns-in_err-tell_audit-clause-served
returns-in_err-tell_audit-clause-served g c =
    let world = c.args.world.now in
    let asked = c.asks_for_audit.ensures c.if-asks_for_audit.true in
    let p = err_from_is_err_and c.from_residual.result c.from_residual.ensures.1 in
    rw p.1 (
      audit_reply world,
      subst (λ command. does c.args.later.now command world (audit_reply world) world) (sym asked) (audit_told c.args.later.now world),
      tt,
    )

pub returns-then-asks_for_audit-clause-served : goal.returns-then-asks_for_audit-clause-served
returns-then-asks_for_audit-clause-served g c =
    let world = c.args.world.now in
    let asked = c.asks_for_audit.ensures c.if-asks_for_audit.true in (
      audit_reply world,
      subst (λ command. does c.args.later.now command world (audit_reply world) world) (sym asked) (audit_told c.args.later.now world),
      (c.in_ok-tell_audit.ensures.told, g.V.Watch.passes_audits _ _),
    )
