use Rattle.std.proofs.Common.{◌+◌, ◌≤◌, ◌∙◌, subst, refl, sym, arith, true≢false}
use Rattle.grants.proofs.Terms.{Rules}
use Rattle.grants.proofs.CompareLemmas.{no-clients, next-client, whole-table, one-client}
use Rattle.grants.proofs.comparing.includes_all.Goals as goal

pub loop-before-init : goal.loop-before-init
loop-before-init c = no-clients c.args.table.now c.args.other.now

pub loop-before-preserved : goal.loop-before-preserved
loop-before-preserved c =
    next-client c.args.table.now c.args.other.now c.loop-before.before c.loop-before.invariant (c.includes_client.ensures.0 c.if-not-includes_client.false)

pub returns-then-not-includes_client : goal.returns-then-not-includes_client
returns-then-not-includes_client c = (
  λ e. absurd (true≢false (sym e)),
  λ h. absurd (true≢false (sym (c.includes_client.ensures.1 (one-client c.args.table.now c.args.other.now (record { 0 = c.loop-before.before + 1 }) h)) ∙ c.if-not-includes_client.true)),
)

pub returns : goal.returns
returns c = (λ e. whole-table c.args.table.now c.args.other.now c.loop-before.before (subst (λ (r : Rules). r.clients ≤ c.loop-before.before) c.rules.ensures (omega arith)) c.loop-before.invariant, λ h. refl)
