-- What a close is due, by what is cached.
use Rattle.core_model.specs.History.{History, beginning}
use Rattle.std.proofs.Common.{◌≡◌, ◌∙◌, ◌==◌, Some, None, true, false, length, sym, ap, subst, eq-eqb, arith}
use Rattle.access_core.proofs.CloseLemmas.{close-full, close-unknown, may-close}
use Rattle.access_core.proofs.Calls.{due-by}
use Rattle.access_core.proofs.Seen.{seen}
use Rattle.access_core.proofs.Terms.{Call, Close, due, enters, flight_of, is_full, queue_in, refuses, releases_of}
use Rattle.core_model.specs.declared.outcome.Outcome.TheVariants as outcome
use Rattle.core_model.specs.declared.refusal.Refusal.TheVariants as refusal
use Rattle.access_core.proofs.access.AccessCore.may_close.Goals.{else-len-eq0-via-then-len-eq0+else-is_full, else-len-eq0-via-else-len-eq0}
use Rattle.access_core.proofs.access.AccessCore.may_close.Goals as goal

pub returns-in_default-clause-why : goal.returns-in_default-clause-why
returns-in_default-clause-why c =
    let none : queue_in c.self.inside.queues.items c.args.queue ≡ None = cc c.in_default.ensures in
    due-by c.self.inside _ (seen c.self.view_is) (Call (Close c.args.queue)) (refuses refusal.UnknownQueue) (close-unknown c.self.inside c.self.invariant c.args.queue none)

pub returns-then-is_full-clause-why : goal.returns-then-is_full-clause-why
returns-then-is_full-clause-why c =
    let some : queue_in c.self.inside.queues.items c.args.queue ≡ Some c.in-Some.kept.now = cc c.in-Some.ensures in
    subst (λ (h : History). due h (Call (Close c.args.queue)) ≡ refuses refusal.AuditFull) (seen c.self.view_is)
    (close-full c.self.inside c.self.invariant c.args.queue c.in-Some.kept.now some (eq-eqb _ _ (sym c.len.ensures ∙ c.if-len-eq0.true))
    (ap is_full (seen c.self.view_is) ∙ sym c.is_full.ensures ∙ c.if-is_full.true))

pub returns-clause-may : goal.returns-clause-may
returns-clause-may c =
    let some : queue_in c.self.inside.queues.items c.args.queue ≡ Some c.in-Some.kept.now = cc c.in-Some.ensures in
    subst (λ (h : History). due h (Call (Close c.args.queue)) ≡ enters outcome.Accepted (releases_of c.args.queue (flight_of (beginning h) h.entries c.args.queue))) (seen c.self.view_is)
    (elim c.else-len-eq0.branch [
      | else-len-eq0-via-then-len-eq0+else-is_full w ↦
          may-close c.self.inside c.self.invariant c.args.queue c.in-Some.kept.now some true (eq-eqb _ _ (sym c.len.ensures ∙ w.if-len-eq0.true))
          (λ e. ap is_full (seen c.self.view_is) ∙ sym w.is_full.ensures ∙ w.if-is_full.false)
      | else-len-eq0-via-else-len-eq0 w ↦
          let some_fly : (length c.in-Some.kept.now.places == 0) ≡ false = grind arith in
          may-close c.self.inside c.self.invariant c.args.queue c.in-Some.kept.now some false some_fly (λ e. absurd cc)
    ])
