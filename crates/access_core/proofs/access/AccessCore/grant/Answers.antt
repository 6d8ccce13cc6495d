-- What is cached follows the grant, which is entered where there is room.
use Rattle.std.proofs.Common.{refl, sym, ◌∙◌, true, false, []}
use Rattle.access_core.proofs.Seen.{seen}
use Rattle.access_core.proofs.CachedMore.{IsCached-more, memory-still, queues-still}
use Rattle.access_core.proofs.QueueAt.{IsQuiet, flight-quiet}
use Rattle.access_core.proofs.Calls.{due-by, met-entry, met-refusal}
use Rattle.access_core.proofs.Granting.{grant-due, grant-refused}
use Rattle.access_core.proofs.Laid.{quiet-laid}
use Rattle.access_core.proofs.HeldAfter.{blocks-still, held-still}
use Rattle.access_core.proofs.Terms.{Call, ClientId, Grant, Object, Rights, start_of}
use Rattle.core_model.specs.declared.outcome.Outcome.TheVariants as outcome
use Rattle.core_model.specs.declared.refusal.Refusal.TheVariants as refusal
use Rattle.access_core.proofs.access.AccessCore.grant.Goals as goal

quiet : (client : ClientId) (on : Object) (rights : Rights) → IsQuiet (Call (Grant client on rights)) outcome.Accepted []
quiet client on rights = record { launches = refl; progress = λ queue id p. refl; stays = λ queue id. refl; releases = λ fs. refl; views = λ m v. refl }

pub returns-in-Err-clause-met : goal.returns-in-Err-clause-met
returns-in-Err-clause-met c =
    rw c.refusal_of.ensures (met-refusal (Call (Grant c.args.client c.args.object c.args.rights)) _ _
    (due-by c.self.inside _ (seen c.self.view_is) _ _ (grant-refused c.self.inside c.self.invariant c.args.client c.args.object c.args.rights c.in-Err.why
    (sym c.in-Err.is ∙ c.may_grant.ensures))))

pub returns-then-is_full-clause-met : goal.returns-then-is_full-clause-met
returns-then-is_full-clause-met c =
    met-refusal (Call (Grant c.args.client c.args.object c.args.rights)) _ refusal.AuditFull
    (grant-due c.self.inside c.self.invariant c.args.client c.args.object c.args.rights _ (seen c.self.view_is) (sym c.in_default.is ∙ c.may_grant.ensures) true
    (sym c.is_full.ensures ∙ c.if-is_full.true))

pub invariant_of-self : goal.invariant_of-self
invariant_of-self c =
    let a = c.self.inside in
    let calm = quiet c.args.client c.args.object c.args.rights in
    let gives = c.put_in_force.ensures in
    IsCached-more a _ (Call (Grant c.args.client c.args.object c.args.rights)) outcome.Accepted [] c.self.invariant
    (record {
      same = ((refl, refl, refl), refl);
      audit = rw c.none.ensures at c.enter.ensures;
      blocks = c.self.invariant.blocks;
      grants = record {
        granted = gives.given;
        rules = gives.same_rules;
        held = held-still a c.self.invariant _ _ _ refl calm.stays;
        unheld = λ queue id client on right. gives.same_holds queue id client on right ∙ c.self.invariant.unheld queue id client on right;
        blocks_are = rw (flight-quiet (start_of a) a.audit.items _ _ _ calm) c.self.invariant.blocks_are;
        arguments = blocks-still a c.self.invariant _ _ _ refl calm.stays;
      };
      memory = memory-still a.memory [] (λ x byte. refl);
      values = refl;
      queues = queues-still a c.self.invariant _ _ _ calm (λ all. refl);
      laid = quiet-laid a c.self.invariant;
      ready = c.self.invariant.ready;
    })
    _ (seen c.self.view_is) (grant-due a c.self.invariant c.args.client c.args.object c.args.rights _ (seen c.self.view_is) (sym c.in_default.is ∙ c.may_grant.ensures) false
    (sym c.is_full.ensures ∙ c.if-is_full.false))

pub returns-clause-met : goal.returns-clause-met
returns-clause-met c =
    met-entry c.self.inside _ (seen c.self.view_is) (Call (Grant c.args.client c.args.object c.args.rights)) outcome.Accepted [] _
    (grant-due c.self.inside c.self.invariant c.args.client c.args.object c.args.rights _ (seen c.self.view_is) (sym c.in_default.is ∙ c.may_grant.ensures) false
    (sym c.is_full.ensures ∙ c.if-is_full.false))
    (rw c.none.ensures at c.enter.ensures.items)
