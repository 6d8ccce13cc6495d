-- What is cached follows the revocation, which is entered where there is room.
use Rattle.std.proofs.Common.{All, refl, sym, ◌∙◌, subst, true, false, None, Some, [], arith}
use Rattle.access_core.proofs.Seen.{seen}
use Rattle.access_core.proofs.CachedMore.{IsCached-more, memory-still, queues-still}
use Rattle.access_core.proofs.QueueAt.{IsQuiet, flight-quiet}
use Rattle.access_core.proofs.Granting.{revoke-due, revoke-held, revoke-refused}
use Rattle.access_core.proofs.Calls.{due-by, met-entry, met-refusal}
use Rattle.access_core.proofs.Laid.{quiet-laid}
use Rattle.access_core.proofs.HeldAfter.{blocks-still, held-still}
use Rattle.access_core.proofs.Lying.{first-laid}
use Rattle.access_core.proofs.Terms.{AscendFrom, Call, ClientId, IsFirstTo, IsSound, Object, Revoke, RevokeAnswers, Rights, all_blocks, has_block, lists_one, start_of}
use Rattle.core_model.specs.declared.outcome.Outcome.TheVariants as outcome
use Rattle.core_model.specs.declared.refusal.Refusal.TheVariants as refusal
use Rattle.access_core.proofs.access.AccessCore.revoke.Goals as goal

quiet : (client : ClientId) (on : Object) (rights : Rights) → IsQuiet (Call (Revoke client on rights)) outcome.Accepted []
quiet client on rights = record { launches = refl; progress = λ queue id p. refl; stays = λ queue id. refl; releases = λ fs. refl; views = λ m v. refl }

pub least_holder-requires-clause-sound : goal.least_holder-requires-clause-sound
least_holder-requires-clause-sound c = subst (All IsSound) (sym c.as_slice.ensures.value) c.self.invariant.sound

pub least_holder-requires-clause-ascending : goal.least_holder-requires-clause-ascending
least_holder-requires-clause-ascending c = subst (AscendFrom 0) (sym c.as_slice.ensures.value) c.self.invariant.ascending

pub returns-in-Err-clause-met : goal.returns-in-Err-clause-met
returns-in-Err-clause-met = grind (arith, revoke-refused)

pub returns-in-Some-clause-met : goal.returns-in-Some-clause-met
returns-in-Some-clause-met c =
    let test = lists_one c.args.client c.args.object c.args.rights in
    met-refusal (Call (Revoke c.args.client c.args.object c.args.rights)) _ _
    (due-by c.self.inside _ (seen c.self.view_is) _ _ (revoke-held c.self.inside c.self.invariant c.args.client c.args.object c.args.rights
    (subst (RevokeAnswers c.self.inside.grants c.args.client c.args.object c.args.rights) c.in_default.is c.may_revoke.ensures) c.in-Some.queue c.in-Some.packet
    (first-laid c.self.inside c.self.invariant test c.as_slice.result.now (Some (c.in-Some.queue, c.in-Some.packet)) c.as_slice.ensures.value
    (subst (IsFirstTo (has_block test (all_blocks c.as_slice.result.now))) c.in-Some.is c.least_holder.ensures))))

pub returns-then-is_full-clause-met : goal.returns-then-is_full-clause-met
returns-then-is_full-clause-met c =
    let a = c.self.inside in
    met-refusal (Call (Revoke c.args.client c.args.object c.args.rights)) _ refusal.AuditFull
    (revoke-due a c.self.invariant c.args.client c.args.object c.args.rights _ (seen c.self.view_is)
    (subst (RevokeAnswers c.self.inside.grants c.args.client c.args.object c.args.rights) c.in_default.is c.may_revoke.ensures)
    (first-laid a c.self.invariant (lists_one c.args.client c.args.object c.args.rights) c.as_slice.result.now None c.as_slice.ensures.value
    (subst (IsFirstTo (has_block (lists_one c.args.client c.args.object c.args.rights) (all_blocks c.as_slice.result.now))) c.in-None.is c.least_holder.ensures))
    true (sym c.is_full.ensures ∙ c.if-is_full.true))

pub invariant_of-self : goal.invariant_of-self
invariant_of-self c =
    let a = c.self.inside in
    let calm = quiet c.args.client c.args.object c.args.rights in
    let takes = c.take_out_of_force.ensures in
    IsCached-more a _ (Call (Revoke c.args.client c.args.object c.args.rights)) outcome.Accepted [] c.self.invariant
    (record {
      same = ((refl, refl, refl), refl);
      audit = rw c.none.ensures at c.enter.ensures;
      blocks = c.self.invariant.blocks;
      grants = record {
        granted = takes.taken;
        rules = takes.same_rules;
        held = held-still a c.self.invariant _ _ _ refl calm.stays;
        unheld = λ queue id client on right. takes.same_holds queue id client on right ∙ c.self.invariant.unheld queue id client on right;
        blocks_are = rw (flight-quiet (start_of a) a.audit.items _ _ _ calm) c.self.invariant.blocks_are;
        arguments = blocks-still a c.self.invariant _ _ _ refl calm.stays;
      };
      memory = memory-still a.memory [] (λ x byte. refl);
      values = refl;
      queues = queues-still a c.self.invariant _ _ _ calm (λ all. refl);
      laid = quiet-laid a c.self.invariant;
      ready = c.self.invariant.ready;
    })
    _ (seen c.self.view_is) (revoke-due a c.self.invariant c.args.client c.args.object c.args.rights _ (seen c.self.view_is)
    (subst (RevokeAnswers c.self.inside.grants c.args.client c.args.object c.args.rights) c.in_default.is c.may_revoke.ensures)
    (first-laid a c.self.invariant (lists_one c.args.client c.args.object c.args.rights) c.as_slice.result.now None c.as_slice.ensures.value
    (subst (IsFirstTo (has_block (lists_one c.args.client c.args.object c.args.rights) (all_blocks c.as_slice.result.now))) c.in-None.is c.least_holder.ensures))
    false (sym c.is_full.ensures ∙ c.if-is_full.false))

pub returns-clause-met : goal.returns-clause-met
returns-clause-met c =
    let a = c.self.inside in
    met-entry a _ (seen c.self.view_is) (Call (Revoke c.args.client c.args.object c.args.rights)) outcome.Accepted [] _
    (revoke-due a c.self.invariant c.args.client c.args.object c.args.rights _ (seen c.self.view_is)
    (subst (RevokeAnswers c.self.inside.grants c.args.client c.args.object c.args.rights) c.in_default.is c.may_revoke.ensures)
    (first-laid a c.self.invariant (lists_one c.args.client c.args.object c.args.rights) c.as_slice.result.now None c.as_slice.ensures.value
    (subst (IsFirstTo (has_block (lists_one c.args.client c.args.object c.args.rights) (all_blocks c.as_slice.result.now))) c.in-None.is c.least_holder.ensures))
    false (sym c.is_full.ensures ∙ c.if-is_full.false))
    (rw c.none.ensures at c.enter.ensures.items)
