-- What is kept moves along with the group that ran, which is entered where there is room.
use Rattle.core_model.specs.History.{beginning}
use Rattle.std.proofs.Common.{◌≡◌, ◌∙◌, refl, sym, ap, subst, List, length, map, All, true, false, rules, inl, inr}
use Rattle.access_core.proofs.Terms.{Call, Effect, History, IsChanged, Ran, RunNext, WrittenRange, due, error_places, is_within, region_lengths, start_of, with_advance, write_of_run}
use Rattle.access_core.proofs.Places.{places-kept}
use Rattle.access_core.proofs.ChangedQueue.{errors-changed}
use Rattle.access_core.proofs.Seen.{seen}
use Rattle.access_core.proofs.Calls.{met-entry, met-refusal}
use Rattle.access_core.proofs.HeldAfter.{grants-still}
use Rattle.access_core.proofs.Laid.{kept-laid}
use Rattle.access_core.proofs.CachedMore.{IsCached-more}
use Rattle.access_core.proofs.KernelLemmas.{kernel-advances, runs-write}
use Rattle.access_core.proofs.LayingLemmas.{group-due, group-may_lack_memory, runs-within}
use Rattle.access_core.proofs.QueueAt.{flight-advanced}
use Rattle.access_core.proofs.AskingLemmas.{kernel-asks}
use Rattle.access_core.proofs.RunLemmas.{one_group}
use Rattle.access_core.proofs.TakeLemmas.{found-of, is-open, open-of}
use Rattle.access_core.proofs.WorkLemmas.{place-inside, queues-advanced}
use Rattle.core_model.specs.declared.outcome.Outcome.TheVariants as outcome
use Rattle.core_model.specs.declared.refusal.Refusal.TheVariants as refusal
use Rattle.access_core.proofs.access.AccessCore.enter_group.Goals as goal

pub returns-in_err-changes-clause-met : goal.returns-in_err-changes-clause-met
returns-in_err-changes-clause-met c =
    inr (record {
      may = group-may_lack_memory c.args.self.now.history c.args.queue c.args.found.packet c.args.place.progress.groups_run c.args.left c.args.runs c.requires.owed;
      asks = kernel-asks c.args.self.now.history c.args.queue c.args.found.packet c.args.place c.requires.found c.requires.kernel.0 c.requires.kernel.1
          (due c.args.self.now.history (Call (RunNext c.args.queue c.args.found.packet)));
      reply_is = search rules;
      history_is = refl;
    })

pub returns-then-is_full-clause-met : goal.returns-then-is_full-clause-met
returns-then-is_full-clause-met c =
    inl (met-refusal (Call (RunNext c.args.queue c.args.found.packet)) c.args.self.now.history refusal.AuditFull
    (group-due c.args.self.now.history c.args.queue c.args.found.packet c.args.place.progress.groups_run c.args.left c.args.runs c.requires.owed true
    (sym c.is_full.ensures ∙ c.if-is_full.true)))

pub lay_changes-requires : goal.lay_changes-requires
lay_changes-requires c =
    let a = c.self.inside in
    rw (c.as_slice.ensures.value ∙ c.in_ok-changes.ensures, c.self.invariant.lengths)
    (runs-within (region_lengths a.start.policy) c.args.runs
    (subst (λ (h : History). All (λ (run : WrittenRange). is_within (region_lengths (beginning h).policy) run.address (length run.bytes) ≡ true) c.args.runs)
    (sym (seen c.self.view_is)) c.requires.written))

pub advance-requires-clause-there : goal.advance-requires-clause-there
advance-requires-clause-there c =
    let at = open-of c.self.inside c.self.invariant _ (seen c.self.view_is) c.args.queue c.args.found.packet c.args.place c.requires.found in
    (at.q, at.found, at.ascending)

pub advance-requires-clause-found : goal.advance-requires-clause-found
advance-requires-clause-found c = found-of c.self.inside c.self.invariant _ (seen c.self.view_is) c.args.queue c.args.found c.requires.at

pub invariant_of-self : goal.invariant_of-self
invariant_of-self c =
    let a = c.self.inside in
    let group = c.args.place.progress.groups_run in
    let found = place-inside a _ (seen c.self.view_is) c.args.queue c.args.found.packet c.args.place c.requires.found in
    let at = is-open a c.self.invariant c.args.queue found.opening found.owner_is in
    let is = kernel-advances c.args.queue c.args.found.packet group c.args.left c.args.runs in
    let owing = group-due c.args.self.now.history c.args.queue c.args.found.packet group c.args.left c.args.runs c.requires.owed false (sym c.is_full.ensures ∙ c.if-is_full.false) in
    IsCached-more a _ (Call (RunNext c.args.queue c.args.found.packet)) (outcome.Worked (Ran group c.args.left)) (map write_of_run c.args.runs) c.self.invariant
    (record {
      same = ((refl, refl, refl), refl);
      audit = rw (c.many-effects.ensures ∙ c.in_ok-changes.ensures) at c.enter.ensures;
      blocks = c.self.invariant.blocks;
      grants = grants-still a c.self.invariant _ _ _ refl is.stays (λ client on right b. refl) (λ rows. refl) (flight-advanced (start_of a) a.audit.items _ _ _ c.args.queue c.args.found.packet _ is);
      memory = record {
        lengths = c.lay_changes.ensures.lengths;
        memory = subst (λ (effects : List Effect). IsChanged a.memory effects c.lay_changes.new.memory)
            (c.as_slice.ensures.value ∙ c.in_ok-changes.ensures) c.lay_changes.ensures.changed;
      };
      values = sym ((runs-write c.args.runs).signals a.signals);
      queues = rw c.advance.ensures.queues (queues-advanced a c.self.invariant c.args.queue at c.args.found.packet one_group _ _ _ is (λ all. refl) _
          (c.one_more.ensures ∙ ap one_group (sym found.progress_is)));
      laid = rw c.advance.ensures.queues (kept-laid a c.self.invariant c.args.queue at (with_advance c.args.found.packet _) (λ x. refl) refl);
      ready = c.self.invariant.ready;
    })
    _ (seen c.self.view_is) owing

pub returns-clause-met : goal.returns-clause-met
returns-clause-met c =
    let group = c.args.place.progress.groups_run in
    let owing = group-due c.args.self.now.history c.args.queue c.args.found.packet group c.args.left c.args.runs c.requires.owed false (sym c.is_full.ensures ∙ c.if-is_full.false) in
    inl (met-entry c.self.inside _ (seen c.self.view_is) (Call (RunNext c.args.queue c.args.found.packet)) (outcome.Worked (Ran group c.args.left)) (map write_of_run c.args.runs) _ owing
    (rw (c.many-effects.ensures ∙ c.in_ok-changes.ensures) at c.enter.ensures.items))

pub returns-clause-places : goal.returns-clause-places
returns-clause-places c =
    let a = c.self.inside in
    let at = open-of a c.self.invariant _ (seen c.self.view_is) c.args.queue c.args.found.packet c.args.place c.requires.found in
    places-kept a _ c.self.view_is c.advance.new.queues c.self.inside.grants c.self.inside.spare c.enter.new.audit _ c.advance.ensures.capacity
    (ap (map error_places) c.advance.ensures.queues ∙ errors-changed a.queues.items c.args.queue (with_advance c.args.found.packet _) at.q at.found at.ascending refl)
    refl refl c.enter.ensures
