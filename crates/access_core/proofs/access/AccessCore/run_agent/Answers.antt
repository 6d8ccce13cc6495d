-- What is kept moves along with the group that ran, which is entered where there is room.
use Rattle.core_model.specs.History.{beginning}
use Rattle.std.proofs.Common.{◌≡◌, ◌∙◌, refl, sym, ap, map, subst, List, true, false, rules, nat_le, inl, inr}
use Rattle.access_core.proofs.Terms.{Call, Effect, History, IsChanged, Ran, RunNext, agent_writes, due, enters, error_places, lies_in_regions, region_lengths, start_of, with_advance}
use Rattle.access_core.proofs.AskingLemmas.{agent-asks, writes-result, writes-target}
use Rattle.access_core.proofs.Places.{places-kept}
use Rattle.access_core.proofs.ChangedQueue.{errors-changed}
use Rattle.access_core.proofs.Seen.{seen}
use Rattle.access_core.proofs.Calls.{met-entry, met-refusal}
use Rattle.access_core.proofs.HeldAfter.{grants-still}
use Rattle.access_core.proofs.Laid.{kept-laid}
use Rattle.access_core.proofs.CachedMore.{IsCached-more}
use Rattle.access_core.proofs.QueueAt.{flight-advanced}
use Rattle.access_core.proofs.RunLemmas.{agent-done, agent-due, agent-writes, one_group, pieces-inside, run-advances}
use Rattle.access_core.proofs.TakeLemmas.{found-of, is-open, open-of}
use Rattle.access_core.proofs.WorkLemmas.{place-inside, queues-advanced}
use Rattle.core_model.specs.declared.outcome.Outcome.TheVariants as outcome
use Rattle.core_model.specs.declared.refusal.Refusal.TheVariants as refusal
use Rattle.access_core.proofs.access.AccessCore.run_agent.Goals as goal

pub function_piece-requires : goal.function_piece-requires
function_piece-requires c = ap (lies_in_regions (region_lengths (beginning c.args.self.now.history).policy)) (sym c.requires.packet_is) ∙ c.requires.within

pub result_piece-requires : goal.result_piece-requires
result_piece-requires c = ap (lies_in_regions (region_lengths (beginning c.args.self.now.history).policy)) (sym c.requires.packet_is) ∙ c.requires.within

pub advance-requires-clause-there : goal.advance-requires-clause-there
advance-requires-clause-there c =
    let a = c.self.inside in
    let at = open-of a c.self.invariant _ (seen c.self.view_is) c.args.queue c.args.found.packet c.args.place c.requires.found in
    (at.q, at.found, at.ascending)

pub advance-requires-clause-found : goal.advance-requires-clause-found
advance-requires-clause-found c = found-of c.self.inside c.self.invariant _ (seen c.self.view_is) c.args.queue c.args.found c.requires.at

pub invariant_of-self : goal.invariant_of-self
invariant_of-self c =
    let a = c.self.inside in
    let found = place-inside a _ (seen c.self.view_is) c.args.queue c.args.found.packet c.args.place c.requires.found in
    let at = is-open a c.self.invariant c.args.queue found.opening found.owner_is in
    let is = run-advances c.args.queue c.args.found.packet (start_of a) a.audit.items c.args.dispatch in
    let pieces = pieces-inside a _ (seen c.self.view_is) c.args.dispatch _ _ _ _ c.in_ok-target.ensures.written c.in_ok-result.ensures.written in
    let ran : nat_le 1 c.args.place.progress.groups_run ≡ false = search rules in
    let owing : due c.args.self.now.history (Call (RunNext c.args.queue c.args.found.packet)) ≡ enters (outcome.Worked (Ran 0 0)) (agent_writes (start_of a) a.audit.items c.args.dispatch) =
    agent-due c.args.self.now.history c.args.queue c.args.found.packet c.args.place c.requires.found c.args.dispatch c.requires.packet_is ran false (sym c.is_full.ensures ∙ c.if-is_full.false)
    ∙ ap (λ (h : History). enters (outcome.Worked (Ran 0 0)) (agent_writes (beginning h) h.entries c.args.dispatch)) (sym (seen c.self.view_is)) in
    IsCached-more a _ (Call (RunNext c.args.queue c.args.found.packet)) (outcome.Worked (Ran 0 0)) (agent_writes (start_of a) a.audit.items c.args.dispatch) c.self.invariant
    (record {
      same = ((refl, refl, refl), refl);
      audit = rw (c.lay_both-effects.ensures.effects ∙ pieces) at c.enter.ensures;
      blocks = c.self.invariant.blocks;
      grants = grants-still a c.self.invariant _ _ _ refl is.stays (λ client on right b. refl) (λ rows. refl) (flight-advanced (start_of a) a.audit.items _ _ _ c.args.queue c.args.found.packet _ is);
      memory = record {
        lengths = c.lay_both-effects.ensures.lengths;
        memory = subst (λ (effects : List Effect). IsChanged a.memory effects c.lay_both-effects.new.memory) pieces c.lay_both-effects.ensures.changed;
      };
      values = sym ((agent-writes (start_of a) a.audit.items c.args.dispatch).signals a.signals);
      queues = rw c.advance.ensures.queues (queues-advanced a c.self.invariant c.args.queue at c.args.found.packet one_group _ _ _ is (λ all. refl) _
          (c.one_more.ensures ∙ ap one_group (sym found.progress_is)));
      laid = rw c.advance.ensures.queues (kept-laid a c.self.invariant c.args.queue at (with_advance c.args.found.packet _) (λ x. refl) refl);
      ready = c.self.invariant.ready;
    })
    _ (seen c.self.view_is) owing

pub returns-then-place-ge1-clause-met : goal.returns-then-place-ge1-clause-met
returns-then-place-ge1-clause-met c =
    let ran : nat_le 1 c.args.place.progress.groups_run ≡ true = search rules in
    let is = agent-done c.args.self.now.history c.args.queue c.args.found.packet c.args.place c.requires.found c.args.dispatch c.requires.packet_is ran in
    inl (record { reply_is = rw is refl; history_is = rw is refl })

pub returns-then-is_full-clause-met : goal.returns-then-is_full-clause-met
returns-then-is_full-clause-met c =
    let ran : nat_le 1 c.args.place.progress.groups_run ≡ false = search rules in
    inl (met-refusal (Call (RunNext c.args.queue c.args.found.packet)) c.args.self.now.history refusal.AuditFull
    (agent-due c.args.self.now.history c.args.queue c.args.found.packet c.args.place c.requires.found c.args.dispatch c.requires.packet_is ran true
    (sym c.is_full.ensures ∙ c.if-is_full.true)))

pub returns-in_err-target-clause-met : goal.returns-in_err-target-clause-met
returns-in_err-target-clause-met c =
    let ran : nat_le 1 c.args.place.progress.groups_run ≡ false = search rules in
    let is = agent-due c.args.self.now.history c.args.queue c.args.found.packet c.args.place c.requires.found c.args.dispatch c.requires.packet_is ran false
    (sym c.is_full.ensures ∙ c.if-is_full.false) in
    let some = writes-target c.args.self.now.history c.args.dispatch c.in_err-target.ensures.lacks in
    inr (record {
      may = rw is refl;
      asks = rw is (agent-asks c.args.self.now.history c.args.queue c.args.found.packet c.args.place c.requires.found c.args.dispatch c.requires.packet_is (outcome.Worked (Ran 0 0)) some);
      reply_is = search rules;
      history_is = refl;
    })

pub returns-in_err-result-clause-met : goal.returns-in_err-result-clause-met
returns-in_err-result-clause-met c =
    let ran : nat_le 1 c.args.place.progress.groups_run ≡ false = search rules in
    let is = agent-due c.args.self.now.history c.args.queue c.args.found.packet c.args.place c.requires.found c.args.dispatch c.requires.packet_is ran false
    (sym c.is_full.ensures ∙ c.if-is_full.false) in
    let some = writes-result c.args.self.now.history c.args.dispatch c.in_err-result.ensures.lacks in
    inr (record {
      may = rw is refl;
      asks = rw is (agent-asks c.args.self.now.history c.args.queue c.args.found.packet c.args.place c.requires.found c.args.dispatch c.requires.packet_is (outcome.Worked (Ran 0 0)) some);
      reply_is = search rules;
      history_is = refl;
    })

pub returns-clause-met : goal.returns-clause-met
returns-clause-met c =
    let a = c.self.inside in
    let ran : nat_le 1 c.args.place.progress.groups_run ≡ false = search rules in
    let pieces = pieces-inside a _ (seen c.self.view_is) c.args.dispatch _ _ _ _ c.in_ok-target.ensures.written c.in_ok-result.ensures.written in
    let owing : due c.args.self.now.history (Call (RunNext c.args.queue c.args.found.packet)) ≡ enters (outcome.Worked (Ran 0 0)) (agent_writes (start_of a) a.audit.items c.args.dispatch) =
    agent-due c.args.self.now.history c.args.queue c.args.found.packet c.args.place c.requires.found c.args.dispatch c.requires.packet_is ran false (sym c.is_full.ensures ∙ c.if-is_full.false)
    ∙ ap (λ (h : History). enters (outcome.Worked (Ran 0 0)) (agent_writes (beginning h) h.entries c.args.dispatch)) (sym (seen c.self.view_is)) in
    inl (met-entry a _ (seen c.self.view_is) (Call (RunNext c.args.queue c.args.found.packet)) (outcome.Worked (Ran 0 0)) (agent_writes (start_of a) a.audit.items c.args.dispatch) _ owing
    (rw (c.lay_both-effects.ensures.effects ∙ pieces) at c.enter.ensures.items))

pub returns-clause-places : goal.returns-clause-places
returns-clause-places c =
    let a = c.self.inside in
    let at = open-of a c.self.invariant _ (seen c.self.view_is) c.args.queue c.args.found.packet c.args.place c.requires.found in
    places-kept a _ c.self.view_is c.advance.new.queues c.self.inside.grants c.self.inside.spare c.enter.new.audit _ c.advance.ensures.capacity
    (ap (map error_places) c.advance.ensures.queues ∙ errors-changed a.queues.items c.args.queue (with_advance c.args.found.packet _) at.q at.found at.ascending refl)
    refl refl c.enter.ensures
