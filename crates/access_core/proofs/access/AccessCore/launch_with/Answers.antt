-- The packet is in flight, and the entry tells it.
use Rattle.core_model.specs.History.{beginning}
use Rattle.std.proofs.Common.{◌≡◌, ◌∙◌, ◌+◌, ◌≤◌, arith, ◌++◌, ◌∷◌, length, ap, inr, refl, rules, sym, subst, true, Some, [], map, option_map}
use Rattle.access_core.proofs.Terms.{ArgumentBlock, History, IsNext-from_owed, Launched, Packet, Take, TakesNext, arguments_of, as_rights, due, launched_by, lies_in_regions, owner}
use Rattle.access_core.proofs.Terms.{error_places, region_lengths, rights_at_launch, start_of}
use Rattle.access_core.specs.inner.QueueChanges.{with_launched}
use Rattle.access_core.proofs.AskingLemmas.{launch-asks}
use Rattle.access_core.proofs.Places.{places-kept}
use Rattle.access_core.proofs.ChangedQueue.{errors-changed}
use Rattle.access_core.proofs.Seen.{seen}
use Rattle.access_core.specs.inner.Deciding.{IsBlockPlaced, opening_of}
use Rattle.access_core.proofs.HeldAfter.{block_laid, grants-launched}
use Rattle.access_core.proofs.Laid.{blocks-count, laid-launched}
use Rattle.access_core.proofs.ReadyLemmas.{ready-launched}
use Rattle.access_core.proofs.Rotating.{IsCached-provided}
use Rattle.access_core.specs.inner.Ready.{HasLists}
use Rattle.access_core.proofs.CachedMore.{IsCached-more, memory-still, owed-inside}
use Rattle.access_core.proofs.QueueAt.{flight-launched}
use Rattle.access_core.proofs.TakeLemmas.{below-next, block-placed, can-take, client-of, queues-launched}
use Rattle.core_model.specs.declared.outcome.Outcome.TheVariants as outcome
use Rattle.access_core.proofs.access.AccessCore.launch_with.Goals as goal

pub place_next-requires-clause-free : goal.place_next-requires-clause-free
place_next-requires-clause-free c =
    let a = c.self.inside in
    let can = can-take a c.self.invariant c.args.queue (subst (λ h. TakesNext h c.args.queue) (sym (seen c.self.view_is)) c.requires.decided.3) in
    (can.opened.q, can.opened.found, can.few, can.opened.small, can.opened.ascending)

pub place_next-requires-clause-above : goal.place_next-requires-clause-above
place_next-requires-clause-above c =
    let a = c.self.inside in
    let can = can-take a c.self.invariant c.args.queue (subst (λ h. TakesNext h c.args.queue) (sym (seen c.self.view_is)) c.requires.decided.3) in
    let owing = owed-inside a c.self.invariant _ (seen c.self.view_is) _ _ _ c.requires.decided.0 in
    let next = IsNext-from_owed (start_of a) a.audit.items c.args.queue c.args.packet c.args.bytes.now _ _ owing in
    below-next a c.self.invariant c.args.queue can c.args.packet next.id_is

pub argument_block-requires : goal.argument_block-requires
argument_block-requires c =
    subst (λ p. IsBlockPlaced c.args.self.now.history p) (sym c.packet.ensures)
    (block-placed c.args.self.now.history c.args.queue c.args.packet c.args.bytes.now c.args.launching.now.asked.packet c.requires.decided.0 c.requires.decided.1)

pub place_next-requires-clause-sound : goal.place_next-requires-clause-sound
place_next-requires-clause-sound c = c.self.invariant.sound

pub invariant_of-self-2 : goal.invariant_of-self-2
invariant_of-self-2 c =
    let a = c.self.inside in
    let p = c.args.launching.now.asked.packet in
    let can = can-take a c.self.invariant c.args.queue (subst (λ h. TakesNext h c.args.queue) (sym (seen c.self.view_is)) c.requires.decided.3) in
    let owing = owed-inside a c.self.invariant _ (seen c.self.view_is) _ _ _ c.requires.decided.0 in
    let next = IsNext-from_owed (start_of a) a.audit.items c.args.queue c.args.packet c.args.bytes.now _ _ owing in
    let owned : owner (start_of a) a.audit.items c.args.queue ≡ Some (opening_of c.args.launching.now) =
    subst (λ h. owner (beginning h) h.entries c.args.queue ≡ Some (opening_of c.args.launching.now)) (sym (seen c.self.view_is)) c.requires.decided.4 in
    let launches : launched_by (Take c.args.queue c.args.packet c.args.bytes.now) (outcome.Taken Launched) ≡ Some (record { queue = c.args.queue; id = c.args.packet; packet = p }) =
    ap (option_map (λ (x : Packet). record { queue = c.args.queue; id = c.args.packet; packet = x })) c.requires.decided.1 in
    let within : lies_in_regions (region_lengths a.start.policy) p ≡ true = subst (λ h. lies_in_regions (region_lengths (beginning h).policy) p ≡ true) (sym (seen c.self.view_is)) c.requires.decided.2 in
    let block : ArgumentBlock = block_laid c.args.queue c.args.packet c.args.launching.now.client (c.entries_before.result + c.len.result) c.list_rights.new.rights c.in_ok-block.block in
    let number_is : c.entries_before.result + c.len.result ≡ a.start.before + length a.audit.items =
    (λ i. (c.entries_before.ensures.before ∙ sym (ap (λ (h : History). (beginning h).before) (seen c.self.view_is))) i + c.len.ensures i) in
    IsCached-more a _ (Take c.args.queue c.args.packet c.args.bytes.now) (outcome.Taken Launched) [] c.self.invariant
    (record {
      same = ((refl, refl, refl), refl);
      audit = c.enter_launch.ensures;
      blocks = c.self.invariant.blocks ++ block ∷ [];
      grants = grants-launched a c.self.invariant _ _ (λ client on right b. refl) (λ rows. refl) (opening_of c.args.launching.now) c.args.queue c.args.packet p _ _ _ launches
          (flight-launched (start_of a) a.audit.items c.args.queue c.args.packet c.args.bytes.now p c.requires.decided.1)
          (c.in_ok-list_rights.ensures ∙ ap (λ (h : History). map as_rights (rights_at_launch (beginning h) h.entries (opening_of c.args.launching.now) p)) (sym (seen c.self.view_is)))
          owned
          (c.in_ok-block.ensures ∙ ap (λ q. arguments_of (beginning c.args.self.now.history) c.args.self.now.history.entries q) c.packet.ensures
          ∙ ap (λ (h : History). arguments_of (beginning h) h.entries p) (sym (seen c.self.view_is)));
      memory = memory-still a.memory _ (λ x byte. refl);
      values = refl;
      queues = rw (c.place_next.ensures.queues, c.packet-2.ensures)
          (queues-launched a c.self.invariant c.args.queue c.args.packet c.args.bytes.now can p c.requires.decided.1 next.id_is block refl (refl, client-of a c.self.invariant c.args.queue can _ owned) within);
      laid = rw (c.place_next.ensures.queues, c.packet-2.ensures)
          (laid-launched a.queues.items (a.start.before + length a.audit.items) c.self.invariant.blocks c.self.invariant.laid c.args.queue can.opened.q can.opened.found can.opened.ascending p block refl number_is);
      ready = ready-launched a.fresh a.told a.start c.self.invariant.blocks c.self.invariant.ready c.provide.new.self c.provide.ensures.rights_kept c.provide.ensures.bytes_kept block
          (let told = c.self.invariant.ready.before in omega (arith, told, number_is))
          (subst (λ n. n ≤ c.provide.new.self.rights.each) c.len-2.ensures c.in_ok-provide.ensures.rights.1, subst (λ n. n ≤ c.provide.new.self.bytes.each) c.len-3.ensures c.in_ok-provide.ensures.bytes.1)
          (subst (HasLists c.provide.new.self) (sym (ap (λ n. n + 1) (blocks-count a c.self.invariant))) (c.in_ok-provide.ensures.rights.0, c.in_ok-provide.ensures.bytes.0));
    })
    _ (seen c.self.view_is) c.requires.decided.0

pub invariant_of-self : goal.invariant_of-self
invariant_of-self c =
    let a = c.self.inside in
    IsCached-provided a c.self.invariant c.provide.new.self c.provide.ensures.rights_kept c.provide.ensures.bytes_kept

pub returns-in_err-provide-clause-met : goal.returns-in_err-provide-clause-met
returns-in_err-provide-clause-met c =
    inr (record {
      may = rw c.requires.decided.0 refl;
      asks = launch-asks c.args.self.now.history c.args.queue c.args.packet c.args.bytes.now (opening_of c.args.launching.now) c.args.launching.now.asked.packet
          (due c.args.self.now.history (Take c.args.queue c.args.packet c.args.bytes.now)) c.requires.decided.4 c.requires.decided.1;
      reply_is = search rules;
      history_is = seen c.self.view_is;
    })

pub returns-in_err-block-clause-met : goal.returns-in_err-block-clause-met
returns-in_err-block-clause-met c =
    inr (record {
      may = rw c.requires.decided.0 refl;
      asks = launch-asks c.args.self.now.history c.args.queue c.args.packet c.args.bytes.now (opening_of c.args.launching.now) c.args.launching.now.asked.packet
          (due c.args.self.now.history (Take c.args.queue c.args.packet c.args.bytes.now)) c.requires.decided.4 c.requires.decided.1;
      reply_is = search rules;
      history_is = refl;
    })

pub returns-in_err-list_rights-clause-met : goal.returns-in_err-list_rights-clause-met
returns-in_err-list_rights-clause-met c =
    inr (record {
      may = rw c.requires.decided.0 refl;
      asks = launch-asks c.args.self.now.history c.args.queue c.args.packet c.args.bytes.now (opening_of c.args.launching.now) c.args.launching.now.asked.packet
          (due c.args.self.now.history (Take c.args.queue c.args.packet c.args.bytes.now)) c.requires.decided.4 c.requires.decided.1;
      reply_is = search rules;
      history_is = refl;
    })

pub returns-clause-places : goal.returns-clause-places
returns-clause-places c =
    let a = c.self.inside in
    let can = can-take a c.self.invariant c.args.queue (subst (λ h. TakesNext h c.args.queue) (sym (seen c.self.view_is)) c.requires.decided.3) in
    places-kept a _ c.self.view_is c.place_next.new.queues a.grants a.spare c.enter_launch.new.audit _ c.place_next.ensures.capacity
    (ap (map error_places) c.place_next.ensures.queues ∙ errors-changed a.queues.items c.args.queue (with_launched _ _) can.opened.q can.opened.found can.opened.ascending refl)
    refl refl c.enter_launch.ensures
