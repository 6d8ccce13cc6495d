-- What is kept moves along with the completion, which always finds room: a packet leaves flight for its entry.
use Rattle.std.proofs.Common.{◌≡◌, ◌++◌, ◌∷◌, [], arith, refl, ap, map, Some, ◌∙◌, not}
use Rattle.access_core.proofs.Terms.{Call, Finish, completion_of, completion_signal, error_places, signal_decrement, start_of, with_leaving, without_packet, is_block}
use Rattle.access_core.specs.declared.access.leaving.Leaving.TheVariants as leaving
use Rattle.access_core.proofs.Places.{places-kept}
use Rattle.access_core.proofs.ChangedQueue.{errors-changed}
use Rattle.access_core.proofs.Seen.{seen}
use Rattle.access_core.proofs.HeldAfter.{grants-released}
use Rattle.access_core.proofs.Laid.{blocks_without, left-laid}
use Rattle.access_core.proofs.CachedMore.{IsCached-more, memory-still}
use Rattle.access_core.proofs.QueueAt.{flight-released}
use Rattle.access_core.proofs.TakeLemmas.{found-of, open-of}
use Rattle.access_core.proofs.WorkLemmas.{finish-releases, freed-below, memory-completed, finish-due, queues-released, sound-released}
use Rattle.core_model.specs.declared.entry.Effect.TheVariants as effect
use Rattle.core_model.specs.declared.outcome.Outcome.TheVariants as outcome
use Rattle.access_core.proofs.ReadyLemmas.{ready-left}
use Rattle.access_core.proofs.access.AccessCore.complete_found.Goals as goal

pub leave_flight-requires-clause-there : goal.leave_flight-requires-clause-there
leave_flight-requires-clause-there c =
    let a = c.self.inside in
    let at = open-of a c.self.invariant _ (seen c.self.view_is) c.args.queue c.args.found.packet c.requires.finished.place c.requires.finished.found in
    (at.q, at.found, at.ascending)

pub leave_flight-requires-clause-found : goal.leave_flight-requires-clause-found
leave_flight-requires-clause-found c = found-of c.self.inside c.self.invariant _ (seen c.self.view_is) c.args.queue c.args.found c.requires.at

pub leave_flight-requires-clause-sound : goal.leave_flight-requires-clause-sound
leave_flight-requires-clause-sound c = c.self.invariant.sound

pub leave_flight-requires-clause-counted : goal.leave_flight-requires-clause-counted
leave_flight-requires-clause-counted c =
    let a = c.self.inside in
    freed-below a c.self.invariant c.args.queue c.args.found.packet
    (open-of a c.self.invariant _ (seen c.self.view_is) c.args.queue c.args.found.packet c.requires.finished.place c.requires.finished.found)

pub invariant_of-self : goal.invariant_of-self
invariant_of-self c =
    let a = c.self.inside in
    let p = c.requires.finished.place.packet in
    let is = finish-releases a.signals c.args.queue c.args.found.packet p in
    let completed : c.complete-effects.result ≡ completion_of a.signals c.args.queue c.args.found.packet p =
    c.complete-effects.ensures.effects ∙ ap (λ signal. signal_decrement a.signals signal ++ effect.Release c.args.queue c.args.found.packet ∷ []) c.requires.finished.signal_is in
    let at = open-of a c.self.invariant _ (seen c.self.view_is) c.args.queue c.args.found.packet c.requires.finished.place c.requires.finished.found in
    IsCached-more a _ (Call (Finish c.args.queue c.args.found.packet)) outcome.Accepted (completion_of a.signals c.args.queue c.args.found.packet p) c.self.invariant
    (record {
      same = ((refl, refl, refl), refl);
      audit = rw completed at c.enter.ensures;
      blocks = blocks_without c.args.queue c.args.found.packet c.self.invariant.blocks;
      grants = grants-released a c.self.invariant _ _ _ refl (λ client on right b. refl) (λ rows. refl) c.args.queue c.args.found.packet is.drops
          (flight-released (start_of a) a.audit.items _ _ _ c.args.queue c.args.found.packet is);
      memory = memory-still a.memory _ (λ x byte. memory-completed a.signals (completion_signal p) c.args.queue c.args.found.packet x byte);
      values = rw completed at c.complete-effects.ensures.values;
      queues = rw (c.leave_flight.ensures.queues, c.leave_flight.ensures.in_flight_count)
          (queues-released a c.self.invariant c.args.queue c.args.found.packet _ _ _ is (λ all. refl) at (with_leaving (Some c.args.found.packet) leaving.Completed) (λ v. record v { places = without_packet c.args.found.packet v.places })
          (λ q. refl) (sound-released at.q c.args.found.packet at.sound) refl (λ m v. grind arith));
      laid = rw c.leave_flight.ensures.queues
          (left-laid a c.self.invariant c.args.queue at c.args.found.packet leaving.Completed);
      ready = ready-left a.fresh a.told a.start c.self.invariant.blocks c.self.invariant.ready (λ b. not (is_block c.args.queue c.args.found.packet b));
    })
    _ (seen c.self.view_is) (finish-due a c.self.invariant _ (seen c.self.view_is) _ c.args.queue c.args.found.packet p c.requires.finished.due_is)

pub returns-clause-places : goal.returns-clause-places
returns-clause-places c =
    let a = c.self.inside in
    let at = open-of a c.self.invariant _ (seen c.self.view_is) c.args.queue c.args.found.packet c.requires.finished.place c.requires.finished.found in
    places-kept a _ c.self.view_is c.leave_flight.new.queues a.grants c.leave_flight.new.spare c.enter.new.audit _ c.leave_flight.ensures.capacity
    (ap (map error_places) c.leave_flight.ensures.queues ∙ errors-changed a.queues.items c.args.queue (with_leaving (Some c.args.found.packet) leaving.Completed) at.q at.found at.ascending refl)
    refl c.leave_flight.ensures.spare c.enter.ensures
