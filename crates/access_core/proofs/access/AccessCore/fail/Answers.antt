-- What is kept moves along with the failure, which always finds room: a packet leaves flight for its entry.
use Rattle.std.proofs.Common.{arith, ◌++◌, refl, [], ◌∷◌, ap, map, ◌∙◌, Some, not}
use Rattle.access_core.proofs.Terms.{B1, Call, Failed, PacketId, Poll, QueueId, QueueView, error_places, error_without_place, start_of, with_leaving, without_packet, is_block}
use Rattle.access_core.specs.declared.access.leaving.Leaving.TheVariants as leaving
use Rattle.access_core.proofs.Places.{failed-places, places-kept}
use Rattle.access_core.proofs.ChangedQueue.{errors-changed}
use Rattle.access_core.proofs.Seen.{seen}
use Rattle.access_core.proofs.HeldAfter.{grants-released}
use Rattle.access_core.proofs.Laid.{blocks_without, left-laid}
use Rattle.access_core.proofs.CachedMore.{IsCached-more, memory-still}
use Rattle.access_core.proofs.QueueAt.{flight-released}
use Rattle.access_core.proofs.TakeLemmas.{found-of, is-open, open-of}
use Rattle.access_core.proofs.WorkLemmas.{failure-releases, can-fail, freed-below, place-inside, queues-released, sound-failed}
use Rattle.core_model.specs.declared.entry.Effect.TheVariants as effect
use Rattle.core_model.specs.declared.outcome.Outcome.TheVariants as outcome
use Rattle.access_core.proofs.ReadyLemmas.{ready-left}
use Rattle.access_core.proofs.access.AccessCore.fail.Goals as goal

abbrev failed : QueueId → PacketId → QueueView → QueueView
failed queue id v = record v { errors = v.errors ++ error_without_place queue id.0 B1 ∷ []; places = without_packet id v.places }

pub leave_flight-requires-clause-there : goal.leave_flight-requires-clause-there
leave_flight-requires-clause-there = grind (arith, can-fail, is-open)

pub leave_flight-requires-clause-found : goal.leave_flight-requires-clause-found
leave_flight-requires-clause-found c = found-of c.self.inside c.self.invariant _ (seen c.self.view_is) c.args.queue c.args.found c.requires.at

pub leave_flight-requires-clause-sound : goal.leave_flight-requires-clause-sound
leave_flight-requires-clause-sound c = c.self.invariant.sound

pub leave_flight-requires-clause-counted : goal.leave_flight-requires-clause-counted
leave_flight-requires-clause-counted c =
    let a = c.self.inside in
    let at = open-of a c.self.invariant _ (seen c.self.view_is) c.args.queue c.args.found.packet c.args.place c.requires.found in
    freed-below a c.self.invariant c.args.queue c.args.found.packet at

pub invariant_of-self : goal.invariant_of-self
invariant_of-self c =
    let a = c.self.inside in
    let is = failure-releases c.args.queue c.args.found.packet in
    let found = place-inside a _ (seen c.self.view_is) c.args.queue c.args.found.packet c.args.place c.requires.found in
    let at = is-open a c.self.invariant c.args.queue found.opening found.owner_is in
    IsCached-more a _ (Call (Poll c.args.queue c.args.found.packet)) (outcome.Polled (Failed (error_without_place c.args.queue c.args.found.packet.0 B1)))
    (effect.Release c.args.queue c.args.found.packet ∷ []) c.self.invariant
    (record {
      same = ((refl, refl, refl), refl);
      audit = rw c.one-effects.ensures at c.enter.ensures;
      blocks = blocks_without c.args.queue c.args.found.packet c.self.invariant.blocks;
      grants = grants-released a c.self.invariant _ _ _ refl (λ client on right b. refl) (λ rows. refl) c.args.queue c.args.found.packet is.drops
          (flight-released (start_of a) a.audit.items _ _ _ c.args.queue c.args.found.packet is);
      memory = memory-still a.memory _ (λ x byte. refl);
      values = refl;
      queues = rw (c.leave_flight.ensures.queues, c.leave_flight.ensures.in_flight_count)
          (queues-released a c.self.invariant c.args.queue c.args.found.packet _ _ _ is (λ all. refl) at (with_leaving (Some c.args.found.packet) (leaving.Failed (error_without_place c.args.queue c.args.found.packet.0 B1)))
          (failed c.args.queue c.args.found.packet)
          (λ q. refl) (sound-failed a c.self.invariant c.args.queue c.args.found.packet at (error_without_place c.args.queue c.args.found.packet.0 B1) found.flying found.found) refl (λ m v. grind arith));
      laid = rw c.leave_flight.ensures.queues
          (left-laid a c.self.invariant c.args.queue at c.args.found.packet (leaving.Failed (error_without_place c.args.queue c.args.found.packet.0 B1)));
      ready = ready-left a.fresh a.told a.start c.self.invariant.blocks c.self.invariant.ready (λ b. not (is_block c.args.queue c.args.found.packet b));
    })
    _ (seen c.self.view_is) c.requires.may

pub returns-clause-places : goal.returns-clause-places
returns-clause-places c =
    let a = c.self.inside in
    let error = error_without_place c.args.queue c.args.found.packet.0 B1 in
    let found = place-inside a _ (seen c.self.view_is) c.args.queue c.args.found.packet c.args.place c.requires.found in
    let can = can-fail a c.self.invariant c.args.queue c.args.found.packet (is-open a c.self.invariant c.args.queue found.opening found.owner_is) found.flying found.found in
    places-kept a _ c.self.view_is c.leave_flight.new.queues a.grants c.leave_flight.new.spare c.enter.new.audit _ c.leave_flight.ensures.capacity
    (ap (map error_places) c.leave_flight.ensures.queues ∙ errors-changed a.queues.items c.args.queue (with_leaving (Some c.args.found.packet) (leaving.Failed error)) can.0 can.1 can.4
    (failed-places can.0 c.args.found.packet error can.2))
    refl c.leave_flight.ensures.spare c.enter.ensures
