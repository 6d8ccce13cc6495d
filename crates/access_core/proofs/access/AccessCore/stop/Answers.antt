-- What is cached follows the stop.
use Rattle.std.proofs.Common.{refl, sym, ap, map, ◌∙◌, arith}
use Rattle.access_core.proofs.Terms.{Call, Stop, error_places, packet_in, release_of, with_leaving}
use Rattle.access_core.specs.declared.access.leaving.Leaving.TheVariants as leaving
use Rattle.access_core.proofs.Places.{places-kept}
use Rattle.access_core.proofs.ChangedQueue.{errors-changed}
use Rattle.access_core.proofs.Seen.{seen}
use Rattle.access_core.proofs.CachedMore.{IsCached-more, memory-still, owed-inside}
use Rattle.access_core.proofs.StopLemmas.{blocks-stopped, freed-stopped, grants-stopped, memory-released, queues-stopped, stop-open, stopped-laid, values-released, stopped-ready}
use Rattle.access_core.proofs.TakeLemmas.{all-found-of}
use Rattle.core_model.specs.declared.outcome.Outcome.TheVariants as outcome
use Rattle.access_core.proofs.access.AccessCore.stop.Goals as goal

pub leave_flight-requires-clause-there : goal.leave_flight-requires-clause-there
leave_flight-requires-clause-there = grind (arith, stop-open)

pub leave_flight-requires-clause-found : goal.leave_flight-requires-clause-found
leave_flight-requires-clause-found c = all-found-of c.self.inside c.self.invariant _ (seen c.self.view_is) c.args.queue c.in_ok-barrier.barrier c.in_ok-barrier.ensures.found

pub leave_flight-requires-clause-sound : goal.leave_flight-requires-clause-sound
leave_flight-requires-clause-sound c = c.self.invariant.sound

pub leave_flight-requires-clause-counted : goal.leave_flight-requires-clause-counted
leave_flight-requires-clause-counted c =
    let a = c.self.inside in
    let at = stop-open a c.self.invariant c.args.queue _ _ (owed-inside a c.self.invariant _ (seen c.self.view_is) _ _ _ c.in_ok-barrier.ensures.may) in
    freed-stopped a c.self.invariant c.args.queue at (packet_in c.in_ok-barrier.barrier)

pub invariant_of-self : goal.invariant_of-self
invariant_of-self c =
    let a = c.self.inside in
    let barrier = packet_in c.in_ok-barrier.barrier in
    let at = stop-open a c.self.invariant c.args.queue _ _ (owed-inside a c.self.invariant _ (seen c.self.view_is) _ _ _ c.in_ok-barrier.ensures.may) in
    IsCached-more a _ (Call (Stop c.args.queue)) outcome.Accepted (release_of c.args.queue barrier) c.self.invariant
    (record {
      same = ((refl, refl, refl), refl);
      audit = rw c.release_of-effects.ensures at c.enter.ensures;
      blocks = blocks-stopped a c.self.invariant c.args.queue barrier;
      grants = grants-stopped a c.self.invariant c.args.queue barrier;
      memory = memory-still a.memory _ (λ x byte. memory-released c.args.queue barrier x byte);
      values = sym (values-released c.args.queue barrier a.signals);
      queues = rw (c.leave_flight.ensures.queues, c.leave_flight.ensures.in_flight_count) (queues-stopped a c.self.invariant c.args.queue at barrier);
      laid = rw c.leave_flight.ensures.queues (stopped-laid a c.self.invariant c.args.queue barrier at);
      ready = stopped-ready a c.self.invariant c.args.queue barrier;
    })
    _ (seen c.self.view_is) c.in_ok-barrier.ensures.may

pub returns-clause-places : goal.returns-clause-places
returns-clause-places c =
    let a = c.self.inside in
    let barrier = packet_in c.in_ok-barrier.barrier in
    let at = stop-open a c.self.invariant c.args.queue _ _ (owed-inside a c.self.invariant _ (seen c.self.view_is) _ _ _ c.in_ok-barrier.ensures.may) in
    places-kept a _ c.self.view_is c.leave_flight.new.queues a.grants c.leave_flight.new.spare c.enter.new.audit _ c.leave_flight.ensures.capacity
    (ap (map error_places) c.leave_flight.ensures.queues ∙ errors-changed a.queues.items c.args.queue (with_leaving barrier leaving.Stopped) at.q at.found at.ascending refl)
    refl c.leave_flight.ensures.spare c.enter.ensures
