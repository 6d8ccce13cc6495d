-- The queue has its first error, and the entry tells it.
use Rattle.std.proofs.Common.{◌≡◌, ◌<◌, refl, sym, subst, [], ap, arith, length-append, map, ◌∙◌}
use Rattle.access_core.proofs.Terms.{Denied, Queue, QueueError, Take, TakesNext, error_places, error_without_place, with_denied}
use Rattle.access_core.proofs.ChangedQueue.{errors-changed}
use Rattle.access_core.proofs.Places.{places-kept}
use Rattle.access_core.proofs.Seen.{seen}
use Rattle.access_core.proofs.HeldAfter.{grants-still}
use Rattle.access_core.proofs.Laid.{kept-laid}
use Rattle.access_core.proofs.CachedMore.{IsCached-more, memory-still}
use Rattle.access_core.proofs.TakeLemmas.{can-deny, can-take, flight-denied, queues-denied}
use Rattle.core_model.specs.declared.outcome.Outcome.TheVariants as outcome
use Rattle.access_core.proofs.access.AccessCore.deny.Goals as goal

pub fail_next-requires : goal.fail_next-requires
fail_next-requires = grind (arith, can-deny, can-take)

pub invariant_of-self : goal.invariant_of-self
invariant_of-self c =
    let a = c.self.inside in
    let can = can-take a c.self.invariant c.args.queue (subst (λ h. TakesNext h c.args.queue) (sym (seen c.self.view_is)) c.requires.1) in
    IsCached-more a _ (Take c.args.queue c.args.packet c.args.bytes.now) (outcome.Taken (Denied (error_without_place c.args.queue c.args.packet.0 c.args.rule))) [] c.self.invariant
    (record {
      same = ((refl, refl, refl), refl);
      audit = rw c.none.ensures at c.enter.ensures;
      blocks = c.self.invariant.blocks;
      grants = grants-still a c.self.invariant _ _ _ refl (λ queue id. refl) (λ client on right b. refl) (λ rows. refl) (flight-denied a c.self.invariant c.args.queue c.args.packet c.args.bytes.now can c.args.rule);
      memory = memory-still a.memory _ (λ x byte. refl);
      values = refl;
      queues = rw c.fail_next.ensures.queues (queues-denied a c.self.invariant c.args.queue c.args.packet c.args.bytes.now can c.args.rule);
      laid = rw c.fail_next.ensures.queues (kept-laid a c.self.invariant c.args.queue can.opened (with_denied (error_without_place c.args.queue c.args.packet.0 c.args.rule)) (λ x. refl) refl);
      ready = c.self.invariant.ready;
    })
    _ (seen c.self.view_is) c.requires.0

-- the error takes a place that was free
denied-places : (q : Queue) (error : QueueError) → 0 < q.errors.room → error_places (with_denied error q) ≡ error_places q
denied-places q error some = grind (arith, length-append)

pub returns-clause-places : goal.returns-clause-places
returns-clause-places c =
    let a = c.self.inside in
    let error = error_without_place c.args.queue c.args.packet.0 c.args.rule in
    let can = can-deny a c.self.invariant c.args.queue c.args.packet c.args.bytes.now
    (can-take a c.self.invariant c.args.queue (subst (λ h. TakesNext h c.args.queue) (sym (seen c.self.view_is)) c.requires.1)) in
    places-kept a _ c.self.view_is c.fail_next.new.queues c.self.inside.grants c.self.inside.spare c.enter.new.audit _ c.fail_next.ensures.capacity
    (ap (map error_places) c.fail_next.ensures.queues ∙ errors-changed a.queues.items c.args.queue (with_denied error) can.0 can.1 can.4 (denied-places can.0 error can.2))
    refl refl c.enter.ensures
