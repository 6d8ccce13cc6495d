-- What is kept moves along with what is seen, which is entered where there is room.
use Rattle.std.proofs.Common.{◌∙◌, refl, sym, ap, map, []}
use Rattle.access_core.proofs.Terms.{Call, Poll, error_places, polled_as, start_of, with_advance}
use Rattle.access_core.proofs.Places.{places-kept}
use Rattle.access_core.proofs.ChangedQueue.{errors-changed}
use Rattle.access_core.proofs.Seen.{seen}
use Rattle.access_core.proofs.HeldAfter.{grants-still}
use Rattle.access_core.proofs.Laid.{kept-laid}
use Rattle.access_core.proofs.CachedMore.{IsCached-more, memory-still}
use Rattle.access_core.proofs.PollLemmas.{seen_further, polled_as-advances}
use Rattle.access_core.proofs.QueueAt.{flight-advanced}
use Rattle.access_core.proofs.TakeLemmas.{found-of, is-open, open-of}
use Rattle.access_core.proofs.WorkLemmas.{place-inside, queues-advanced}
use Rattle.core_model.specs.declared.outcome.Outcome.TheVariants as outcome
use Rattle.access_core.proofs.access.AccessCore.see.Goals as goal

pub advance-requires-clause-there : goal.advance-requires-clause-there
advance-requires-clause-there c =
    let a = c.self.inside in
    let at = open-of a c.self.invariant _ (seen c.self.view_is) c.args.queue c.args.found.packet c.args.place c.requires.found in
    (at.q, at.found, at.ascending)

pub advance-requires-clause-found : goal.advance-requires-clause-found
advance-requires-clause-found c = found-of c.self.inside c.self.invariant _ (seen c.self.view_is) c.args.queue c.args.found c.requires.at

pub invariant_of-self : goal.invariant_of-self
invariant_of-self c =
    let a = c.self.inside in
    let is = polled_as-advances c.args.queue c.args.found.packet c.args.ready c.args.new in
    let found = place-inside a _ (seen c.self.view_is) c.args.queue c.args.found.packet c.args.place c.requires.found in
    let at = is-open a c.self.invariant c.args.queue found.opening found.owner_is in
    IsCached-more a _ (Call (Poll c.args.queue c.args.found.packet)) (outcome.Polled (polled_as c.args.ready c.args.new)) [] c.self.invariant
    (record {
      same = ((refl, refl, refl), refl);
      audit = rw (c.none.ensures, c.polled_as-told.ensures) at c.enter.ensures;
      blocks = c.self.invariant.blocks;
      grants = grants-still a c.self.invariant _ _ _ refl is.stays (λ client on right b. refl) (λ rows. refl) (flight-advanced (start_of a) a.audit.items _ _ _ c.args.queue c.args.found.packet _ is);
      memory = memory-still a.memory _ (λ x byte. refl);
      values = refl;
      queues = rw c.advance.ensures.queues (queues-advanced a c.self.invariant c.args.queue at c.args.found.packet (seen_further c.args.new) _ _ _ is (λ all. refl) _
          ((λ i. record { groups_run = c.args.place.progress.groups_run; satisfied = c.satisfied_by_either.ensures i }) ∙ ap (seen_further c.args.new) (sym found.progress_is)));
      laid = rw c.advance.ensures.queues (kept-laid a c.self.invariant c.args.queue at (with_advance c.args.found.packet _) (λ x. refl) refl);
      ready = c.self.invariant.ready;
    })
    _ (seen c.self.view_is) c.requires.may

pub returns-clause-places : goal.returns-clause-places
returns-clause-places c =
    let a = c.self.inside in
    let at = open-of a c.self.invariant _ (seen c.self.view_is) c.args.queue c.args.found.packet c.args.place c.requires.found in
    places-kept a _ c.self.view_is c.advance.new.queues c.self.inside.grants c.self.inside.spare c.enter.new.audit _ c.advance.ensures.capacity
    (ap (map error_places) c.advance.ensures.queues ∙ errors-changed a.queues.items c.args.queue (with_advance c.args.found.packet _) at.q at.found at.ascending refl)
    refl refl c.enter.ensures
