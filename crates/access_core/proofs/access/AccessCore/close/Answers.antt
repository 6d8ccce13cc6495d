-- What is cached follows the close.
use Rattle.core_model.specs.History.{History, beginning}
use Rattle.core_model.specs.Queues.{OpenQueue, openings}
use Rattle.std.proofs.Common.{◌≡◌, ◌∙◌, refl, sym, ap, length, map, subst, rules, Result, Err, Some, option_map, slice_get, not, ◌==◌}
use Rattle.access_core.specs.Cores.{Core}
use Rattle.access_core.specs.Keeping.{ClosesAsDue}
use Rattle.access_core.proofs.Calls.{met-entry}
use Rattle.access_core.proofs.CachedMore.{IsCached-more, memory-still, owed-inside}
use Rattle.access_core.proofs.CloseLemmas.{close-open, closed-laid, errors-closed, flying-below, grants-closed, memory-closed, queues-closed, told-closed, values-closed}
use Rattle.access_core.proofs.Places.{places-closed}
use Rattle.access_core.proofs.Seen.{seen}
use Rattle.access_core.proofs.Terms.{Call, Close, Inside, IsCached, Owed, QueueId, Refusal, due, enters, error_places, flight_of, history_of, releases_of, start_of, table_places, without_blocks, ArgumentBlock}
use Rattle.access_core.proofs.TakeLemmas.{IsOpen}
use Rattle.core_model.specs.declared.outcome.Outcome.TheVariants as outcome
use Rattle.core_model.specs.declared.refusal.Refusal.TheVariants as refusal
use Rattle.access_core.proofs.ReadyLemmas.{ready-left}
use Rattle.access_core.proofs.access.AccessCore.close.Goals as goal

-- a refusal as the reply to the call
abbrev as_told : Refusal → Result (Unit {0}) Refusal
as_told why = Err why

-- what is due to the close of a queue that may be closed
abbrev closed_due : History → QueueId → Owed
closed_due h queue = enters outcome.Accepted (releases_of queue (flight_of (beginning h) h.entries queue))

due-here : (a : Inside) (old : History) → history_of a ≡ old → (queue : QueueId) → due old (Call (Close queue)) ≡ closed_due old queue → due (history_of a) (Call (Close queue)) ≡ closed_due (history_of a) queue
due-here a old seen_as queue is = subst (λ (h : History). due h (Call (Close queue)) ≡ closed_due h queue) (sym seen_as) is

opened-at : (a : Inside) → IsCached a → (old : History) → history_of a ≡ old → (queue : QueueId) → due old (Call (Close queue)) ≡ closed_due old queue → IsOpen a queue
opened-at a kept old seen_as queue is =
    close-open a kept queue _ _ (owed-inside a kept (history_of a) refl (Call (Close queue)) outcome.Accepted _ (due-here a old seen_as queue is))

pub close_open-effects-requires-clause-there : goal.close_open-effects-requires-clause-there
close_open-effects-requires-clause-there c =
    let at = opened-at c.self.inside c.self.invariant _ (seen c.self.view_is) c.args.queue c.in_ok-may_close.ensures.may in
    (at.q, at.found, at.ascending)

pub close_open-effects-requires-clause-counted : goal.close_open-effects-requires-clause-counted
close_open-effects-requires-clause-counted c =
    flying-below c.self.inside c.self.invariant c.args.queue (opened-at c.self.inside c.self.invariant _ (seen c.self.view_is) c.args.queue c.in_ok-may_close.ensures.may)

pub invariant_of-self : goal.invariant_of-self
invariant_of-self c =
    let a = c.self.inside in
    let queue = c.args.queue in
    let at = opened-at a c.self.invariant _ (seen c.self.view_is) queue c.in_ok-may_close.ensures.may in
    let told = c.close_open-effects.ensures.effects ∙ told-closed a c.self.invariant queue at in
    IsCached-more a _ (Call (Close queue)) outcome.Accepted _ c.self.invariant
    (record {
      same = ((refl, refl, refl), refl);
      audit = rw told at c.enter.ensures;
      blocks = without_blocks queue c.self.invariant.blocks;
      grants = grants-closed a c.self.invariant queue;
      memory = memory-still a.memory _ (λ x byte. memory-closed a c.self.invariant queue x byte (flight_of (start_of a) a.audit.items queue));
      values = sym (values-closed a c.self.invariant queue a.signals (flight_of (start_of a) a.audit.items queue));
      queues = rw (c.close_open-effects.ensures.queues, c.close_open-effects.ensures.in_flight_count) (queues-closed a c.self.invariant queue at);
      laid = rw c.close_open-effects.ensures.queues (closed-laid a c.self.invariant queue);
      ready = ready-left a.fresh a.told a.start c.self.invariant.blocks c.self.invariant.ready (λ (b : ArgumentBlock). not (b.queue.0 == queue.0));
    })
    (history_of a) refl (due-here a _ (seen c.self.view_is) queue c.in_ok-may_close.ensures.may)

pub returns-clause-met : goal.returns-clause-met
returns-clause-met c =
    let a = c.self.inside in
    let queue = c.args.queue in
    let at = opened-at a c.self.invariant _ (seen c.self.view_is) queue c.in_ok-may_close.ensures.may in
    let told = c.close_open-effects.ensures.effects ∙ told-closed a c.self.invariant queue at
    ∙ ap (λ (h : History). releases_of queue (flight_of (beginning h) h.entries queue)) (seen c.self.view_is) in
    met-entry a _ (seen c.self.view_is) (Call (Close queue)) outcome.Accepted _ _ c.in_ok-may_close.ensures.may (rw told at c.enter.ensures.items)

pub returns-clause-places : goal.returns-clause-places
returns-clause-places c =
    let a = c.self.inside in
    let queue = c.args.queue in
    let at = opened-at a c.self.invariant _ (seen c.self.view_is) queue c.in_ok-may_close.ensures.may in
    let gone = errors-closed a c.self.invariant queue at in
    subst (λ owing. ClosesAsDue owing (openings (beginning c.args.self.now.history) c.args.self.now.history.entries).queues queue c.args.self.now.places (table_places a.kernels a.segments c.close_open-effects.new.queues a.grants a.spare c.enter.new.audit))
    (sym c.in_ok-may_close.ensures.may)
    (record {
      before = gone.0;
      lost = gone.1;
      behind = gone.2;
      place = subst (λ (h : History). option_map (λ (q : OpenQueue). q.queue) (slice_get (openings (beginning h) h.entries).queues (length gone.0)) ≡ Some queue) (seen c.self.view_is) gone.5;
      errors = ap (λ (core : Core). core.places.error_places) (sym c.self.view_is) ∙ gone.3;
      others = places-closed a _ c.self.view_is c.close_open-effects.new.queues c.enter.new.audit _ _ c.close_open-effects.ensures.capacity
          (ap (map error_places) c.close_open-effects.ensures.queues ∙ gone.4) c.enter.ensures;
    })

-- a refusal that isn't for want of room is none that is
told-never : (why : Refusal) (reply : Result (Unit {0}) Refusal) → reply ≡ as_told why → (why ≡ refusal.AuditFull → ⊥) → reply ≡ as_told refusal.AuditFull → ⊥
told-never why reply told never is = let same : why ≡ refusal.AuditFull = cc in never same

pub returns-in_err-may_close-clause-room : goal.returns-in_err-may_close-clause-room
returns-in_err-may_close-clause-room c = λ f there is.
    let reply : c.from_residual.result ≡ Err c.in_err-may_close.field-0.0 = search rules in
    told-never _ _ reply (c.in_err-may_close.ensures.room f there) is
