-- What is kept moves along with the opening, which is entered where there is room.
use Rattle.core_model.specs.History.{beginning}
use Rattle.std.proofs.Common.{◌≡◌, ◌+◌, ◌<◌, ◌≤◌, ◌∙◌, ◌∷◌, ◌++◌, List, false, refl, sym, subst, ap, [], length, ℕ, arith}
use Rattle.access_core.proofs.Terms.{AgentHandle, All-nil, All-push, All-weaker, ClientId, IsSound, Open, Place, QUEUES, Queue, QueueId, cached_openings, cached_queue, cached_view, entered-owed, map-append, openings, start_of}
use Rattle.core_model.proofs.Entered.{open-effects}
use Rattle.access_core.proofs.Seen.{seen}
use Rattle.access_core.proofs.HeldAfter.{grants-still}
use Rattle.access_core.proofs.QueueLemmas.{ascend-push, openings-count, found-push, few_after, opens-next}
use Rattle.access_core.specs.inner.ArgumentBlocks.{Ascend, IsOfQueue, by_packet}
use Rattle.access_core.proofs.Laid.{laid-opened}
use Rattle.access_core.proofs.CachedMore.{IsCached-more, memory-still, none-launched, owed-inside}
use Rattle.access_core.proofs.QueueAt.{IsQuiet, flight-quiet, queue_at-quiet}
use Rattle.core_model.specs.declared.outcome.Outcome.TheVariants as outcome
use Rattle.access_core.proofs.access.AccessCore.open_allowed.Goals as goal

quiet : (client : ClientId) (agent : AgentHandle) (size : ℕ) (queue : QueueId) → IsQuiet (Open client agent size) (outcome.Opened queue) []
quiet client agent size queue = record { launches = refl; progress = λ q id p. refl; stays = λ q id. refl; releases = λ fs. refl; views = λ m v. refl }

pub invariant_of-self-2 : goal.invariant_of-self-2
invariant_of-self-2 c =
    let a = c.self.inside in
    let calm = quiet c.args.client c.args.agent c.args.size c.args.queue in
    let q : Queue = record { number = c.args.queue; client = c.args.client; agent = c.args.agent; next = 0; stopped = false; errors = c.in_ok-errors.errors; places = c.new.result; blocks = c.in_ok-blocks.blocks; releases = c.in_ok-releases.releases } in
    let push : c.push_reserved.new.self.items ≡ a.queues.items ++ q ∷ [] = c.push_reserved.ensures.items ∙ ap (λ (qs : List Queue). qs ++ q ∷ []) c.in_ok-get_room.ensures.items in
    let none = c.in_ok-errors.ensures.empty in
    let h = c.args.self.now.history in
    let owing = entered-owed h (Open c.args.client c.args.agent c.args.size) (outcome.Opened c.args.queue) [] c.requires.may in
    let number : c.args.queue.0 ≡ a.opened + 1 = opens-next a c.self.invariant c.args.client c.args.agent c.args.size c.args.queue (owed-inside a c.self.invariant _ (seen c.self.view_is) _ _ _ c.requires.may) in
    let fewer = open-effects (beginning h) h.entries (outcome.Opened c.args.queue) [] c.args.client c.args.agent c.args.size owing.0 in
    IsCached-more a _ (Open c.args.client c.args.agent c.args.size) (outcome.Opened c.args.queue) [] c.self.invariant
    (record {
      same = ((refl, refl, refl), refl);
      audit = rw c.none.ensures at c.enter.ensures;
      blocks = c.self.invariant.blocks;
      grants = grants-still a c.self.invariant _ _ _ refl calm.stays (λ client on right b. refl) (λ rows. refl) (flight-quiet (start_of a) a.audit.items _ _ _ calm);
      memory = memory-still a.memory [] (λ x byte. refl);
      values = refl;
      queues = record {
        openings = rw (push, number) (ap (λ queues. record { opened = a.opened + 1; queues = queues }) (map-append cached_queue a.queues.items _));
        queues = λ m. rw push (found-push cached_view a.queues.items _ (rw (none, c.new.ensures) refl) m) ∙ c.self.invariant.queues m
            ∙ sym (queue_at-quiet (start_of a) a.audit.items _ _ _ calm m);
        ascending = rw push (ascend-push 0 a.opened a.queues.items q (omega arith) c.self.invariant.up_to (omega (arith, number)) c.self.invariant.ascending);
        up_to = rw push (All-push (λ (one : Queue). one.number.0 ≤ c.args.queue.0) a.queues.items q
            (All-weaker (λ (one : Queue). one.number.0 ≤ a.opened) (λ (one : Queue). one.number.0 ≤ c.args.queue.0) (λ one less. omega (arith, less, number)) a.queues.items c.self.invariant.up_to) (omega arith));
        sound = rw push (All-push IsSound a.queues.items _ c.self.invariant.sound
            (record {
              room = rw (none, c.in_ok-errors.ensures.room) refl;
              free = rw (none, c.new.ensures) (omega arith);
              below = rw c.new.ensures (All-nil (λ (p : Place). p.id.0 < 0));
              given = rw (c.new.ensures, c.in_ok-blocks.ensures) refl;
              rising = subst (Ascend by_packet) (sym c.in_ok-blocks.ensures) tt;
              of_queue = rw c.in_ok-blocks.ensures (All-nil (IsOfQueue c.args.queue c.args.client));
            }));
        few_queues = rw push (few_after a.queues.items _ (openings-count a c.self.invariant
            (subst (λ h. length (openings (beginning h) h.entries).queues < QUEUES) (sym (seen c.self.view_is)) fewer.few)));
        in_flight_count = c.self.invariant.in_flight_count ∙ ap length (sym (flight-quiet (start_of a) a.audit.items _ _ _ calm));
        within = none-launched (Open c.args.client c.args.agent c.args.size) (outcome.Opened c.args.queue) refl (start_of a);
      };
      laid = rw push (laid-opened a.queues.items (a.start.before + length a.audit.items) c.self.invariant.blocks c.self.invariant.laid q c.in_ok-blocks.ensures);
      ready = c.self.invariant.ready;
    })
    _ (seen c.self.view_is) c.requires.may
