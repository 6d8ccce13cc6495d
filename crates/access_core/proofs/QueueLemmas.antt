-- Lists of queues: one more, and what is told of those that are cached.
use Rattle.std.proofs.Common.{◌≡◌, ℕ, ◌+◌, ◌<◌, ◌≤◌, ◌^◌, ◌==◌, Bool, true, false, length, length-append, arith, List, [], ◌∷◌, ◌++◌, All, map, refl, sym, ◌∙◌, ap, option_map, Option, Some, None, find, fold, subst, if◌then◌else◌}
use Rattle.access_core.proofs.Terms.{AgentHandle, All-head, All-tail, AscendFrom, ClientId, Entry, Event, Inside, IsCached, IsLegal, Open, OpenQueue, Openings, QUEUES, Queue, QueueId, Start, cached_opening, cached_queue, enters, has_number, length-map, opening_in, opening_state}
use Rattle.core_model.specs.Queues.{openings}
use Rattle.access_core.proofs.Terms.{openings_after, owed, queue_in, start_of}
use Rattle.core_model.proofs.Entered.{open-effects}
use Rattle.core_model.specs.declared.outcome.Outcome.TheVariants as outcome

-- what is kept of each queue stays where one is added of which nothing is kept
pub found-push : {X : Type 0} (f : Option Queue → X) (queues : List Queue) (q : Queue) → f (Some q) ≡ f None → (m : QueueId) → f (queue_in (queues ++ q ∷ []) m) ≡ f (queue_in queues m)
found-push f [] q fresh m = by_test (has_number m q)
  where
    by_test : (b : Bool) → f (if b then Some q else None) ≡ f None
    by_test true = fresh
    by_test false = refl
found-push f (x ∷ xs) q fresh m = by_test (has_number m x) (found-push f xs q fresh m)
  where
    by_test : (b : Bool) → f (queue_in (xs ++ q ∷ []) m) ≡ f (queue_in xs m) → f (if b then Some x else queue_in (xs ++ q ∷ []) m) ≡ f (if b then Some x else queue_in xs m)
    by_test true rest = refl
    by_test false rest = rest

-- a queue with a number above all others lies behind them
pub ascend-push : (below most : ℕ) (queues : List Queue) (q : Queue) → below ≤ most → All (λ x. x.number.0 ≤ most) queues → most < q.number.0 → AscendFrom below queues → AscendFrom below (queues ++ q ∷ [])
ascend-push below most [] q less all above ascending = (omega (arith, less, above), tt)
ascend-push below most (x ∷ xs) q less all above ascending =
    (ascending.0, ascend-push x.number.0 most xs q (All-head (λ x. x.number.0 ≤ most) x xs all) (All-tail (λ x. x.number.0 ≤ most) x xs all) above ascending.1)

pub few_after : (queues : List Queue) (q : Queue) → length queues < QUEUES → length (queues ++ q ∷ []) ≤ QUEUES
few_after queues q few = omega (arith, length-append queues (q ∷ []))

-- as many queues are cached as are open
pub openings-count : (a : Inside) → IsCached a → length (openings (start_of a) a.audit.items).queues < QUEUES → length a.queues.items < QUEUES
openings-count a kept few = rw (← kept.openings, length-map) at few

-- the opening of a queue is that of the one that is kept
pub opening-kept : (queues : List Queue) (queue : QueueId) → opening_in (map cached_queue queues) queue ≡ option_map cached_opening (queue_in queues queue)
opening-kept [] queue = refl
opening-kept (x ∷ xs) queue = by_test (has_number queue x) (opening-kept xs queue)
  where
    by_test : (b : Bool) → opening_in (map cached_queue xs) queue ≡ option_map cached_opening (queue_in xs queue)
        → option_map (λ (q : OpenQueue). q.opening) (if b then Some (cached_queue x) else find (λ q. q.queue.0 == queue.0) (map cached_queue xs)) ≡ option_map cached_opening (if b then Some x else queue_in xs queue)
    by_test true rest = refl
    by_test false rest = rest

-- ---- how many were ever opened

opened-after : (all : Openings) (event : Event) → (openings_after all event).opened ≤ all.opened + 1
opened-after all event = grind arith

opened-along : (all : Openings) (es : List Entry) → (fold (λ before (entry : Entry). openings_after before entry.event) all es).opened ≤ all.opened + length es
opened-along all [] = omega arith
opened-along all (e ∷ es) = omega (arith, opened-after all e.event, opened-along (openings_after all e.event) es)

pub opened-le : (start : Start) (es : List Entry) → (openings start es).opened ≤ start.openings.opened + length es
unfolding openings
opened-le start es = opened-along start.openings es

pub opened-before : (start : Start) (es : List Entry) → IsLegal start es → start.openings.opened ≤ start.before
opened-before start es legal =
    subst (λ (now : Start). now.openings.opened ≤ now.before) (sym legal.start_is) (opened-le (opening_state legal.first start.kernels) legal.prior)

-- so there is a next number
pub opened-few : (a : Inside) → IsCached a → a.opened + 1 < 2 ^ 64
opened-few a kept =
    let count : a.opened ≡ (openings (start_of a) a.audit.items).opened = ap (λ (all : Openings). all.opened) kept.openings in
    omega (arith, count, opened-le (start_of a) a.audit.items, opened-before (start_of a) a.audit.items kept.legal, kept.before, kept.room, kept.few)

-- a queue that is opened has it
pub opens-next : (a : Inside) → IsCached a → (client : ClientId) (agent : AgentHandle) (size : ℕ) (queue : QueueId) → owed (start_of a) a.audit.items (Open client agent size) ≡ enters (outcome.Opened queue) [] → queue.0 ≡ a.opened + 1
opens-next a kept client agent size queue is =
    let told : outcome.Opened queue ≡ outcome.Opened (record { 0 = (openings (start_of a) a.audit.items).opened + 1 }) = (open-effects (start_of a) a.audit.items (outcome.Opened queue) [] client agent size is).outcome_is in
    let number : queue.0 ≡ (openings (start_of a) a.audit.items).opened + 1 = cc in
    number ∙ ap (λ (all : Openings). all.opened + 1) (sym kept.openings)
