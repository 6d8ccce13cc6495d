-- Closes of queues: what is owed by what is kept, and how what is kept moves along.
use Rattle.core_model.specs.History.{beginning}
use Rattle.std.proofs.Common.{◌≡◌, ℕ, zero, suc, ◌+◌, ◌-◌, ◌*◌, ◌<◌, ◌≤◌, ◌==◌, ◌&&◌, ◌||◌, Bool, true, false, not, List, [], ◌∷◌, ◌++◌, length, length-append, map, filter, find, fold, All, refl, sym, ◌∙◌, ap, subst, option_map, Option, Some, None, ℤ, arith, slice_get, if◌then◌else◌}
use Rattle.std.specs.List.{Contains, remove}
use Rattle.std.proofs.lemmas.Bool.{eq-eqb, eqb-true}
use Rattle.core_model.proofs.Apart.{found-legal}
use Rattle.core_model.specs.Holds.{arguments}
use Rattle.core_model.specs.Owed.{owed}
use Rattle.core_model.specs.Queues.{OpenQueue, openings}
use Rattle.core_model.specs.Policies.{rows_after}
use Rattle.core_model.specs.declared.entry.Effect.TheVariants as effect
use Rattle.core_model.specs.declared.outcome.Outcome.TheVariants as outcome
use Rattle.core_model.specs.declared.refusal.Refusal.TheVariants as refusal
use Rattle.grants.specs.Pairs.{is_named}
use Rattle.access_core.proofs.Terms.{All-filter, All-head, All-tail, All-weaker, AreLaid, ArgumentBlock, AscendFrom, Call, ClientId, Close, Effect, Entry, Event, History, InFlight, Inside, IsCached, IsSound, LAUNCH_PROGRESS, Object, Openings, Outcome, PacketId, Place, Progress, Queue, QueueId, QueueView}
use Rattle.access_core.proofs.Terms.{Right, arguments-more, block_behind, block_of, byte_after, cached_opening, cached_openings, cached_queue, cached_view, due, enters, entry_of, error_places, flight, flight_after_effect, flight_of, flying_in, found-passes, has_number, held, held-more, history_of}
use Rattle.access_core.proofs.Terms.{in_flight, is_block, is_full, is_given, is_packet, lacks_room, length-map, list_any, map-append, name_of, owner, packet_of, place_of, places_in, progress, queue_at, queue_in, refuses, release_from, releases, releases_in, releases_of, same_packet, signals_after, start_of, with_entry, without_blocks, without_queue}
use Rattle.access_core.proofs.Calls.{due-by}
use Rattle.access_core.proofs.CachedMore.{GrantsAfter, QueuesAfter, none-launched}
use Rattle.access_core.proofs.HeldAfter.{map-left, rows-still}
use Rattle.access_core.proofs.Laid.{laid-closed}
use Rattle.access_core.proofs.NamedOnce.{none-named}
use Rattle.access_core.proofs.Numbered.{ascend-lower, found-at, none-above}
use Rattle.access_core.proofs.QueueAt.{after, flight-unlaunched, further, map-map, of_queue, queue_at-more}
use Rattle.access_core.proofs.Rooms.{roomy}
use Rattle.core_model.proofs.Room.{close-finds}
use Rattle.access_core.proofs.Rotated.{none-behind}
use Rattle.access_core.proofs.TakeLemmas.{IsOpen, is-open, owner-kept}
use Rattle.access_core.proofs.WorkLemmas.{filter-not_more}

-- ---- the list without a queue

abbrev others : QueueId → InFlight → Bool
others queue f = not (of_queue queue.0 f)

without-none : (queue : QueueId) (qs : List Queue) → queue_in qs queue ≡ None → without_queue queue qs ≡ qs
without-none queue [] none = refl
without-none queue (x ∷ xs) none = by_test (has_number queue x) refl none (without-none queue xs)
  where
    by_test : (b : Bool) → has_number queue x ≡ b → (if b then Some x else queue_in xs queue) ≡ None → (queue_in xs queue ≡ None → without_queue queue xs ≡ xs) → without_queue queue (x ∷ xs) ≡ x ∷ xs
    by_test true is none rest = absurd cc
    by_test false is none rest = rw is (ap (λ ys. x ∷ ys) (rest none))

head-number : (queue : QueueId) (x : Queue) → has_number queue x ≡ true → queue.0 ≤ x.number.0
head-number queue x is = grind arith

-- the queue lies between others, which are left
pub record IsParted (queue : QueueId) (qs : List Queue) (q : Queue) : Type 0 where
  pub before : List Queue
  pub behind : List Queue
  pub whole : qs ≡ before ++ q ∷ behind
  pub left : without_queue queue qs ≡ before ++ behind

pub parted : (below : ℕ) (queue : QueueId) (qs : List Queue) (q : Queue) → AscendFrom below qs → queue_in qs queue ≡ Some q → IsParted queue qs q
parted below queue [] q ascending found = absurd cc
parted below queue (x ∷ xs) q ascending found = by_test (has_number queue x) refl found (parted x.number.0 queue xs q ascending.1)
  where
    by_test : (b : Bool) → has_number queue x ≡ b → (if b then Some x else queue_in xs queue) ≡ Some q → (queue_in xs queue ≡ Some q → IsParted queue xs q) → IsParted queue (x ∷ xs) q
    by_test true is found rest =
        let same : x ≡ q = cc in
        record {
          before = [];
          behind = xs;
          whole = ap (λ y. y ∷ xs) same;
          left = rw is (without-none queue xs (none-above xs queue x.number.0 ascending.1 (head-number queue x is)));
        }
    by_test false is found rest =
        let more = rest found in
        record { before = x ∷ more.before; behind = more.behind; whole = ap (λ ys. x ∷ ys) more.whole; left = rw is (ap (λ ys. x ∷ ys) more.left) }

-- which has its number there
numbered-between : (before behind : List Queue) (q : Queue)
    → option_map (λ (o : OpenQueue). o.queue) (slice_get (map cached_queue (before ++ q ∷ behind)) (length (map error_places before))) ≡ Some q.number
numbered-between [] behind q = refl
numbered-between (x ∷ xs) behind q = numbered-between xs behind q

-- the queue that is taken out of its place is the one of its number
pub taken-out : (below : ℕ) (queue : QueueId) (qs : List Queue) (i : ℕ) (q : Queue) → AscendFrom below qs → slice_get qs i ≡ Some q → has_number queue q ≡ true → remove qs i ≡ without_queue queue qs
taken-out below queue [] i q ascending at is = absurd cc
taken-out below queue (x ∷ xs) zero q ascending at is =
    let same : x ≡ q = cc in
    let here : has_number queue x ≡ true = ap (has_number queue) same ∙ is in
    rw here (sym (without-none queue xs (none-above xs queue x.number.0 ascending.1 (head-number queue x here))))
taken-out below queue (x ∷ xs) (suc i) q ascending at is =
    let found = found-at x.number.0 xs queue i q ascending.1 at is in
    let other : has_number queue x ≡ false = not-first (has_number queue x) refl found in
    rw other (ap (λ ys. x ∷ ys) (taken-out x.number.0 queue xs i q ascending.1 at is))
  where
    not-first : (b : Bool) → has_number queue x ≡ b → queue_in xs queue ≡ Some q → has_number queue x ≡ false
    not-first false named found = named
    not-first true named found = let none = none-above xs queue x.number.0 ascending.1 (head-number queue x named) in absurd cc

-- its packets in flight, and how many they are
places-at : (qs : List Queue) (queue : QueueId) (q : Queue) → queue_in qs queue ≡ Some q → places_in qs queue ≡ q.places
places-at qs queue q found = ap (λ (o : Option Queue). elim o [ None ↦ [] | Some one ↦ one.places ]) found

pub flying-at : (qs : List Queue) (queue : QueueId) (q : Queue) → queue_in qs queue ≡ Some q → flying_in qs queue ≡ length q.places
flying-at qs queue q found = ap length (places-at qs queue q found)

ascend-without : (below : ℕ) (queue : QueueId) (qs : List Queue) → AscendFrom below qs → AscendFrom below (without_queue queue qs)
ascend-without below queue [] ascending = tt
ascend-without below queue (x ∷ xs) ascending = by_test (has_number queue x) (ascend-without x.number.0 queue xs ascending.1)
  where
    by_test : (b : Bool) → AscendFrom x.number.0 (without_queue queue xs) → AscendFrom below (if not b then x ∷ without_queue queue xs else without_queue queue xs)
    by_test true rest = ascend-lower below x.number.0 (without_queue queue xs) (omega (arith, ascending.0)) rest
    by_test false rest = (ascending.0, rest)

found-without : (queue : QueueId) (qs : List Queue) (m : QueueId) → queue_in (without_queue queue qs) m ≡ (if queue.0 == m.0 then None else queue_in qs m)
found-without queue [] m = either (queue.0 == m.0) None
  where
    either : (b : Bool) (o : Option Queue) → o ≡ (if b then o else o)
    either true o = refl
    either false o = refl
found-without queue (x ∷ xs) m = grind (arith, found-without queue xs m)

-- ---- the releases of a queue's packets

-- they release just those
releases-any : (queue q : QueueId) (i : PacketId) (gs : List InFlight) → list_any (releases q i) (releases_of queue gs) ≡ (q.0 == queue.0 && list_any (λ (g : InFlight). g.id.0 == i.0) gs)
releases-any queue q i [] = grind arith
releases-any queue q i (g ∷ gs) = grind (arith, releases-any queue q i gs)

named-any : (queue : QueueId) (i : PacketId) (fs : List InFlight) → list_any (λ (g : InFlight). g.id.0 == i.0) (filter (of_queue queue.0) fs) ≡ list_any (is_packet queue i) fs
named-any queue i [] = refl
named-any queue i (f ∷ fs) = grind (arith, named-any queue i fs)

pub drops-closed : (queue q : QueueId) (i : PacketId) (fs : List InFlight) → list_any (releases q i) (releases_of queue (filter (of_queue queue.0) fs)) ≡ (q.0 == queue.0 && list_any (is_packet queue i) fs)
drops-closed queue q i fs = releases-any queue q i (filter (of_queue queue.0) fs) ∙ ap (λ b. q.0 == queue.0 && b) (named-any queue i fs)

filter-both : {X : Type 0} (p q : X → Bool) (xs : List X) → filter p (filter q xs) ≡ filter (λ x. q x && p x) xs
filter-both p q [] = refl
filter-both p q (x ∷ xs) = grind (arith, filter-both p q xs)

filter-alike : {X : Type 0} (p q : X → Bool) (xs : List X) → All (λ x. p x ≡ q x) xs → filter p xs ≡ filter q xs
filter-alike p q [] alike = refl
filter-alike p q (x ∷ xs) alike = (λ i. if All-head (λ x. p x ≡ q x) x xs alike i then x ∷ filter p xs else filter p xs) ∙ ap (λ ys. if q x then x ∷ ys else ys) (filter-alike p q xs (All-tail (λ x. p x ≡ q x) x xs alike))

-- those that none of them releases are left
left-by : (queue : QueueId) (gs fs : List InFlight) → fold flight_after_effect fs (releases_of queue gs) ≡ filter (λ f. not (list_any (releases f.queue f.id) (releases_of queue gs))) fs
left-by queue [] fs = sym (filter-all fs)
  where
    filter-all : (fs : List InFlight) → filter (λ (f : InFlight). true) fs ≡ fs
    filter-all [] = refl
    filter-all (f ∷ fs) = ap (λ xs. f ∷ xs) (filter-all fs)
left-by queue (g ∷ gs) fs =
    left-by queue gs (filter (λ f. not (is_packet queue g.id f)) fs)
    ∙ filter-both (λ f. not (list_any (releases f.queue f.id) (releases_of queue gs))) (λ f. not (is_packet queue g.id f)) fs
    ∙ ap (λ (test : InFlight → Bool). filter test fs) (λ i f. neither (is_packet queue g.id f) (list_any (releases f.queue f.id) (releases_of queue gs)) i)
  where
    neither : (a b : Bool) → (not a && not b) ≡ not (a || b)
    neither true b = refl
    neither false b = refl

any-found : {X : Type 0} (test : X → Bool) (xs : List X) (x : X) → find test xs ≡ Some x → list_any test xs ≡ true
any-found test [] x found = absurd cc
any-found test (y ∷ ys) x found = grind (arith, any-found test ys x)

module _ (a : Inside) (kept : IsCached a) (queue : QueueId) where
  abbrev Flying : List InFlight
  Flying = flight (start_of a) a.audit.items

  abbrev Told : List Effect
  Told = releases_of queue (flight_of (start_of a) a.audit.items queue)

  -- a packet in flight is released where it is one of the queue
  released : (f : InFlight) → in_flight (start_of a) a.audit.items f.queue f.id ≡ Some f → not (list_any (releases f.queue f.id) Told) ≡ others queue f
  released f found =
      ap not (drops-closed queue f.queue f.id Flying) ∙ by_queue (f.queue.0 == queue.0) refl
    where
      by_queue : (b : Bool) → (f.queue.0 == queue.0) ≡ b → not (b && list_any (is_packet queue f.id) Flying) ≡ not b
      by_queue false is = refl
      by_queue true is =
          let same : f.queue ≡ queue = ap (λ n. record { 0 = n }) (eqb-true _ _ is) in
          ap not ((λ i. list_any (is_packet (sym same i) f.id) Flying) ∙ any-found (is_packet f.queue f.id) Flying f found)

  pub left-closed : fold flight_after_effect Flying Told ≡ filter (others queue) Flying
  left-closed =
      left-by queue (flight_of (start_of a) a.audit.items queue) Flying
      ∙ filter-alike (λ f. not (list_any (releases f.queue f.id) Told)) (others queue) Flying
      (All-weaker (λ (f : InFlight). in_flight (start_of a) a.audit.items f.queue f.id ≡ Some f) (λ (f : InFlight). not (list_any (releases f.queue f.id) Told) ≡ others queue f) released Flying
      (found-legal (start_of a) a.audit.items kept.legal))

  pub flight-closed : flight (start_of a) (with_entry a.audit.items (Call (Close queue)) outcome.Accepted Told) ≡ filter (others queue) Flying
  flight-closed = flight-unlaunched (start_of a) a.audit.items (Call (Close queue)) outcome.Accepted Told refl ∙ left-closed

  -- ---- what the history says of a queue behind the close

  none-of : (fs : List InFlight) (m : QueueId) → (queue.0 == m.0) ≡ true → filter (of_queue m.0) (filter (others queue) fs) ≡ []
  none-of [] m is = refl
  none-of (f ∷ fs) m is = let same : queue.0 ≡ m.0 = eqb-true _ _ is in grind (arith, none-of fs m is)

  same-of : (fs : List InFlight) (m : QueueId) → (queue.0 == m.0) ≡ false → filter (of_queue m.0) (filter (others queue) fs) ≡ filter (of_queue m.0) fs
  same-of [] m is = refl
  same-of (f ∷ fs) m is = grind (arith, same-of fs m is)

  abbrev Entered : Entry
  Entered = entry_of (Call (Close queue)) outcome.Accepted Told

  pub queue_at-closed : (m : QueueId) → queue_at (start_of a) (with_entry a.audit.items (Call (Close queue)) outcome.Accepted Told) m
      ≡ (if queue.0 == m.0 then cached_view None else queue_at (start_of a) a.audit.items m)
  queue_at-closed m =
      queue_at-more (start_of a) a.audit.items (Call (Close queue)) outcome.Accepted Told m (filter (others queue) Flying) flight-closed
      ∙ by_queue (queue.0 == m.0) refl
    where
      comes : (fs : List InFlight) → (queue.0 == m.0) ≡ false → map (λ f. further m Entered (place_of (start_of a) a.audit.items m f)) fs ≡ map (place_of (start_of a) a.audit.items m) fs
      comes [] is = refl
      comes (f ∷ fs) is =
          let other : (m.0 == queue.0) ≡ false = grind arith in
          let stays : list_any (releases m f.id) Told ≡ false = drops-closed queue m f.id Flying ∙ ap (λ b. b && list_any (is_packet queue f.id) Flying) other in
          (λ i. record { id = f.id; packet = f.packet; progress = (if stays i then LAUNCH_PROGRESS else progress (start_of a) a.audit.items m f.id) } ∷ comes fs is i)

      by_queue : (b : Bool) → (queue.0 == m.0) ≡ b
          → after m (Call (Close queue)) outcome.Accepted (queue_at (start_of a) a.audit.items m) (map (λ f. further m Entered (place_of (start_of a) a.audit.items m f)) (filter (of_queue m.0) (filter (others queue) Flying)))
          ≡ (if b then cached_view None else queue_at (start_of a) a.audit.items m)
      by_queue true is = rw (none-of Flying m is, is) refl
      by_queue false is = rw (same-of Flying m is, comes (filter (of_queue m.0) Flying) is, is) refl

  -- ---- the rights and arguments of its packets

  -- of the blocks that are left none is of a packet of the queue
  any-left : (test : ArgumentBlock → Bool) (q : QueueId) (id : PacketId) (bs : List ArgumentBlock)
      → list_any (λ b. is_block q id b && test b) (without_blocks queue bs) ≡ (list_any (λ b. is_block q id b && test b) bs && not (q.0 == queue.0))
  any-left test q id [] = refl
  any-left test q id (b ∷ bs) = grind (arith, any-left test q id bs)

  any-block : (test : ArgumentBlock → Bool) (q : QueueId) (id : PacketId) (bs : List ArgumentBlock) → list_any (λ b. is_block q id b && test b) bs ≡ true → list_any (is_block q id) bs ≡ true
  any-block test q id [] is = absurd cc
  any-block test q id (b ∷ bs) is = grind (arith, any-block test q id bs)

  block-left : (q : QueueId) (id : PacketId) (found : List ℕ) (bs : List ArgumentBlock) → fold (block_behind q id) found (without_blocks queue bs) ≡ (if q.0 == queue.0 then found else fold (block_behind q id) found bs)
  block-left q id found [] = none (q.0 == queue.0)
    where
      none : (b : Bool) → found ≡ (if b then found else found)
      none b = grind arith
  block-left q id found (b ∷ bs) = grind (arith, block-left q id (block_behind q id found b) bs, block-left q id found bs)

  abbrev Now : List Entry
  Now = with_entry a.audit.items (Call (Close queue)) outcome.Accepted Told

  held-closed : (q : QueueId) (id : PacketId) (client : ClientId) (on : Object) (right : Right) → is_given (without_blocks queue kept.blocks) q id client on right ≡ held (start_of a) Now q id client on right
  held-closed q id client on right =
      any-left (λ b. is_named b.rights b.client client on right) q id kept.blocks
      ∙ by_queue (q.0 == queue.0) refl (held (start_of a) a.audit.items q id client on right) (kept.held q id client on right)
      ∙ sym (held-more (start_of a) a.audit.items (entry_of (Call (Close queue)) outcome.Accepted Told) q id client on right ∙ (rw (drops-closed queue q id Flying) refl))
    where
      by_queue : (b : Bool) → (q.0 == queue.0) ≡ b → (h : Bool) → is_given kept.blocks q id client on right ≡ h
          → (is_given kept.blocks q id client on right && not (q.0 == queue.0)) ≡ ((h || false) && not (q.0 == queue.0 && list_any (is_packet queue id) Flying))
      by_queue false is h given = rw (is, given) (plain h)
        where
          plain : (b : Bool) → (b && true) ≡ ((b || false) && true)
          plain b = grind arith
      by_queue true is false given = rw (is, given) refl
      by_queue true is true given =
          let same : queue ≡ q = ap (λ n. record { 0 = n }) (sym (eqb-true _ _ is)) in
          let named : list_any (is_packet queue id) Flying ≡ true =
          (λ i. list_any (is_packet (same i) id) Flying) ∙ none-named q id Flying kept.blocks kept.blocks_are ∙ any-block (λ b. is_named b.rights b.client client on right) q id kept.blocks given in
          rw (is, given, named) refl

  arguments-closed : (q : QueueId) (id : PacketId) → block_of (without_blocks queue kept.blocks) q id ≡ arguments (start_of a) Now q id
  arguments-closed q id =
      block-left q id [] kept.blocks
      ∙ by_queue (q.0 == queue.0) refl (list_any (is_packet queue id) Flying) refl
      ∙ sym (arguments-more (start_of a) a.audit.items (entry_of (Call (Close queue)) outcome.Accepted Told) q id ∙ (rw (drops-closed queue q id Flying) refl))
    where
      by_queue : (b : Bool) → (q.0 == queue.0) ≡ b → (n : Bool) → list_any (is_packet queue id) Flying ≡ n
          → (if b then [] else block_of kept.blocks q id) ≡ (if b && n then [] else arguments (start_of a) a.audit.items q id)
      by_queue false is n named = kept.arguments q id
      by_queue true is true named = refl
      by_queue true is false named =
          let same : q ≡ queue = ap (λ n. record { 0 = n }) (eqb-true _ _ is) in
          sym (none-behind a kept q id Flying kept.blocks [] kept.blocks_are ((λ i. list_any (is_packet (same i) id) Flying) ∙ named)) ∙ kept.arguments q id

  pub grants-closed : GrantsAfter a a.grants (without_blocks queue kept.blocks) (Call (Close queue)) outcome.Accepted Told
  grants-closed = record {
    granted = λ client on right. refl;
    rules = refl;
    held = held-closed;
    unheld = kept.unheld;
    blocks_are = rw flight-closed (map-left packet_of stays kept.blocks ∙ ap (filter stays) kept.blocks_are ∙ sym (map-left name_of stays Flying));
    arguments = arguments-closed;
  }
    where
      stays : QueueId × PacketId → Bool
      stays named = not (named.0.0 == queue.0)

  -- and where the blocks lie that are left
  pub closed-laid : AreLaid (without_queue queue a.queues.items) (a.start.before + length a.audit.items + 1) (without_blocks queue kept.blocks)
  closed-laid = laid-closed a.queues.items (a.start.before + length a.audit.items) kept.blocks kept.laid queue (found-without queue a.queues.items)

  -- a release changes neither memory nor signals
  pub memory-closed : (x byte : ℕ) (gs : List InFlight) → fold (byte_after x) byte (releases_of queue gs) ≡ byte
  memory-closed x byte [] = refl
  memory-closed x byte (g ∷ gs) = memory-closed x byte gs

  pub values-closed : (values : List ℤ) (gs : List InFlight) → fold signals_after values (releases_of queue gs) ≡ values
  values-closed values [] = refl
  values-closed values (g ∷ gs) = values-closed values gs

  -- ---- a queue that is open

  module _ (at : IsOpen a queue) where
    -- its places are those of its packets in flight
    places-are : places_in a.queues.items queue ≡ map (place_of (start_of a) a.audit.items queue) (flight_of (start_of a) a.audit.items queue)
    places-are = places-at a.queues.items queue at.q at.found ∙ ap (λ (v : QueueView). v.places) at.view

    pub told-closed : releases_in a.queues.items queue ≡ Told
    told-closed = ap (map (release_from queue)) places-are ∙ map-map (release_from queue) (place_of (start_of a) a.audit.items queue) (flight_of (start_of a) a.audit.items queue)

    flying-is : flying_in a.queues.items queue ≡ length (filter (of_queue queue.0) Flying)
    flying-is = ap length places-are ∙ length-map (flight_of (start_of a) a.audit.items queue) (place_of (start_of a) a.audit.items queue)

    parts : (fs : List InFlight) → length (filter (of_queue queue.0) fs) + length (filter (others queue) fs) ≡ length fs
    parts [] = refl
    parts (f ∷ fs) = grind (arith, parts fs)

    pub flying-below : flying_in a.queues.items queue ≤ a.in_flight_count
    flying-below = omega (arith, flying-is, parts Flying, kept.in_flight_count)

    pub queues-closed : QueuesAfter a (without_queue queue a.queues.items) a.opened (a.in_flight_count - flying_in a.queues.items queue) (Call (Close queue)) outcome.Accepted Told
    queues-closed = record {
      openings = ap (λ queues. record { opened = a.opened; queues = queues }) (map-left cached_queue (λ o. not (o.queue.0 == queue.0)) a.queues.items);
      queues = λ m. ap cached_view (found-without queue a.queues.items m) ∙ by_queue m (queue.0 == m.0) ∙ sym (queue_at-closed m);
      ascending = ascend-without 0 queue a.queues.items kept.ascending;
      up_to = All-filter (λ q. not (has_number queue q)) (λ (q : Queue). q.number.0 ≤ a.opened) a.queues.items kept.up_to;
      sound = All-filter (λ q. not (has_number queue q)) IsSound a.queues.items kept.sound;
      few_queues = omega (arith, filter-not_more (λ q. not (has_number queue q)) a.queues.items, kept.few_queues);
      in_flight_count = omega (arith, flying-is, parts Flying, kept.in_flight_count) ∙ ap length (sym flight-closed);
      within = none-launched (Call (Close queue)) outcome.Accepted refl (start_of a);
    }
      where
        by_queue : (m : QueueId) (b : Bool) → cached_view (if b then None else queue_in a.queues.items m) ≡ (if b then cached_view None else queue_at (start_of a) a.audit.items m)
        by_queue m true = refl
        by_queue m false = kept.queues m

    -- its errors' places go
    pub errors-closed : (before : List ℕ) × (lost : ℕ) × (behind : List ℕ) × (map error_places a.queues.items ≡ before ++ lost ∷ behind) × (map error_places (without_queue queue a.queues.items) ≡ before ++ behind)
        × (option_map (λ (q : OpenQueue). q.queue) (slice_get (openings (start_of a) a.audit.items).queues (length before)) ≡ Some queue)
    errors-closed =
        let apart = parted 0 queue a.queues.items at.q kept.ascending at.found in (
          map error_places apart.before,
          error_places at.q,
          map error_places apart.behind,
          ap (map error_places) apart.whole ∙ map-append error_places apart.before (at.q ∷ apart.behind),
          ap (map error_places) apart.left ∙ map-append error_places apart.before apart.behind,
          ap (λ (all : Openings). option_map (λ (q : OpenQueue). q.queue) (slice_get all.queues (length (map error_places apart.before)))) (sym kept.openings)
              ∙ ap (λ (qs : List Queue). option_map (λ (q : OpenQueue). q.queue) (slice_get (map cached_queue qs) (length (map error_places apart.before)))) apart.whole
              ∙ numbered-between apart.before apart.behind at.q
              ∙ ap (λ n. Some (record { 0 = n })) (eqb-true _ _ (found-passes (has_number queue) a.queues.items at.q at.found)),
        )

  -- ---- what is owed

  -- no open queue has the number
  pub close-unknown : queue_in a.queues.items queue ≡ None → owed (start_of a) a.audit.items (Call (Close queue)) ≡ refuses refusal.UnknownQueue
  unfolding owed
  close-unknown none = rw (owner-kept a queue kept, none) refl

  -- one has it
  pub close-known : (q : Queue) → queue_in a.queues.items queue ≡ Some q → owed (start_of a) a.audit.items (Call (Close queue)) ≡ enters outcome.Accepted Told
  unfolding owed
  close-known q some = rw (owner-kept a queue kept, some) refl

  pub close-at : (q : Queue) → queue_in a.queues.items queue ≡ Some q → IsOpen a queue
  close-at q some = is-open a kept queue (cached_opening q) (owner-kept a queue kept ∙ ap (option_map cached_opening) some)

  -- a queue whose close is entered is open
  pub close-open : (told : Outcome) (effects : List Effect) → owed (start_of a) a.audit.items (Call (Close queue)) ≡ enters told effects → IsOpen a queue
  close-open told effects owing = by_found (queue_in a.queues.items queue) refl
    where
      by_found : (o : Option Queue) → queue_in a.queues.items queue ≡ o → IsOpen a queue
      by_found None none = let lost : refuses refusal.UnknownQueue ≡ enters told effects = sym (close-unknown none) ∙ owing in absurd cc
      by_found (Some q) some = close-at q some

  module _ (q : Queue) (some : queue_in a.queues.items queue ≡ Some q) where
    counted : length q.places ≡ length (flight_of (start_of a) a.audit.items queue)
    counted =
        let view : cached_view (Some q) ≡ queue_at (start_of a) a.audit.items queue = ap cached_view (sym some) ∙ kept.queues queue in
        ap (λ (v : QueueView). length v.places) view ∙ length-map (flight_of (start_of a) a.audit.items queue) (place_of (start_of a) a.audit.items queue)

    none-flies : (length q.places == 0) ≡ true → flight_of (start_of a) a.audit.items queue ≡ []
    none-flies none = by_list (flight_of (start_of a) a.audit.items queue) refl
      where
        by_list : (fs : List InFlight) → flight_of (start_of a) a.audit.items queue ≡ fs → flight_of (start_of a) a.audit.items queue ≡ []
        by_list [] is = is
        by_list (f ∷ fs) is = let long = ap length is in let empty = eqb-true _ _ none in absurd (omega (arith, long, empty, counted))

    room-as_full : (length q.places == 0) ≡ true → lacks_room (history_of a) (entry_of (Call (Close queue)) outcome.Accepted Told) ≡ is_full (history_of a)
    room-as_full none = ap (λ fs. lacks_room (history_of a) (entry_of (Call (Close queue)) outcome.Accepted (releases_of queue fs))) (none-flies none)

    -- a close is due its entry where a packet of the queue is in flight, or the audit has room
    pub may-close : (empty : Bool) → (length q.places == 0) ≡ empty → (empty ≡ true → is_full (history_of a) ≡ false) → due (history_of a) (Call (Close queue)) ≡ enters outcome.Accepted Told
    may-close true none room =
        due-by a (history_of a) refl (Call (Close queue)) (enters outcome.Accepted Told) (close-known q some) ∙ (rw (room-as_full none ∙ room refl) refl)
    may-close false none room = by_list (flight_of (start_of a) a.audit.items queue) refl
      where
        by_list : (fs : List InFlight) → flight_of (start_of a) a.audit.items queue ≡ fs → due (history_of a) (Call (Close queue)) ≡ enters outcome.Accepted Told
        by_list [] is = let long : length q.places ≡ 0 = counted ∙ ap length is in let lost : true ≡ false = sym (eq-eqb _ _ long) ∙ none in absurd cc
        by_list (f ∷ fs) is =
            close-finds (history_of a) (roomy a kept) queue f (subst (λ (all : List InFlight). Contains all f) (sym is) (0, omega arith, refl))
            ∙ close-known q some

    -- and is refused else
    pub close-full : (length q.places == 0) ≡ true → is_full (history_of a) ≡ true → due (history_of a) (Call (Close queue)) ≡ refuses refusal.AuditFull
    close-full none full = due-by a (history_of a) refl (Call (Close queue)) (enters outcome.Accepted Told) (close-known q some) ∙ (rw (room-as_full none ∙ full) refl)

    pub none-there : (length q.places == 0) ≡ true → (f : InFlight) → Contains (flight_of (start_of a) a.audit.items queue) f → ⊥
    none-there none f there = let long : length (flight_of (start_of a) a.audit.items queue) ≡ 0 = ap length (none-flies none) in let below = there.1 in omega (arith, long, below)
