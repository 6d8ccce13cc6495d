-- What the history says of a queue, with one entry more.
use Rattle.std.proofs.Common.{◌≡◌, ℕ, ◌+◌, ◌<◌, subst, eq-eqb, eqb-true, List, [], ◌∷◌, ◌++◌, length, map, All, refl, sym, ◌∙◌, ap, Bool, true, false, Some}
use Rattle.std.proofs.Common.{None, arith, ◌==◌, ◌&&◌, filter, fold, not, if◌then◌else◌}
use Rattle.access_core.proofs.Terms.{All-head, All-tail, Denied, Effect, Entry, Event, InFlight, LAUNCH_PROGRESS, Launched, Outcome, Packet, PacketId, Place, Progress, QueueError}
use Rattle.access_core.proofs.Terms.{QueueId}
use Rattle.access_core.proofs.Terms.{QueueView, Rule, Start, Take, append-nil, as_launched, decoded, entry_of, error_of, error_without_place, errors-more, filter-append, flight}
use Rattle.access_core.proofs.Terms.{flight-more}
use Rattle.access_core.proofs.Terms.{flight_after_effect, flight_of, closes_queue, next_id_after, is_stopped_after, is_packet, is_stopped-more, launched_by, list_any, map-append, next_id, next_id-more, place_of, progress}
use Rattle.access_core.proofs.Terms.{progress-more, progress_after, progress_by, queue_at, releases, same_packet, with_entry, with_error, with_progress, without_packet}
use Rattle.core_model.specs.Flight.{with_launched}
use Rattle.core_model.specs.declared.outcome.Outcome.TheVariants as outcome

-- ---- lists of packets

abbrev pub of_queue : ℕ → InFlight → Bool
of_queue n f = f.queue.0 == n

pub map-map : {X Y Z : Type 0} (g : Y → Z) (h : X → Y) (xs : List X) → map g (map h xs) ≡ map (λ x. g (h x)) xs
map-map g h [] = refl
map-map g h (x ∷ xs) = ap (λ ys. g (h x) ∷ ys) (map-map g h xs)

module _ (i : ℕ) where
  -- whether a packet is not the one with a number in a queue
  abbrev pub stays : ℕ → InFlight → Bool
  stays n f = not (f.queue.0 == n && f.id.0 == i)

  -- of its queue, a release takes out the packets with its id, and of another nothing
  released-in : (g : InFlight → Place) (n m : ℕ) (fs : List InFlight) → ((f : InFlight) → (g f).id ≡ f.id) → map g (filter (of_queue m) (filter (stays n) fs))
      ≡ (if n == m then filter (λ p. not (p.id.0 == i)) (map g (filter (of_queue m) fs)) else map g (filter (of_queue m) fs))
  released-in g n m [] named = grind arith
  released-in g n m (f ∷ fs) named = grind (arith, released-in g n m fs named)

  pub released-of : (g : InFlight → Place) (n : ℕ) (fs : List InFlight) → ((f : InFlight) → (g f).id ≡ f.id)
      → map g (filter (of_queue n) (filter (stays n) fs)) ≡ filter (λ p. not (p.id.0 == i)) (map g (filter (of_queue n) fs))
  released-of g n [] named = refl
  released-of g n (f ∷ fs) named = grind (arith, released-of g n fs named)

  -- it takes out as many of all as of its queue
  pub released-count : (n : ℕ) (fs : List InFlight) → length (filter (of_queue n) fs) + length (filter (stays n) fs) ≡ length fs + length (filter (of_queue n) (filter (stays n) fs))
  released-count n [] = refl
  released-count n (f ∷ fs) = grind (arith, released-count n fs)

-- ---- one entry more

-- how a place's packet comes further by an event
abbrev pub further : QueueId → Entry → Place → Place
further m entry place = record place { progress = progress_after m place.id place.progress entry }

-- a queue after an event that leaves these places
abbrev pub after : QueueId → Event → Outcome → QueueView → List Place → QueueView
after m event told v places = record {
  next = next_id_after m v.next event;
  stopped = is_stopped_after m v.stopped event;
  errors = if closes_queue m event then [] else with_error m v.errors (error_of told);
  places = places;
}

module _ (start : Start) (es : List Entry) (event : Event) (told : Outcome) (effects : List Effect) where
  abbrev entry : Entry
  entry = entry_of event told effects

  pub flight-unlaunched : launched_by event told ≡ None → flight start (with_entry es event told effects) ≡ fold flight_after_effect (flight start es) effects
  flight-unlaunched none = flight-more start es entry ∙ ap (λ o. fold flight_after_effect (with_launched (flight start es) o) effects) none

  place-more : (m : QueueId) (f : InFlight) → place_of start (with_entry es event told effects) m f ≡ further m entry (place_of start es m f)
  place-more m f = λ i. record { id = f.id; packet = f.packet; progress = progress-more start es entry m f.id i }

  -- its places are those of the packets left in flight, each as far as it has come
  pub queue_at-more : (m : QueueId) (fs : List InFlight) → flight start (with_entry es event told effects) ≡ fs → queue_at start (with_entry es event told effects) m
      ≡ after m event told (queue_at start es m) (map (λ f. further m entry (place_of start es m f)) (filter (of_queue m.0) fs))
  queue_at-more m fs is = λ i. record {
    next = next_id-more start es entry m i;
    stopped = is_stopped-more start es entry m i;
    errors = errors-more start es entry m i;
    places = map (λ f. place-more m f i) (filter (of_queue m.0) (is i));
  }

-- An entry that changes nothing of any queue.
pub record IsQuiet (event : Event) (told : Outcome) (effects : List Effect) : Type 0 where
  pub launches : launched_by event told ≡ None
  pub progress : (queue : QueueId) (id : PacketId) (p : Progress) → progress_by queue id p event told ≡ p
  pub stays : (queue : QueueId) (id : PacketId) → list_any (releases queue id) effects ≡ false
  pub releases : (fs : List InFlight) → fold flight_after_effect fs effects ≡ fs
  pub views : (m : QueueId) (v : QueueView) → after m event told v v.places ≡ v

-- An entry by which one packet comes further.
pub record IsAdvance (q : QueueId) (id : PacketId) (g : Progress → Progress) (event : Event) (told : Outcome) (effects : List Effect) : Type 0 where
  pub launches : launched_by event told ≡ None
  pub progress : (queue : QueueId) (i : PacketId) (p : Progress) → progress_by queue i p event told ≡ (if same_packet q id queue i then g p else p)
  pub stays : (queue : QueueId) (i : PacketId) → list_any (releases queue i) effects ≡ false
  pub releases : (fs : List InFlight) → fold flight_after_effect fs effects ≡ fs
  pub views : (m : QueueId) (v : QueueView) (places : List Place) → after m event told v places ≡ record v { places = places }

-- An entry by which one packet leaves flight: it fails, or is completed, or its queue is stopped.
pub record IsRelease (q : QueueId) (id : PacketId) (event : Event) (told : Outcome) (effects : List Effect) : Type 0 where
  pub launches : launched_by event told ≡ None
  pub progress : (queue : QueueId) (i : PacketId) (p : Progress) → progress_by queue i p event told ≡ p
  pub drops : (queue : QueueId) (i : PacketId) → list_any (releases queue i) effects ≡ same_packet queue i q id
  pub releases : (fs : List InFlight) → fold flight_after_effect fs effects ≡ filter (λ f. not (is_packet q id f)) fs

-- what becomes of a queue whose packet is denied, is launched, or comes further
abbrev pub denied : QueueError → QueueView → QueueView
denied error v = record v { next = v.next + 1; errors = v.errors ++ error ∷ [] }

abbrev pub launched : PacketId → Packet → QueueView → QueueView
launched id p v = record v { next = v.next + 1; places = v.places ++ as_launched id p ∷ [] }

abbrev pub advanced : PacketId → Progress → QueueView → QueueView
advanced id so_far v = record v { places = map (with_progress id so_far) v.places }

module _ (start : Start) (es : List Entry) (event : Event) (told : Outcome) (effects : List Effect) where
  abbrev made : Entry
  made = entry_of event told effects

  still : ((queue : QueueId) (id : PacketId) (p : Progress) → progress_after queue id p made ≡ p) → (m : QueueId) (fs : List InFlight)
      → map (λ f. further m made (place_of start es m f)) fs ≡ map (place_of start es m) fs
  still same m fs = λ i. map (λ f. record { id = f.id; packet = f.packet; progress = same m f.id (progress start es m f.id) i }) fs

  pub flight-quiet : IsQuiet event told effects → flight start (with_entry es event told effects) ≡ flight start es
  flight-quiet quiet = flight-unlaunched start es event told effects quiet.launches ∙ quiet.releases (flight start es)

  pub queue_at-quiet : IsQuiet event told effects → (m : QueueId) → queue_at start (with_entry es event told effects) m ≡ queue_at start es m
  queue_at-quiet quiet m =
      queue_at-more start es event told effects m (flight start es) (flight-quiet quiet)
      ∙ ap (after m event told (queue_at start es m)) (still (λ queue id p. (rw (quiet.stays queue id) refl) ∙ quiet.progress queue id p) m (flight_of start es m)) ∙ quiet.views m (queue_at start es m)

  module _ (q : QueueId) (id : PacketId) (g : Progress → Progress) (is : IsAdvance q id g event told effects) where
    pub flight-advanced : flight start (with_entry es event told effects) ≡ flight start es
    flight-advanced = flight-unlaunched start es event told effects is.launches ∙ is.releases (flight start es)

    pub queue_at-advanced : (so_far : Progress) → so_far ≡ g (progress start es q id) → (m : QueueId)
        → queue_at start (with_entry es event told effects) m ≡ (if q.0 == m.0 then advanced id so_far (queue_at start es m) else queue_at start es m)
    queue_at-advanced so_far new m =
        queue_at-more start es event told effects m (flight start es) flight-advanced ∙ is.views m (queue_at start es m) _
        ∙ (λ i. record (queue_at start es m) { places = map (λ f. comes f i) (flight_of start es m) }) ∙ either (q.0 == m.0)
      where
        comes : (f : InFlight) → further m made (place_of start es m f)
            ≡ (if q.0 == m.0 then with_progress id so_far (place_of start es m f) else place_of start es m f)
        comes f = (λ i. record { id = f.id; packet = f.packet; progress = unreleased f i }) ∙ goes f
          where
            unreleased : (f : InFlight) → progress_after m f.id (progress start es m f.id) made ≡ progress_by m f.id (progress start es m f.id) event told
            unreleased f = rw (is.stays m f.id) refl

            goes : (f : InFlight) → record (place_of start es m f) { progress = progress_by m f.id (progress start es m f.id) event told }
                ≡ (if q.0 == m.0 then with_progress id so_far (place_of start es m f) else place_of start es m f)
            goes f = grind arith

        either : (b : Bool)
            → record (queue_at start es m) { places = map (λ f. if b then with_progress id so_far (place_of start es m f) else place_of start es m f) (flight_of start es m) }
            ≡ (if b then advanced id so_far (queue_at start es m) else queue_at start es m)
        either true = λ i. record (queue_at start es m) { places = sym (map-map (with_progress id so_far) (place_of start es m) (flight_of start es m)) i }
        either false = refl

  module _ (q : QueueId) (id : PacketId) (is : IsRelease q id event told effects) where
    pub flight-released : flight start (with_entry es event told effects) ≡ filter (λ f. not (is_packet q id f)) (flight start es)
    flight-released = flight-unlaunched start es event told effects is.launches ∙ is.releases (flight start es)

    -- the others are as far as they were
    others-still : (m : QueueId) (fs : List InFlight) → map (λ f. further m made (place_of start es m f)) (filter (of_queue m.0) (filter (λ f. not (is_packet q id f)) fs))
        ≡ map (place_of start es m) (filter (of_queue m.0) (filter (λ f. not (is_packet q id f)) fs))
    others-still m [] = refl
    others-still m (f ∷ fs) = by_tests (is_packet q id f) (of_queue m.0 f) refl refl (others-still m fs)
      where
        by_tests : (b c : Bool) → is_packet q id f ≡ b → of_queue m.0 f ≡ c
            → map (λ f. further m made (place_of start es m f)) (filter (of_queue m.0) (filter (λ f. not (is_packet q id f)) fs)) ≡ map (place_of start es m) (filter (of_queue m.0) (filter (λ f. not (is_packet q id f)) fs))
            → map (λ f. further m made (place_of start es m f)) (filter (of_queue m.0) (if not b then f ∷ filter (λ f. not (is_packet q id f)) fs else filter (λ f. not (is_packet q id f)) fs))
            ≡ map (place_of start es m) (filter (of_queue m.0) (if not b then f ∷ filter (λ f. not (is_packet q id f)) fs else filter (λ f. not (is_packet q id f)) fs))
        by_tests true c one two rest = rest
        by_tests false false one two rest = rw two rest
        by_tests false true one two rest =
            let other : same_packet m f.id q id ≡ false = grind arith in
            let here : progress_after m f.id (progress start es m f.id) made ≡ progress start es m f.id = (rw (is.drops m f.id, other) refl) ∙ is.progress m f.id (progress start es m f.id) in
            rw two (λ i. record { id = f.id; packet = f.packet; progress = here i } ∷ rest i)

    pub queue_at-released : (m : QueueId)
        → queue_at start (with_entry es event told effects) m
        ≡ after m event told (queue_at start es m) (if q.0 == m.0 then without_packet id (queue_at start es m).places else (queue_at start es m).places)
    queue_at-released m =
        queue_at-more start es event told effects m _ flight-released
        ∙ ap (after m event told (queue_at start es m))
        (others-still m (flight start es) ∙ released-in id.0 (place_of start es m) q.0 m.0 (flight start es) (λ f. refl))

module _ (start : Start) (es : List Entry) (q : QueueId) (id : PacketId) (bytes : List ℕ) where
  -- a packet is denied
  pub queue_at-denied : (rule : Rule) (m : QueueId) → queue_at start (with_entry es (Take q id bytes) (outcome.Taken (Denied (error_without_place q id.0 rule))) []) m
      ≡ (if q.0 == m.0 then denied (error_without_place q id.0 rule) (queue_at start es m) else queue_at start es m)
  queue_at-denied rule m =
      queue_at-more start es (Take q id bytes) (outcome.Taken (Denied (error_without_place q id.0 rule))) [] m (flight start es)
      (flight-unlaunched start es (Take q id bytes) (outcome.Taken (Denied (error_without_place q id.0 rule))) [] refl)
      ∙ pick (q.0 == m.0) (queue_at start es m)
    where
      pick : (b : Bool) (v : QueueView) → record v { next = (if b then v.next + 1 else v.next); errors = (if b then v.errors ++ error_without_place q id.0 rule ∷ [] else v.errors) }
          ≡ (if b then denied (error_without_place q id.0 rule) v else v)
      pick true v = refl
      pick false v = refl

  -- a packet is launched
  module _ (p : Packet) (reads : decoded bytes ≡ Some p) where
    abbrev new : InFlight
    new = record { queue = q; id = id; packet = p }

    pub flight-launched : flight start (with_entry es (Take q id bytes) (outcome.Taken Launched) []) ≡ flight start es ++ new ∷ []
    flight-launched = flight-more start es (entry_of (Take q id bytes) (outcome.Taken Launched) []) ∙ (rw reads refl)

    -- its id is above those of the queue's other packets in flight, which stay as they are
    older : (m : QueueId) (fs : List InFlight) → All (λ (place : Place). place.id.0 < id.0) (map (place_of start es m) fs)
        → map (λ f. record { id = f.id; packet = f.packet; progress = (if id.0 == f.id.0 then LAUNCH_PROGRESS else progress start es m f.id) }) fs
        ≡ map (place_of start es m) fs
    older m [] below = refl
    older m (f ∷ fs) below =
        let less : f.id.0 < id.0 = All-head (λ (place : Place). place.id.0 < id.0) (place_of start es m f) (map (place_of start es m) fs) below in
        let other : (id.0 == f.id.0) ≡ false = grind arith in
        let rest = older m fs (All-tail (λ (place : Place). place.id.0 < id.0) (place_of start es m f) (map (place_of start es m) fs) below) in
        λ i. record { id = f.id; packet = f.packet; progress = (if other i then LAUNCH_PROGRESS else progress start es m f.id) } ∷ rest i

    pub queue_at-launched : All (λ (place : Place). place.id.0 < id.0) (queue_at start es q).places → (m : QueueId)
        → queue_at start (with_entry es (Take q id bytes) (outcome.Taken Launched) []) m
        ≡ (if q.0 == m.0 then launched id p (queue_at start es m) else queue_at start es m)
    queue_at-launched below m =
        queue_at-more start es (Take q id bytes) (outcome.Taken Launched) [] m _ flight-launched
        ∙ ap (after m (Take q id bytes) (outcome.Taken Launched) (queue_at start es m))
        (ap (map (comes (q.0 == m.0))) (filter-append (of_queue m.0) (flight start es) (new ∷ []))
        ∙ map-append (comes (q.0 == m.0)) (flight_of start es m) (filter (of_queue m.0) (new ∷ []))) ∙ either (q.0 == m.0) refl
      where
        comes : Bool → InFlight → Place
        comes b f = record { id = f.id; packet = f.packet; progress = (if b && id.0 == f.id.0 then LAUNCH_PROGRESS else progress start es m f.id) }

        either : (b : Bool) → (q.0 == m.0) ≡ b → record (queue_at start es m) {
          next = (if b then next_id start es m + 1 else next_id start es m);
          places = map (comes b) (flight_of start es m) ++ map (comes b) (if b then new ∷ [] else []);
        } ≡ (if b then launched id p (queue_at start es m) else queue_at start es m)
        either true same =
            let itself : (id.0 == id.0) ≡ true = eq-eqb id.0 id.0 refl in
            let all = subst (λ k. All (λ (place : Place). place.id.0 < id.0) (queue_at start es k).places)
            (ap (λ n. record { 0 = n }) (eqb-true _ _ same)) below in
            λ i. record (queue_at start es m) {
              next = next_id start es m + 1;
              places = older m (flight_of start es m) all i
                  ++ record { id = id; packet = p; progress = (if itself i then LAUNCH_PROGRESS else progress start es m id) } ∷ [];
            }
        either false same = λ i. record (queue_at start es m) { places = append-nil (map (place_of start es m) (flight_of start es m)) i }
