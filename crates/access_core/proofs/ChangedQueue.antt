-- One queue of the list changed: what is kept of it, and of the others.
use Rattle.std.proofs.Common.{◌≡◌, ℕ, zero, suc, ◌≤◌, Bool, true, false, List, [], ◌∷◌, length, map, All, refl, sym, ◌∙◌, ap, subst, eqb-true, option_map, Option}
use Rattle.std.proofs.Common.{Some, None, arith, ◌==◌, get_or, slice_get, slice_set, if◌then◌else◌}
use Rattle.access_core.proofs.Terms.{All-cons, All-head, All-tail, AscendFrom, Entry, IsQueueIndex, IsSound, IsThere, PacketId, Queue, QueueId, QueueView, Start, cached_openings, cached_queue, cached_view, changed_if, error_places, found-all, found-passes}
use Rattle.access_core.proofs.Terms.{freed_by, has_number, length-map, places_freed, slice_get-get_or, queue_at, queue_in, with_queue}
use Rattle.access_core.proofs.Numbered.{above-place, none-above}

pub freed-at : (id : Option PacketId) (qs : List Queue) (n : QueueId) (q : Queue) → queue_in qs n ≡ Some q → freed_by id qs n ≡ places_freed id q.places
freed-at id qs n q found = ap (λ (o : Option Queue). elim o [ None ↦ 0 | Some x ↦ places_freed id x.places ]) found

-- a kept queue is sound
pub sound-at : (qs : List Queue) (n : QueueId) (q : Queue) → All IsSound qs → queue_in qs n ≡ Some q → IsSound q
sound-at qs n q all found = found-all IsSound (has_number n) qs q all found

module _ (n : QueueId) (change : Queue → Queue) where
  -- a list without the queue stays as it is
  untouched : (qs : List Queue) → queue_in qs n ≡ None → with_queue qs n change ≡ qs
  untouched [] none = refl
  untouched (x ∷ xs) none = by_test (has_number n x) refl none (untouched xs)
    where
      by_test : (b : Bool) → has_number n x ≡ b → (if b then Some x else queue_in xs n) ≡ None → (queue_in xs n ≡ None → with_queue xs n change ≡ xs) → with_queue (x ∷ xs) n change ≡ x ∷ xs
      by_test true is none rest = absurd cc
      by_test false is none rest = rw is (ap (λ ys. x ∷ ys) (rest none))

  pub behind-untouched : (qs : List Queue) (below : ℕ) → AscendFrom below qs → n.0 ≤ below → with_queue qs n change ≡ qs
  behind-untouched qs below ascending less = untouched qs (none-above qs n below ascending less)

-- the list at a queue that is changed, and at another
with-here : (n : QueueId) (change : Queue → Queue) (x : Queue) (xs : List Queue) → has_number n x ≡ true → with_queue (x ∷ xs) n change ≡ change x ∷ with_queue xs n change
with-here n change x xs is = ap (λ (b : Bool). (if b then change x else x) ∷ with_queue xs n change) is

with-other : (n : QueueId) (change : Queue → Queue) (x : Queue) (xs : List Queue) → has_number n x ≡ false → with_queue (x ∷ xs) n change ≡ x ∷ with_queue xs n change
with-other n change x xs is = ap (λ (b : Bool). (if b then change x else x) ∷ with_queue xs n change) is

head-number : (n : QueueId) (x : Queue) → has_number n x ≡ true → n.0 ≤ x.number.0
head-number n x is = grind arith

-- a queue that is written in its place is the one of its number
pub set-changed : (below : ℕ) (qs : List Queue) (n : QueueId) (change : Queue → Queue) (i : ℕ) (q : Queue) → AscendFrom below qs → slice_get qs i ≡ Some q → has_number n q ≡ true
    → slice_set qs i (change q) ≡ with_queue qs n change
set-changed below [] n change i q ascending at is = absurd cc
set-changed below (x ∷ xs) n change zero q ascending at is =
    let same : x ≡ q = cc in
    let here : has_number n x ≡ true = ap (has_number n) same ∙ is in
    rw (here, behind-untouched n change xs x.number.0 ascending.1 (head-number n x here)) (ap (λ y. change y ∷ xs) (sym same))
set-changed below (x ∷ xs) n change (suc i) q ascending at is =
    let above = above-place x.number.0 xs i q ascending.1 at in
    let other : has_number n x ≡ false = grind arith in
    rw other (ap (λ ys. x ∷ ys) (set-changed x.number.0 xs n change i q ascending.1 at is))

-- so it is where it is written at the index of its number
pub written : (qs : List Queue) (n : QueueId) (change : Queue → Queue) (i : ℕ) (kept new : Queue) → AscendFrom 0 qs → IsThere qs n → IsQueueIndex qs n (Some i) → kept ≡ get_or qs i kept → new ≡ change kept
    → slice_set qs i new ≡ with_queue qs n change
written qs n change i kept new ascending there at value is =
    let here : slice_get qs i ≡ Some kept = slice_get-get_or qs i kept at.0 ∙ ap Some (sym value) in
    let passes : has_number n kept ≡ true = found-passes (has_number n) qs kept (at.1 ∙ here) in
    ap (slice_set qs i) is ∙ set-changed 0 qs n change i kept ascending here passes

-- what lies there is the queue that is found
pub kept-there : (qs : List Queue) (n : QueueId) (i : ℕ) (q kept : Queue) → queue_in qs n ≡ Some q → IsQueueIndex qs n (Some i) → kept ≡ get_or qs i kept → kept ≡ q
kept-there qs n i q kept found at value =
    let here : Some kept ≡ Some q = ap Some value ∙ sym (slice_get-get_or qs i kept at.0) ∙ sym at.1 ∙ found in
    cc

-- what is told of each queue stays, where it does of the one that is changed
map-with : {X : Type 0} (f : Queue → X) (below : ℕ) (qs : List Queue) (n : QueueId) (change : Queue → Queue) (q : Queue) → AscendFrom below qs → queue_in qs n ≡ Some q → f (change q) ≡ f q
    → map f (with_queue qs n change) ≡ map f qs
map-with f below [] n change q ascending found same = refl
map-with f below (x ∷ xs) n change q ascending found same = by_test (has_number n x) refl found (λ behind. map-with f x.number.0 xs n change q ascending.1 behind same)
  where
    by_test : (b : Bool) → has_number n x ≡ b → (if b then Some x else queue_in xs n) ≡ Some q → (queue_in xs n ≡ Some q → map f (with_queue xs n change) ≡ map f xs)
        → map f (with_queue (x ∷ xs) n change) ≡ map f (x ∷ xs)
    by_test true is found rest =
        let here : x ≡ q = cc in
        rw (is, behind-untouched n change xs x.number.0 ascending.1 (head-number n x is)) (ap (λ y. y ∷ map f xs) (ap (λ y. f (change y)) here ∙ same ∙ ap f (sym here)))
    by_test false is found rest = rw is (ap (λ ys. f x ∷ ys) (rest found))

-- what holds of each holds of each, where it does of the one that is changed
all-with : (P : Queue → Type 0) (below : ℕ) (qs : List Queue) (n : QueueId) (change : Queue → Queue) (q : Queue) → AscendFrom below qs → queue_in qs n ≡ Some q → P (change q) → All P qs
    → All P (with_queue qs n change)
all-with P below [] n change q ascending found holds all = all
all-with P below (x ∷ xs) n change q ascending found holds all = by_test (has_number n x) refl found (λ behind. all-with P x.number.0 xs n change q ascending.1 behind holds (All-tail P x xs all))
  where
    by_test : (b : Bool) → has_number n x ≡ b → (if b then Some x else queue_in xs n) ≡ Some q → (queue_in xs n ≡ Some q → All P (with_queue xs n change)) → All P (with_queue (x ∷ xs) n change)
    by_test true is found rest =
        let here : x ≡ q = cc in
        subst (All P) (sym (with-here n change x xs is ∙ ap (λ ys. change x ∷ ys) (behind-untouched n change xs x.number.0 ascending.1 (head-number n x is))))
        (All-cons P (change x) xs (subst (λ y. P (change y)) (sym here) holds) (All-tail P x xs all))
    by_test false is found rest = subst (All P) (sym (with-other n change x xs is)) (All-cons P x (with_queue xs n change) (All-head P x xs all) (rest found))

-- numbers stay in order
ascend-with : (below : ℕ) (qs : List Queue) (n : QueueId) (change : Queue → Queue) → ((q : Queue) → (change q).number ≡ q.number) → AscendFrom below qs → AscendFrom below (with_queue qs n change)
ascend-with below [] n change same ascending = tt
ascend-with below (x ∷ xs) n change same ascending =
    let here : (changed_if n change x).number.0 ≡ x.number.0 = grind (arith, same x) in
    (omega (arith, here, ascending.0), subst (λ k. AscendFrom k (with_queue xs n change)) (sym here) (ascend-with x.number.0 xs n change same ascending.1))

-- a queue is found where it was
found-with : (qs : List Queue) (n : QueueId) (change : Queue → Queue) (m : QueueId) → ((q : Queue) → (change q).number ≡ q.number) → queue_in (with_queue qs n change) m ≡ option_map (changed_if n change) (queue_in qs m)
found-with [] n change m same = refl
found-with (x ∷ xs) n change m same =
    let here : has_number m (changed_if n change x) ≡ has_number m x = grind (arith, same x) in
    rw here (by_test (has_number m x) (found-with xs n change m same))
  where
    by_test : (b : Bool) → queue_in (with_queue xs n change) m ≡ option_map (changed_if n change) (queue_in xs m)
        → (if b then Some (changed_if n change x) else queue_in (with_queue xs n change) m) ≡ option_map (changed_if n change) (if b then Some x else queue_in xs m)
    by_test true rest = refl
    by_test false rest = rest

module _ (qs : List Queue) (n : QueueId) (change : Queue → Queue) (q : Queue) (found : queue_in qs n ≡ Some q) (ascending : AscendFrom 0 qs) where
  pub openings-changed : (opened : ℕ) → cached_queue (change q) ≡ cached_queue q → cached_openings opened (with_queue qs n change) ≡ cached_openings opened qs
  openings-changed opened same = ap (λ queues. record { opened = opened; queues = queues }) (map-with cached_queue 0 qs n change q ascending found same)

  -- and the room for errors, where the changed queue has as many places for them
  pub errors-changed : error_places (change q) ≡ error_places q → map error_places (with_queue qs n change) ≡ map error_places qs
  errors-changed same = map-with error_places 0 qs n change q ascending found same

  pub length-changed : length (with_queue qs n change) ≡ length qs
  length-changed = length-map qs (changed_if n change)

  pub sound-changed : IsSound (change q) → All IsSound qs → All IsSound (with_queue qs n change)
  sound-changed sound all = all-with IsSound 0 qs n change q ascending found sound all

  module _ (same : (x : Queue) → (change x).number ≡ x.number) where
    pub ascending-changed : AscendFrom 0 (with_queue qs n change)
    ascending-changed = ascend-with 0 qs n change same ascending

    pub up_to-changed : (opened : ℕ) → All (λ x. x.number.0 ≤ opened) qs → All (λ x. x.number.0 ≤ opened) (with_queue qs n change)
    up_to-changed opened all =
        all-with (λ x. x.number.0 ≤ opened) 0 qs n change q ascending found
        (subst (λ k. k ≤ opened) (sym (ap (λ (k : QueueId). k.0) (same q))) (found-all (λ x. x.number.0 ≤ opened) (has_number n) qs q all found)) all

    -- what is told of the changed queue is told at its number, and of the others as before
    pub found-changed : {X : Type 0} (told : Option Queue → X) (m : QueueId) → told (queue_in (with_queue qs n change) m) ≡ (if n.0 == m.0 then told (Some (change q)) else told (queue_in qs m))
    found-changed told m = ap told (found-with qs n change m same) ∙ by_test (n.0 == m.0) refl
      where
        is_found : (o : Option Queue) → queue_in qs m ≡ o → (n.0 == m.0) ≡ false → told (option_map (changed_if n change) o) ≡ told o
        is_found None is other = refl
        is_found (Some x) is other =
            let its : has_number m x ≡ true = found-passes (has_number m) qs x is in
            let not_it : has_number n x ≡ false = grind arith in
            rw not_it refl

        by_test : (b : Bool) → (n.0 == m.0) ≡ b → told (option_map (changed_if n change) (queue_in qs m)) ≡ (if b then told (Some (change q)) else told (queue_in qs m))
        by_test true is =
            let here : m ≡ n = ap (λ k. record { 0 = k }) (sym (eqb-true _ _ is)) in
            let its : has_number n q ≡ true = found-passes (has_number n) qs q found in
            let at : queue_in qs m ≡ Some q = ap (queue_in qs) here ∙ found in
            rw (at, its) refl
        by_test false is = is_found (queue_in qs m) refl is

    -- so what is kept is what the history says, where both change alike
    pub queues-changed : (view : QueueView → QueueView) (start : Start) (old new : List Entry) → cached_view (Some (change q)) ≡ view (cached_view (Some q))
        → ((m : QueueId) → cached_view (queue_in qs m) ≡ queue_at start old m)
        → ((m : QueueId) → queue_at start new m ≡ (if n.0 == m.0 then view (queue_at start old m) else queue_at start old m))
        → (m : QueueId) → cached_view (queue_in (with_queue qs n change) m) ≡ queue_at start new m
    queues-changed view start old new alike was now m =
        found-changed cached_view m ∙ by_test (n.0 == m.0) refl ∙ sym (now m)
      where
        by_test : (b : Bool) → (n.0 == m.0) ≡ b → (if b then cached_view (Some (change q)) else cached_view (queue_in qs m)) ≡ (if b then view (queue_at start old m) else queue_at start old m)
        by_test true is =
            let here : n ≡ m = ap (λ k. record { 0 = k }) (eqb-true _ _ is) in
            alike ∙ ap view (sym (ap cached_view found) ∙ was n ∙ ap (queue_at start old) here)
        by_test false is = was m
