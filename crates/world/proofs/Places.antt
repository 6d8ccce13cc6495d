-- Rings by their queues: with another in the place of one, with one more, and without one.
use Rattle.std.proofs.Common.{◌≡◌, ◌≢◌, ℕ, zero, suc, ◌+◌, ◌<◌, ◌≤◌, List, [], ◌∷◌, ◌++◌, get_or, length, refl, sym, ap, ◌∙◌, subst, Bool, true, false, Option, Some, None, inl, inr, arith}
use Rattle.std.specs.Prelude.{◌==◌, drop, option_map, slice_get, slice_index_or, slice_set, if◌then◌else◌}
use Rattle.std.specs.List.{remove}
use Rattle.std.proofs.lemmas.Bool.{eq-eqb}
use Rattle.std.proofs.lemmas.Bool.Decides.{eqb_tells}
use Rattle.std.proofs.lemmas.Option.{slice_get-get_or, slice_get_past}
use Rattle.aql_packet.specs.declared.ids.QueueId.{QueueId}
use Rattle.ring_core.specs.Machine.{Machine}
use Rattle.world.specs.declared.queue_ring.QueueRing.{QueueRing}
use Rattle.world.specs.InStep.{AreApart}
use Rattle.world.specs.Making.{IsOpenPlace, place_in, ring_in, rings_of, with_queue_ring}
use Rattle.world.specs.Obeying.{with_gone, without}
use Rattle.world.specs.States.{among, leave_out, put, queue_machine, with_one}
use Rattle.world.proofs.Among.{differs, out_found, put_its_own, same_queue, some_is}

-- ---- the rings alone

-- the ring of a queue among them
pub ring_among : (rings : List QueueRing) (queue : QueueId) → among (rings_of rings) queue ≡ option_map (λ r. r.ring) (ring_in rings queue)
ring_among [] queue = refl
ring_among (x ∷ xs) queue = by_test (x.queue.0 == queue.0) (ring_among xs queue)
  where
    by_test : (b : Bool) → among (rings_of xs) queue ≡ option_map (λ r. r.ring) (ring_in xs queue)
        → (if b then Some x.ring else among (rings_of xs) queue) ≡ option_map (λ r. r.ring) (slice_get (x ∷ xs) (if b then 0 else suc (place_in xs queue)))
    by_test true rest = refl
    by_test false rest = rest

-- ---- rings in a list: the first, and those behind it

pub ring_here : (x : QueueRing) (xs : List QueueRing) (queue : QueueId) → x.queue.0 ≡ queue.0 → ring_in (x ∷ xs) queue ≡ Some x
ring_here x xs queue e = ap (λ b. slice_get (x ∷ xs) (if b then 0 else suc (place_in xs queue))) (eq-eqb x.queue.0 queue.0 e)

pub ring_there : (x : QueueRing) (xs : List QueueRing) (queue : QueueId) → x.queue.0 ≢ queue.0 → ring_in (x ∷ xs) queue ≡ ring_in xs queue
ring_there x xs queue apart = ap (λ b. slice_get (x ∷ xs) (if b then 0 else suc (place_in xs queue))) (differs x.queue.0 queue.0 apart)

put_here : (x : QueueRing) (xs : List QueueRing) (queue : QueueId) (after : QueueRing) → x.queue.0 ≡ queue.0 → with_queue_ring (x ∷ xs) queue after ≡ after ∷ xs
put_here x xs queue after e = ap (λ b. slice_set (x ∷ xs) (if b then 0 else suc (place_in xs queue)) after) (eq-eqb x.queue.0 queue.0 e)

put_there : (x : QueueRing) (xs : List QueueRing) (queue : QueueId) (after : QueueRing) → x.queue.0 ≢ queue.0 → with_queue_ring (x ∷ xs) queue after ≡ x ∷ with_queue_ring xs queue after
put_there x xs queue after apart = ap (λ b. slice_set (x ∷ xs) (if b then 0 else suc (place_in xs queue)) after) (differs x.queue.0 queue.0 apart)

out_here : (x : QueueRing) (xs : List QueueRing) (queue : QueueId) → x.queue.0 ≡ queue.0 → without (x ∷ xs) queue ≡ xs
out_here x xs queue e = ap (λ b. if b then xs else x ∷ without xs queue) (eq-eqb x.queue.0 queue.0 e)

out_there : (x : QueueRing) (xs : List QueueRing) (queue : QueueId) → x.queue.0 ≢ queue.0 → without (x ∷ xs) queue ≡ x ∷ without xs queue
out_there x xs queue apart = ap (λ b. if b then xs else x ∷ without xs queue) (differs x.queue.0 queue.0 apart)

-- the ring of a queue is its
pub ring_is_its : (rings : List QueueRing) (queue : QueueId) (r : QueueRing) → ring_in rings queue ≡ Some r → r.queue.0 ≡ queue.0
ring_is_its [] queue r e = absurd (cc)
ring_is_its (x ∷ xs) queue r e = elim (eqb_tells x.queue.0 queue.0) [
  | inl same ↦ subst (λ (y : QueueRing). y.queue.0 ≡ queue.0) (some_is x r (sym (ring_here x xs queue same.1) ∙ e)) same.1
  | inr apart ↦ ring_is_its xs queue r (sym (ring_there x xs queue apart.1) ∙ e)
]

-- ---- another in its place

pub put_same : (rings : List QueueRing) (queue : QueueId) (r after : QueueRing) → ring_in rings queue ≡ Some r → after.queue.0 ≡ queue.0 → ring_in (with_queue_ring rings queue after) queue ≡ Some after
put_same [] queue r after e is = absurd (cc)
put_same (x ∷ xs) queue r after e is = elim (eqb_tells x.queue.0 queue.0) [
  | inl same ↦ ap (λ rs. ring_in rs queue) (put_here x xs queue after same.1) ∙ ring_here after xs queue is
  | inr apart ↦
      ap (λ rs. ring_in rs queue) (put_there x xs queue after apart.1) ∙ ring_there x (with_queue_ring xs queue after) queue apart.1
      ∙ put_same xs queue r after (sym (ring_there x xs queue apart.1) ∙ e) is
]

pub put_other : (rings : List QueueRing) (queue other : QueueId) (after : QueueRing) → after.queue.0 ≡ queue.0 → other.0 ≢ queue.0 → ring_in (with_queue_ring rings queue after) other ≡ ring_in rings other
put_other [] queue other after is apart = refl
put_other (x ∷ xs) queue other after is apart = elim (eqb_tells x.queue.0 queue.0) [
  | inl same ↦
      ap (λ rs. ring_in rs other) (put_here x xs queue after same.1) ∙ ring_there after xs other (λ e. apart (sym e ∙ is))
      ∙ sym (ring_there x xs other (λ e. apart (sym e ∙ same.1)))
  | inr away ↦
      ap (λ rs. ring_in rs other) (put_there x xs queue after away.1)
      ∙ elim (eqb_tells x.queue.0 other.0) [
        | inl here ↦ ring_here x (with_queue_ring xs queue after) other here.1 ∙ sym (ring_here x xs other here.1)
        | inr there ↦ ring_there x (with_queue_ring xs queue after) other there.1 ∙ put_other xs queue other after is apart ∙ sym (ring_there x xs other there.1)
      ]
]

-- what the queues and their rings are then
pub rings_put : (rings : List QueueRing) (queue : QueueId) (r after : QueueRing) → ring_in rings queue ≡ Some r → after.queue.0 ≡ queue.0
    → rings_of (with_queue_ring rings queue after) ≡ put (rings_of rings) queue after.ring
rings_put [] queue r after found is = absurd (cc)
rings_put (x ∷ xs) queue r after found is = elim (eqb_tells x.queue.0 queue.0) [
  | inl same ↦
      ap rings_of (put_here x xs queue after same.1)
      ∙ ap (λ (q : QueueId). queue_machine q after.ring ∷ rings_of xs) (same_queue after.queue x.queue (is ∙ sym same.1))
      ∙ ap (λ b. if b then queue_machine x.queue after.ring ∷ rings_of xs else queue_machine x.queue x.ring ∷ put (rings_of xs) queue after.ring) (sym same.0)
  | inr away ↦
      ap rings_of (put_there x xs queue after away.1)
      ∙ ap (λ rs. queue_machine x.queue x.ring ∷ rs) (rings_put xs queue r after (sym (ring_there x xs queue away.1) ∙ found) is)
      ∙ ap (λ b. if b then queue_machine x.queue after.ring ∷ rings_of xs else queue_machine x.queue x.ring ∷ put (rings_of xs) queue after.ring) (sym away.0)
]

-- with the same ring all are as before
pub rings_stay : (rings : List QueueRing) (queue : QueueId) (r after : QueueRing) → ring_in rings queue ≡ Some r → after.queue.0 ≡ queue.0 → after.ring ≡ r.ring → rings_of (with_queue_ring rings queue after) ≡ rings_of rings
rings_stay rings queue r after found is same =
    rings_put rings queue r after found is ∙ put_its_own (rings_of rings) queue after.ring (ring_among rings queue ∙ ap (option_map (λ (x : QueueRing). x.ring)) found ∙ ap Some (sym same))

-- an item in its own place changes nothing
pub put_itself : (rings : List QueueRing) (queue : QueueId) (r : QueueRing) → ring_in rings queue ≡ Some r → with_queue_ring rings queue r ≡ rings
put_itself [] queue r e = absurd (cc)
put_itself (x ∷ xs) queue r e = elim (eqb_tells x.queue.0 queue.0) [
  | inl same ↦ put_here x xs queue r same.1 ∙ ap (λ y. y ∷ xs) (sym (some_is x r (sym (ring_here x xs queue same.1) ∙ e)))
  | inr apart ↦ put_there x xs queue r apart.1 ∙ ap (λ ys. x ∷ ys) (put_itself xs queue r (sym (ring_there x xs queue apart.1) ∙ e))
]

-- ---- one more

more_same : (rings : List QueueRing) (r : QueueRing) (queue : QueueId) → r.queue.0 ≡ queue.0 → ring_in rings queue ≡ None → ring_in (rings ++ r ∷ []) queue ≡ Some r
more_same [] r queue is none = ring_here r [] queue is
more_same (x ∷ xs) r queue is none = elim (eqb_tells x.queue.0 queue.0) [
  | inl same ↦ absurd (let never : Some x ≡ None = sym (ring_here x xs queue same.1) ∙ none in cc)
  | inr apart ↦ ring_there x (xs ++ r ∷ []) queue apart.1 ∙ more_same xs r queue is (sym (ring_there x xs queue apart.1) ∙ none)
]

more_other : (rings : List QueueRing) (r : QueueRing) (queue : QueueId) → r.queue.0 ≢ queue.0 → ring_in (rings ++ r ∷ []) queue ≡ ring_in rings queue
more_other [] r queue apart = ring_there r [] queue apart
more_other (x ∷ xs) r queue apart = elim (eqb_tells x.queue.0 queue.0) [
  | inl same ↦ ring_here x (xs ++ r ∷ []) queue same.1 ∙ sym (ring_here x xs queue same.1)
  | inr away ↦ ring_there x (xs ++ r ∷ []) queue away.1 ∙ more_other xs r queue apart ∙ sym (ring_there x xs queue away.1)
]

pub rings_more : (rings : List QueueRing) (r : QueueRing) → rings_of (rings ++ r ∷ []) ≡ rings_of rings ++ queue_machine r.queue r.ring ∷ []
rings_more [] r = refl
rings_more (x ∷ xs) r = ap (λ rs. queue_machine x.queue x.ring ∷ rs) (rings_more xs r)

-- one more is found under its number, and all others where they were
pub found_more : (rings : List QueueRing) (r x : QueueRing) (queue : QueueId) → ring_in rings r.queue ≡ None → ring_in (rings ++ r ∷ []) queue ≡ Some x → (queue.0 ≡ r.queue.0 → x ≡ r) × (queue.0 ≢ r.queue.0 → ring_in rings queue ≡ Some x)
found_more rings r x queue none found = (
  λ same. some_is x r (sym found ∙ ap (ring_in (rings ++ r ∷ [])) (same_queue queue r.queue same) ∙ more_same rings r r.queue refl none),
  λ apart. sym (more_other rings r queue (λ same. apart (sym same))) ∙ found,
)

-- ---- without one

pub out_other : (rings : List QueueRing) (queue other : QueueId) → other.0 ≢ queue.0 → ring_in (without rings queue) other ≡ ring_in rings other
out_other [] queue other apart = refl
out_other (x ∷ xs) queue other apart = elim (eqb_tells x.queue.0 queue.0) [
  | inl same ↦ ap (λ rs. ring_in rs other) (out_here x xs queue same.1) ∙ sym (ring_there x xs other (λ e. apart (sym e ∙ same.1)))
  | inr away ↦
      ap (λ rs. ring_in rs other) (out_there x xs queue away.1)
      ∙ elim (eqb_tells x.queue.0 other.0) [
        | inl here ↦ ring_here x (without xs queue) other here.1 ∙ sym (ring_here x xs other here.1)
        | inr there ↦ ring_there x (without xs queue) other there.1 ∙ out_other xs queue other apart ∙ sym (ring_there x xs other there.1)
      ]
]

pub rings_without : (rings : List QueueRing) (queue : QueueId) → rings_of (without rings queue) ≡ leave_out (rings_of rings) queue
rings_without [] queue = refl
rings_without (x ∷ xs) queue = by_test (x.queue.0 == queue.0) (rings_without xs queue)
  where
    by_test : (b : Bool) → rings_of (without xs queue) ≡ leave_out (rings_of xs) queue
        → rings_of (if b then xs else x ∷ without xs queue) ≡ (if b then rings_of xs else queue_machine x.queue x.ring ∷ leave_out (rings_of xs) queue)
    by_test true rest = refl
    by_test false rest = ap (λ rs. queue_machine x.queue x.ring ∷ rs) rest

-- what is left was there before, and is of another queue
pub found_without : (rings : List QueueRing) (queue other : QueueId) (x : QueueRing) → AreApart (rings_of rings) → ring_in (without rings queue) other ≡ Some x → (other.0 ≢ queue.0) × (ring_in rings other ≡ Some x)
found_without rings queue other x apart found =
    let away : other.0 ≢ queue.0 = λ e. absurd (gone (ap (ring_in (without rings queue)) (sym (same_queue other queue e)) ∙ found)) in
    (away, sym (out_other rings queue other away) ∙ found)
  where
    gone : ring_in (without rings queue) queue ≢ Some x
    gone there =
        let some : among (rings_of (without rings queue)) queue ≡ Some x.ring = ring_among (without rings queue) queue ∙ ap (option_map (λ (r : QueueRing). r.ring)) there in
        let none : among (rings_of (without rings queue)) queue ≡ None = ap (λ rs. among rs queue) (rings_without rings queue) ∙ out_found (rings_of rings) queue apart in
        let never : None ≡ Some x.ring = sym none ∙ some in cc

-- ---- looking for a place

-- no ring before a place is the queue's
abbrev pub IsLookedThrough : List QueueRing → QueueId → ℕ → Type 0
IsLookedThrough rings queue place = place_in rings queue ≡ place + place_in (drop place rings) queue

-- no two rings are of one queue, so a ring of the queue that stands at a place has its place there
pub place_found : (rings : List QueueRing) (queue : QueueId) (place : ℕ) (r : QueueRing) → AreApart (rings_of rings) → slice_get rings place ≡ Some r → r.queue.0 ≡ queue.0 → place_in rings queue ≡ place
place_found [] queue place r apart there is = absurd (cc)
place_found (x ∷ xs) queue zero r apart there is =
    let same : x.queue.0 ≡ queue.0 = ap (λ (y : QueueRing). y.queue.0) (some_is x r there) ∙ is in
    ap (λ b. if b then 0 else suc (place_in xs queue)) (eq-eqb x.queue.0 queue.0 same)
place_found (x ∷ xs) queue (suc place) r apart there is =
    let behind : place_in xs queue ≡ place = place_found xs queue place r apart.1 there is in
    elim (eqb_tells x.queue.0 queue.0) [
      | inl same ↦
          let some : among (rings_of xs) queue ≡ Some r.ring = ring_among xs queue ∙ ap (λ i. option_map (λ (y : QueueRing). y.ring) (slice_get xs i)) behind ∙ ap (option_map (λ (y : QueueRing). y.ring)) there in
          let none : among (rings_of xs) queue ≡ None = ap (among (rings_of xs)) (same_queue queue x.queue (sym same.1)) ∙ apart.0 in
          absurd (let never : None ≡ Some r.ring = sym none ∙ some in cc)
      | inr away ↦ ap (λ b. if b then 0 else suc (place_in xs queue)) away.0 ∙ ap suc behind
    ]

pub place_at : (rings : List QueueRing) (queue : QueueId) (place : ℕ) (r : QueueRing) → AreApart (rings_of rings) → place < length rings → r ≡ get_or rings place r → r.queue.0 ≡ queue.0 → place ≡ place_in rings queue
place_at rings queue place r apart lt there is = sym (place_found rings queue place r apart (slice_get-get_or rings place r lt ∙ ap Some (sym there)) is)

-- a place inside is that of an open queue
pub open_at : (rings : List QueueRing) (queue : QueueId) (place : ℕ) → place < length rings → place ≡ place_in rings queue → IsOpenPlace rings queue (Some place)
open_at rings queue place lt is =
    let there = inside rings place lt in
    (lt, is, there.0, ap (slice_get rings) (sym is) ∙ there.1)
  where
    inside : (xs : List QueueRing) (i : ℕ) → i < length xs → (r : QueueRing) × (slice_get xs i ≡ Some r)
    inside [] i lt = absurd (omega (arith, lt))
    inside (x ∷ xs) zero lt = (x, refl)
    inside (x ∷ xs) (suc i) lt = inside xs i (omega (arith, lt))

-- a queue without a ring has its place behind the last
pub none_inside : (rings : List QueueRing) (queue : QueueId) → length rings ≤ place_in rings queue → ring_in rings queue ≡ None
none_inside rings queue le = slice_get_past rings (place_in rings queue) le

-- what is taken out is the queue's ring
pub removed_is : (rings : List QueueRing) (queue : QueueId) (d : QueueRing) → place_in rings queue < length rings → ring_in rings queue ≡ Some (slice_index_or rings (place_in rings queue) d)
removed_is rings queue d lt = inside rings (place_in rings queue) lt
  where
    inside : (xs : List QueueRing) (i : ℕ) → i < length xs → slice_get xs i ≡ Some (slice_index_or xs i d)
    inside [] i lt = absurd (omega (arith, lt))
    inside (x ∷ xs) zero lt = refl
    inside (x ∷ xs) (suc i) lt = inside xs i (omega (arith, lt))

-- taken out at its place
pub removed : (rings : List QueueRing) (queue : QueueId) → place_in rings queue < length rings → remove rings (place_in rings queue) ≡ without rings queue
removed [] queue lt = absurd (omega arith)
removed (x ∷ xs) queue lt = by_test (x.queue.0 == queue.0) lt (removed xs queue)
  where
    by_test : (b : Bool) → (if b then 0 else suc (place_in xs queue)) < suc (length xs) → (place_in xs queue < length xs → remove xs (place_in xs queue) ≡ without xs queue)
        → remove (x ∷ xs) (if b then 0 else suc (place_in xs queue)) ≡ (if b then xs else x ∷ without xs queue)
    by_test true lt rest = refl
    by_test false lt rest = ap (λ ys. x ∷ ys) (rest (omega (arith, lt)))

pub none_removed : (rings : List QueueRing) (queue : QueueId) → length rings ≤ place_in rings queue → without rings queue ≡ rings
none_removed [] queue le = refl
none_removed (x ∷ xs) queue le = by_test (x.queue.0 == queue.0) le (none_removed xs queue)
  where
    by_test : (b : Bool) → suc (length xs) ≤ (if b then 0 else suc (place_in xs queue)) → (length xs ≤ place_in xs queue → without xs queue ≡ xs)
        → (if b then xs else x ∷ without xs queue) ≡ x ∷ xs
    by_test true le rest = absurd (omega (arith, le))
    by_test false le rest = ap (λ ys. x ∷ ys) (rest (omega (arith, le)))

-- ---- the rings of closed queues

-- a queue's ring that went, if it had one, is told from then on
pub closed_with : (gone rings : List QueueRing) (queue : QueueId) → rings_of (with_gone gone (ring_in rings queue)) ≡ with_one (rings_of gone) queue (among (rings_of rings) queue)
closed_with gone rings queue = by_ring (ring_in rings queue) refl
  where
    by_ring : (o : Option QueueRing) → ring_in rings queue ≡ o → rings_of (with_gone gone o) ≡ with_one (rings_of gone) queue (among (rings_of rings) queue)
    by_ring None none = ap (with_one (rings_of gone) queue) (sym (ring_among rings queue ∙ ap (option_map (λ (r : QueueRing). r.ring)) none))
    by_ring (Some r) found =
        rings_more gone r
        ∙ ap (λ (q : QueueId). rings_of gone ++ queue_machine q r.ring ∷ []) (same_queue r.queue queue (ring_is_its rings queue r found))
        ∙ ap (with_one (rings_of gone) queue) (sym (ring_among rings queue ∙ ap (option_map (λ (x : QueueRing). x.ring)) found))
