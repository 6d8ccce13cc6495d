-- The open queue with the least number behind another.
use Rattle.std.proofs.Common.{◌≡◌, ◌≢◌, ℕ, suc, ◌<◌, ◌≤◌, List, [], ◌∷◌, ◌++◌, refl, sym, ap, ◌∙◌, subst, Bool, true, false, Option, Some, None, inl, inr, arith}
use Rattle.std.specs.Prelude.{◌⊎◌, ◌||◌, fold, is_some, nat_le, option_map, slice_get, take, if◌then◌else◌}
use Rattle.std.proofs.lemmas.Bool.Decides.{eqb_tells, leb_tells}
use Rattle.aql_packet.specs.declared.ids.QueueId.{QueueId}
use Rattle.core_model.specs.History.{History}
use Rattle.world.specs.declared.queue_ring.QueueRing.{QueueRing}
use Rattle.world.specs.Making.{nearer, queue_after, ring_in, rings_of}
use Rattle.world.specs.States.{IsNextOpen, Rings, among, joined}
use Rattle.world.proofs.Among.{some_is}
use Rattle.world.proofs.Places.{ring_among, ring_here, ring_there}

-- what is nearest so far, or the nearest among rings
abbrev IsNearest : Option QueueId → List QueueRing → QueueId → Option QueueId → Type 0
IsNearest before xs queue None = (before ≡ None) × ((other : QueueId) → queue.0 < other.0 → ring_in xs other ≡ None)
IsNearest before xs queue (Some n) =
    ((before ≡ Some n) ⊎ ((queue.0 < n.0) × (is_some (ring_in xs n) ≡ true)))
    × ((m : QueueId) → before ≡ Some m → n.0 ≤ m.0)
    × ((other : QueueId) → queue.0 < other.0 → other.0 < n.0 → ring_in xs other ≡ None)

is_there : (x : QueueRing) (xs : List QueueRing) (n : QueueId) → is_some (ring_in xs n) ≡ true → is_some (ring_in (x ∷ xs) n) ≡ true
is_there x xs n some = elim (eqb_tells x.queue.0 n.0) [
  | inl e ↦ ap is_some (ring_here x xs n e.1)
  | inr e ↦ ap is_some (ring_there x xs n e.1) ∙ some
]

is_here : (x : QueueRing) (xs : List QueueRing) (n : QueueId) → x.queue.0 ≡ n.0 → is_some (ring_in (x ∷ xs) n) ≡ true
is_here x xs n e = ap is_some (ring_here x xs n e)

module _ (queue : QueueId) (x : QueueRing) (xs : List QueueRing) where
  -- a ring that isn't behind the queue, or not nearer
  passed : (before : Option QueueId) (r : Option QueueId) → IsNearest before xs queue r → ((other : QueueId) → queue.0 < other.0 → ((n : QueueId) → r ≡ Some n → other.0 < n.0) → x.queue.0 ≢ other.0) → IsNearest before (x ∷ xs) queue r
  passed before None h apart = (h.0, λ other lt. ring_there x xs other (apart other lt (λ n e. absurd (cc))) ∙ h.1 other lt)
  passed before (Some n) h apart = (
    elim h.0 [ inl e ↦ inl e | inr e ↦ inr (e.0, is_there x xs n e.1) ],
    h.1,
    λ other lt below. ring_there x xs other (apart other lt (λ m e. let same : n ≡ m = some_is n m e in subst (λ (q : QueueId). other.0 < q.0) same below)) ∙ h.2 other lt below,
  )

  -- one that is
  taken : (before : Option QueueId) (r : Option QueueId) → queue.0 < x.queue.0 → ((m : QueueId) → before ≡ Some m → x.queue.0 ≤ m.0) → IsNearest (Some x.queue) xs queue r → IsNearest before (x ∷ xs) queue r
  taken before None behind near h = absurd (let never = h.0 in cc)
  taken before (Some n) behind near h =
      let low : n.0 ≤ x.queue.0 = h.1 x.queue refl in (
        inr (elim h.0 [
          | inl e ↦
              let same : x.queue ≡ n = some_is x.queue n e in
              (subst (λ (q : QueueId). queue.0 < q.0) same behind, is_here x xs n (ap (λ (q : QueueId). q.0) same))
          | inr e ↦ (e.0, is_there x xs n e.1)
        ]),
        (λ m e. let le : x.queue.0 ≤ m.0 = near m e in omega (arith, low, le)),
        λ other lt below. ring_there x xs other (λ e. absurd (omega (arith, e, below, low))) ∙ h.2 other lt below,
      )

  step : (before : Option QueueId) (r : Option QueueId) → IsNearest (nearer queue before x.queue) xs queue r → IsNearest before (x ∷ xs) queue r
  step None r h = elim (leb_tells x.queue.0 queue.0) [
    | inl e ↦
        passed None r (subst (λ (o : Option QueueId). IsNearest o xs queue r) (ap (λ b. if b then None else Some x.queue) e.0) h) (λ other lt below same. absurd (let le = e.1 in omega (arith, le, lt, same)))
    | inr e ↦
        taken None r (let lt = e.1 in omega (arith, lt)) (λ m never. absurd (cc)) (subst (λ (o : Option QueueId). IsNearest o xs queue r) (ap (λ b. if b then None else Some x.queue) e.0) h)
  ]
  step (Some found) r h = by_order (nat_le x.queue.0 queue.0) refl (nat_le found.0 x.queue.0) refl
    where
      -- what lies before the nearest isn't a ring behind one that was found
      nearer_than : (r : Option QueueId) → IsNearest (Some found) xs queue r → found.0 ≤ x.queue.0 → (other : QueueId) → queue.0 < other.0 → ((n : QueueId) → r ≡ Some n → other.0 < n.0) → x.queue.0 ≢ other.0
      nearer_than None h le other lt below same = absurd (let never = h.0 in cc)
      nearer_than (Some n) h le other lt below same =
          let low : n.0 ≤ found.0 = h.1 found refl in
          let lower : other.0 < n.0 = below n refl in
          absurd (omega (arith, low, lower, le, same))

      by_order : (a : Bool) → nat_le x.queue.0 queue.0 ≡ a → (b : Bool) → nat_le found.0 x.queue.0 ≡ b → IsNearest (Some found) (x ∷ xs) queue r
      by_order true is b also =
          let le : x.queue.0 ≤ queue.0 = elim (leb_tells x.queue.0 queue.0) [ inl e ↦ e.1 | inr e ↦ absurd (let no_more : true ≡ false = sym is ∙ e.0 in cc) ] in
          passed (Some found) r (subst (λ (o : Option QueueId). IsNearest o xs queue r) (ap (λ c. if c || nat_le found.0 x.queue.0 then Some found else Some x.queue) is) h) (λ other lt below same. absurd (omega (arith, le, lt, same)))
      by_order false is true also =
          let le : found.0 ≤ x.queue.0 = elim (leb_tells found.0 x.queue.0) [ inl e ↦ e.1 | inr e ↦ absurd (let no_more : true ≡ false = sym also ∙ e.0 in cc) ] in
          let kept : IsNearest (Some found) xs queue r = subst (λ (o : Option QueueId). IsNearest o xs queue r) (λ i. if is i || also i then Some found else Some x.queue) h in
          passed (Some found) r kept (nearer_than r kept le)
      by_order false is false also =
          let behind : queue.0 < x.queue.0 = elim (leb_tells x.queue.0 queue.0) [ inl e ↦ absurd (let no_more : true ≡ false = sym e.0 ∙ is in cc) | inr e ↦ let lt = e.1 in omega (arith, lt) ] in
          let below : x.queue.0 < found.0 = elim (leb_tells found.0 x.queue.0) [ inl e ↦ absurd (let no_more : true ≡ false = sym e.0 ∙ also in cc) | inr e ↦ let lt = e.1 in omega (arith, lt) ] in
          taken (Some found) r behind (λ m e. let same : found ≡ m = some_is found m e in subst (λ (q : QueueId). x.queue.0 ≤ q.0) same (omega (arith, below)))
          (subst (λ (o : Option QueueId). IsNearest o xs queue r) (λ i. if is i || also i then Some found else Some x.queue) h)

nearest_along : (xs : List QueueRing) (before : Option QueueId) (queue : QueueId) → IsNearest before xs queue (fold (λ next r. nearer queue next r.queue) before xs)
nearest_along [] None queue = (refl, λ other lt. refl)
nearest_along [] (Some n) queue = (inl refl, (λ m e. let same : n ≡ m = some_is n m e in subst (λ (q : QueueId). n.0 ≤ q.0) same (omega arith)), λ other lt below. refl)
nearest_along (x ∷ xs) before queue = step queue x xs before (fold (λ next r. nearer queue next r.queue) (nearer queue before x.queue) xs) (nearest_along xs (nearer queue before x.queue) queue)

none_mapped : (rings : List QueueRing) (queue : QueueId) → ring_in rings queue ≡ None → among (rings_of rings) queue ≡ None
none_mapped rings queue none = ring_among rings queue ∙ ap (option_map (λ (r : QueueRing). r.ring)) none

some_mapped : (o : Option QueueRing) → is_some o ≡ true → is_some (option_map (λ r. r.ring) o) ≡ true
some_mapped None some = absurd (cc)
some_mapped (Some r) some = refl

-- so it is the next open queue of a world with these rings
pub next_open : (core : History) (rings : List QueueRing) (closed : Rings) (queue : QueueId) → IsNextOpen (joined core (rings_of rings) closed) queue (queue_after rings queue)
next_open core rings closed queue = by_next (queue_after rings queue) (nearest_along rings None queue)
  where
    by_next : (r : Option QueueId) → IsNearest None rings queue r → IsNextOpen (joined core (rings_of rings) closed) queue r
    by_next None h = λ other lt. none_mapped rings other (h.1 other lt)
    by_next (Some n) h =
        let there : (queue.0 < n.0) × (is_some (ring_in rings n) ≡ true) = elim h.0 [ inl e ↦ absurd (cc) | inr e ↦ e ] in
        (there.0, ap is_some (ring_among rings n) ∙ some_mapped (ring_in rings n) there.1, λ other lt below. none_mapped rings other (h.2 other lt below))
