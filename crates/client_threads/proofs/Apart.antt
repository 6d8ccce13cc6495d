-- Rings of which no two are of one queue.
use Rattle.std.proofs.Common.{◌≡◌, ℕ, true, false, Bool, List, [], ◌∷◌, ◌++◌, refl, ap, ◌∙◌, sym, subst, eqb-true, eq-eqb}
use Rattle.std.specs.Prelude.{◌==◌, Some, None, option_map, cond}
use Rattle.std.specs.List.{find}
use Rattle.client_threads.specs.Rings.{AreApart, QueueRing, ring_of}

-- a queue without a ring among these has none at their head, and none behind
pub not_first : (queue : ℕ) (r : QueueRing) (rs : List QueueRing) → ring_of queue (r ∷ rs) ≡ None → ((r.queue == queue) ≡ false) × (ring_of queue rs ≡ None)
not_first queue r rs e = by_test (r.queue == queue) refl
  where
    R : Bool → Type 0
    R b = option_map (λ x. x.ring) (cond b (Some r) (find (λ x. x.queue == queue) rs)) ≡ None

    by_test : (b : Bool) → (r.queue == queue) ≡ b → ((r.queue == queue) ≡ false) × (ring_of queue rs ≡ None)
    by_test true is = let f : R true = subst R is e in absurd (cc)
    by_test false is = (is, subst R is e)

pub flipped : (a b : ℕ) → (a == b) ≡ false → (b == a) ≡ false
flipped a b e = by_test (b == a) refl
  where
    by_test : (c : Bool) → (b == a) ≡ c → (b == a) ≡ false
    by_test true is = let t : (a == b) ≡ true = eq-eqb _ _ (sym (eqb-true _ _ is)) in absurd (cc)
    by_test false is = is

none_more : (queue : ℕ) (r : QueueRing) (rs : List QueueRing) → (r.queue == queue) ≡ false → ring_of queue rs ≡ None → ring_of queue (rs ++ r ∷ []) ≡ None
none_more queue r [] ne none = ap (λ b. option_map (λ x. x.ring) (cond b (Some r) None)) ne
none_more queue r (x ∷ xs) ne none =
    let first = not_first queue x xs none in
    ap (λ b. option_map (λ y. y.ring) (cond b (Some x) (find (λ y. y.queue == queue) (xs ++ r ∷ [])))) first.0 ∙ none_more queue r xs ne first.1

-- a ring of a queue that had none
pub apart_more : (rs : List QueueRing) (r : QueueRing) → AreApart rs → ring_of r.queue rs ≡ None → AreApart (rs ++ r ∷ [])
apart_more [] r apart fresh = (refl, tt)
apart_more (x ∷ xs) r apart fresh =
    let first = not_first r.queue x xs fresh in
    (none_more x.queue r xs (flipped _ _ first.0) apart.0, apart_more xs r apart.1 first.1)
