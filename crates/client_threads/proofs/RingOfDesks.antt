-- The ring of a queue among what the broker has.
use Rattle.std.proofs.Common.{◌≡◌, ℕ, suc, zero, true, false, Bool, List, [], ◌∷◌, map, refl, ap, ◌∙◌, sym, subst, eqb-true}
use Rattle.std.specs.Prelude.{Option, Some, None, option_map, ◌==◌, cond, slice_get}
use Rattle.std.specs.List.{find}
use Rattle.ring.specs.Passes.{RingSeen}
use Rattle.client_threads.specs.declared.broker.Desk.{Desk}
use Rattle.client_threads.specs.Desks.{seen, is_desk_of}
use Rattle.client_threads.specs.Rings.{AreApart, ring_of}

pub ring_of_desks : (queue : ℕ) (desks : List Desk) → ring_of queue (map seen desks) ≡ option_map (λ d. (seen d).ring) (find (is_desk_of queue) desks)
ring_of_desks queue [] = refl
ring_of_desks queue (d ∷ ds) =
    elim (is_desk_of queue d) as (λ b. option_map (λ r. r.ring) (cond b (Some (seen d)) (find (λ r. r.queue == queue) (map seen ds))) ≡ option_map (λ d. (seen d).ring) (cond b (Some d) (find (is_desk_of queue) ds))) [ true ↦ refl | false ↦ ring_of_desks queue ds ]

same_desk : (x d : Desk) → Some x ≡ Some d → x ≡ d
same_desk x d e = cc (e)

none_there : (d : Desk) → None ≡ Some d → ⊥
none_there d e = cc

-- the first is found, if it is of the queue
found_first : (queue : ℕ) (x : Desk) (xs : List Desk) → (x.queue.0 == queue) ≡ true → find (is_desk_of queue) (x ∷ xs) ≡ Some x
found_first queue x xs is = ap (λ b. cond b (Some x) (find (is_desk_of queue) xs)) is

not_both : (r : RingSeen) (o : Option RingSeen) → o ≡ None → o ≡ Some r → ⊥
not_both r o none some = cc

-- and what is found behind it, if it is of another
found_behind : (queue : ℕ) (x d : Desk) (xs : List Desk) → ring_of x.queue.0 (map seen xs) ≡ None → find (is_desk_of queue) xs ≡ Some d → find (is_desk_of queue) (x ∷ xs) ≡ Some d
found_behind queue x d xs apart behind = by_test (x.queue.0 == queue) refl
  where
    by_test : (b : Bool) → (x.queue.0 == queue) ≡ b → find (is_desk_of queue) (x ∷ xs) ≡ Some d
    by_test true e = absurd (not_both (seen d).ring (ring_of queue (map seen xs)) (subst (λ n. ring_of n (map seen xs) ≡ None) (eqb-true x.queue.0 queue e) apart) (ring_of_desks queue xs ∙ ap (option_map (λ y. (seen y).ring)) behind))
    by_test false e = ap (λ b. cond b (Some x) (find (is_desk_of queue) xs)) e ∙ behind

-- what stands somewhere among them and is of the queue is found first: no two are of one queue
pub found_at : (queue : ℕ) (desks : List Desk) (place : ℕ) (d : Desk) → AreApart (map seen desks) → slice_get desks place ≡ Some d → (d.queue.0 == queue) ≡ true → find (is_desk_of queue) desks ≡ Some d
found_at queue [] place d apart at is = absurd (none_there d at)
found_at queue (x ∷ xs) zero d apart at is = found_first queue x xs (subst (λ (y : Desk). (y.queue.0 == queue) ≡ true) (sym (same_desk x d at)) is) ∙ at
found_at queue (x ∷ xs) (suc place) d apart at is = found_behind queue x d xs apart.0 (found_at queue xs place d apart.1 at is)
