-- The bounds of rings; their sizes are powers of two, so that a mask finds a packet's slot.
use Rattle.std.proofs.Common.{◌≡◌, ℕ, ◌-◌, ◌%◌, ◌^◌, ◌<◌, ◌≤◌, true, List, [], ◌∷◌, map, arith, inl, inr, sym, ap, subst, ◌∙◌, ◌||◌}
use Rattle.std.specs.Prelude.{◌==◌}
use Rattle.std.specs.Int.Bits.{bit_and}
use Rattle.std.specs.List.{list_any}
use Rattle.std.proofs.lemmas.Bool.Decides.{nat_tests, eqb_tells}
use Rattle.std.proofs.lemmas.Nat.{and_mask}
use Rattle.aql_packet.specs.Ring.{is_ring_size}
use Rattle.ring_core.specs.Machine.{is_producer_count}

pub ring_size_bounds : (size : ℕ) → is_ring_size size ≡ true → (0 < size) × (size ≤ 4096)
ring_size_bounds size h = grind (arith, nat_tests)

pub producer_bounds : (producers : ℕ) → is_producer_count producers ≡ true → (1 ≤ producers) × (producers ≤ 16)
producer_bounds producers h = grind (arith, nat_tests)

-- what is among some powers of two is one of them
power_of : (exponents : List ℕ) (size : ℕ) → list_any (λ s. s == size) (map (λ k. 2 ^ k) exponents) ≡ true → (k : ℕ) × (size ≡ 2 ^ k)
power_of [] size h = absurd (cc)
power_of (k ∷ exponents) size h =
    elim (eqb_tells (2 ^ k) size) [
      | inl same ↦ (k, sym same.1)
      | inr other ↦ power_of exponents size (subst (λ b. (b || list_any (λ s. s == size) (map (λ k. 2 ^ k) exponents)) ≡ true) other.0 h)
    ]

exponent_of : (size : ℕ) → is_ring_size size ≡ true → (k : ℕ) × (size ≡ 2 ^ k)
exponent_of size h = power_of (1 ∷ 2 ∷ 3 ∷ 4 ∷ 5 ∷ 6 ∷ 7 ∷ 8 ∷ 9 ∷ 10 ∷ 11 ∷ 12 ∷ []) size h

pub mask_is_remainder : (size id : ℕ) → is_ring_size size ≡ true → bit_and id (size - 1) ≡ id % size
mask_is_remainder size id h =
    let k = exponent_of size h in
    ap (λ s. bit_and id (s - 1)) k.1 ∙ and_mask id k.0 ∙ sym (ap (λ s. id % s) k.1)
