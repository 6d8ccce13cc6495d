-- What the ring rule tells a seat that makes a step.
use Rattle.std.proofs.Common.{◌≡◌, ℕ, zero, suc, ◌+◌, ◌*◌, ◌%◌, ◌^◌, ◌<◌, true, List, [], ◌∷◌, length, get_or, refl, ap, ◌∙◌, sym, subst, arith, inl, inr, ◌⊎◌}
use Rattle.ring_core.specs.declared.access.Access.{Access}
use Rattle.ring_core.specs.declared.access.Access.TheVariants.{Reserve, RaiseReadIndex}
use Rattle.ring_core.specs.declared.part.SeatPart.{SeatPart}
use Rattle.ring_core.specs.declared.part.SeatPart.TheVariants.{Producer, Processor}
use Rattle.ring_core.specs.declared.part.ProcessorPart.{ProcessorPart}
use Rattle.ring_core.specs.Parts.{may_make, nobody}
use Rattle.aql_packet.specs.Ring.{is_ring_size}
use Rattle.ring_core.specs.Machine.{Machine, part_at, found, place_of, word_after, read_index, is_allowed, producers_of}
use Rattle.ring_core.specs.Rule.{AreSeats, IsRule, IsRing, processor_of}
use Rattle.ring_core.proofs.Kept.{producer_of, producers_all}
use Rattle.ring_core.proofs.Sizes.{producer_bounds, ring_size_bounds}
use Rattle.ring_core.proofs.States.{names_word, within, raises, fits_by}
use Rattle.ring_core.specs.Machine.{is_producer_count}
use Rattle.ring.specs.Places.{table_place}
use Rattle.ring.specs.Steps.{KnowsIndex}
use Rattle.ring.proofs.Places.{table_in}

seats_count : (n : ℕ) (parts : List SeatPart) → AreSeats n parts → length parts ≡ suc n
seats_count n [] seats = absurd seats
seats_count n (Producer p ∷ rest) seats = absurd seats
seats_count n (Processor p ∷ rest) seats = ap suc seats.0

-- a machine of few producers and slots that meets the rule is a ring state
pub ring_of : (n size : ℕ) (machine : Machine) → IsRule n machine → machine.size ≡ size → is_ring_size size ≡ true → is_producer_count n ≡ true → IsRing machine
ring_of n size machine rule sized fits count =
    let e : length machine.parts ≡ suc n = seats_count n machine.parts rule.shared.seats in
    let d : producers_of machine ≡ n = omega (arith, e) in
    record {
      rule = subst (λ (k : ℕ). IsRule k machine) (sym d) rule;
      few_producers = let f = (producer_bounds n count).1 in omega (arith, d, f);
      ring_size = ap is_ring_size sized ∙ fits;
    }

-- the processor's part is at seat 0 alone
pub processor_at : (n : ℕ) (parts : List SeatPart) (number : ℕ) (q : ProcessorPart) → AreSeats n parts → get_or parts number nobody ≡ Processor q → processor_of parts ≡ q
processor_at n [] number q seats e = absurd seats
processor_at n (Producer p ∷ rest) number q seats e = absurd seats
processor_at n (Processor p ∷ rest) zero q seats e = cc
processor_at n (Processor p ∷ rest) (suc number) q seats e =
    let p = producer_of (get_or rest number nobody) (producers_all rest number seats.1) in
    let f : Producer p.0 ≡ Processor q = sym p.1 ∙ e in
    absurd (cc)

-- so it knows the read index
pub index_of : (n : ℕ) (machine : Machine) (number : ℕ) (part : SeatPart) → IsRule n machine → part_at machine number ≡ part → KnowsIndex part (read_index machine)
index_of n machine number (Producer p) rule e = tt
index_of n machine number (Processor q) rule e =
    let is : processor_of machine.parts ≡ q = processor_at n machine.parts number q rule.shared.seats e in
    sym rule.tied.count ∙ ap (λ u. length u.retired) is

-- the place of an access is one of the table's words
pub inside : (size : ℕ) (part : SeatPart) (access : Access) (place : ℕ) → is_ring_size size ≡ true → may_make size part access ≡ true → ((index : ℕ) → KnowsIndex part index → place ≡ table_place (place_of size index access)) → place < 48 + 8 * size
inside size (Producer p) access place fits may lies = subst (λ (k : ℕ). k < 48 + 8 * size) (sym (lies 0 tt)) (table_in (place_of size 0 access) (8 * size) (within size 0 access (ring_size_bounds size fits).0 (names_word size (Producer p) access may)))
inside size (Processor q) access place fits may lies = subst (λ (k : ℕ). k < 48 + 8 * size) (sym (lies (length q.retired) refl)) (table_in (place_of size (length q.retired) access) (8 * size) (within size (length q.retired) access (ring_size_bounds size fits).0 (names_word size (Processor q) access may)))

-- an addition doesn't wrap
wraps_not : (n : ℕ) → n + 1 < 2 ^ 64 → (n + 1) % 2 ^ 64 ≡ n + 1
wraps_not n lt = omega arith

pub adds : (machine : Machine) (number : ℕ) (access : Access) → IsRing machine → is_allowed machine (record { seat = number; access = access }) ≡ true → (access ≡ Reserve) ⊎ (access ≡ RaiseReadIndex) → (found machine (record { seat = number; access = access }) + 1) % 2 ^ 64 ≡ word_after access (found machine (record { seat = number; access = access }))
adds machine number access ring may (inl e) = subst (λ (a : Access). (found machine (record { seat = number; access = a }) + 1) % 2 ^ 64 ≡ word_after a (found machine (record { seat = number; access = a }))) (sym e) (wraps_not _ (fits_by machine Reserve ring (λ r. absurd (cc))))
adds machine number access ring may (inr e) =
    let may' : is_allowed machine (record { seat = number; access = RaiseReadIndex }) ≡ true = subst (λ (a : Access). is_allowed machine (record { seat = number; access = a }) ≡ true) e may in
    subst (λ (a : Access). (found machine (record { seat = number; access = a }) + 1) % 2 ^ 64 ≡ word_after a (found machine (record { seat = number; access = a }))) (sym e)
    (wraps_not _ (fits_by machine RaiseReadIndex ring (λ r. raises (producers_of machine) machine.size machine.parts number ring.rule.shared.seats may')))
