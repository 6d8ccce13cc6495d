-- Accesses by the region that has all their bytes, and may be accessed.
use Rattle.std.proofs.Common.{◌≡◌, ◌∙◌, ℕ, ◌+◌, ◌%◌, ◌&&◌, ◌<◌, ◌≤◌, refl, sym, ap, arith, subst, Bool, true, false, List, Option, Some, None, length, take, drop}
use Rattle.std.proofs.lemmas.List.{length-drop, length-take-le}
use Rattle.std.specs.Prelude.{option_map, Ok, nat_le, nat_lt, not, if◌then◌else◌}
use Rattle.std.proofs.lemmas.Bool.Decides.{nat_tests}
use Rattle.aql_packet.specs.Memory.{region_span}
use Rattle.policy.specs.Rights.{has}
use Rattle.policy.specs.declared.rights.Right.{Right}
use Rattle.policy.specs.declared.rights.Right.TheVariants.{Read, Write}
use Rattle.queue_error.specs.declared.rule.Rule.{Rule}
use Rattle.queue_error.specs.declared.rule.Rule.TheVariants.{A1, A2, A3}
use Rattle.byteorder.specs.Endian.{little_number}
use Rattle.executor.specs.Accesses.{atomic_broken, atomic_broken_in, broken_in, lent, lent_in, or_misaligned, region_of, unless_broken}
use Rattle.executor.specs.Items.{lent_region, LentRegion}
use Rattle.executor.specs.declared.held.HeldRegion.{HeldRegion}
use Rattle.executor.specs.inner.Places.{if_reached}
use Rattle.executor.specs.inner.Found.{global_number}
use Rattle.executor.specs.inner.Words.{IsWhole}
use Rattle.executor.specs.Written.{seen}
use Rattle.executor.specs.inner.Whole.{allowed_in, atomic_broken_first, broken_first}

-- the region that may be accessed as a whole among those that are held is the one among those that are lent
pub allowed_lent : (right : Right) (o : Option HeldRegion) (address n : ℕ) → option_map lent_region (if_reached right (address % region_span) n o) ≡ allowed_in right (option_map lent_region o) address n
allowed_lent right None address n = refl
allowed_lent right (Some r) address n = by_test (has r.rights right && nat_le (address % region_span + n) (length r.bytes.now))
  where
    by_test : (b : Bool) → option_map lent_region (if b then Some r else None) ≡ (if b then Some (lent_region r) else None)
    by_test true = refl
    by_test false = refl

-- an access that is allowed breaks no rule, and its bytes are the region's
pub allowed_is : (right : Right) (o : Option LentRegion) (address n : ℕ) (region : LentRegion) → Some region ≡ allowed_in right o address n
    → (broken_in o right address n ≡ None) × (lent_in o address n ≡ take n (drop (address % region_span) region.bytes)) × (address % region_span + n ≤ length region.bytes)
allowed_is right None address n region is = absurd cc
allowed_is right (Some r) address n region is = by_tests (has r.rights right) (nat_le (address % region_span + n) (length r.bytes)) refl is
  where
    by_tests : (b whole : Bool) → nat_le (address % region_span + n) (length r.bytes) ≡ whole → Some region ≡ (if b && whole then Some r else None)
        → ((if not b then Some A2 else if not whole then Some A3 else None) ≡ None) × (take n (drop (address % region_span) r.bytes) ≡ take n (drop (address % region_span) region.bytes))
        × (address % region_span + n ≤ length region.bytes)
    by_tests false whole fits it = absurd cc
    by_tests true false fits it = absurd cc
    by_tests true true fits it =
        let same : region ≡ r = cc in
        (refl, ap (λ (q : LentRegion). take n (drop (address % region_span) q.bytes)) (sym same), rw same (grind (arith, nat_tests, fits)))

-- one that isn't breaks a rule
pub refused_is : (right : Right) (o : Option LentRegion) (address n : ℕ) → None ≡ allowed_in right o address n → broken_in o right address n ≡ Some (broken_first o right)
refused_is right None address n is = refl
refused_is right (Some r) address n is = by_tests (has r.rights right) (nat_le (address % region_span + n) (length r.bytes)) is
  where
    by_tests : (b whole : Bool) → None ≡ (if b && whole then Some r else None)
        → (if not b then Some A2 else if not whole then Some A3 else None) ≡ Some (if b then A3 else A2)
    by_tests false whole it = refl
    by_tests true false it = refl
    by_tests true true it = absurd cc

-- ---- atomic accesses

-- the region in which an atomic access may take place
abbrev pub changeable_in : Option LentRegion → ℕ → ℕ → Option LentRegion
changeable_in o address n = allowed_in Write (allowed_in Read o address n) address n

-- one that may take place breaks no rule but by its address, and its bytes are the region's
pub changeable_is : (o : Option LentRegion) (address n : ℕ) (region : LentRegion) → Some region ≡ changeable_in o address n
    → (atomic_broken_in o address n ≡ or_misaligned None address n) × (lent_in o address n ≡ take n (drop (address % region_span) region.bytes)) × (address % region_span + n ≤ length region.bytes)
changeable_is None address n region is = absurd cc
changeable_is (Some r) address n region is = by_read (has r.rights Read && nat_le (address % region_span + n) (length r.bytes)) refl is
  where
    read_is : (b whole : Bool) → (b && whole) ≡ true → b ≡ true
    read_is true whole it = refl
    read_is false whole it = absurd cc

    by_read : (b : Bool) → (has r.rights Read && nat_le (address % region_span + n) (length r.bytes)) ≡ b → Some region ≡ allowed_in Write (if b then Some r else None) address n
        → (atomic_broken_in (Some r) address n ≡ or_misaligned None address n) × (take n (drop (address % region_span) r.bytes) ≡ take n (drop (address % region_span) region.bytes))
        × (address % region_span + n ≤ length region.bytes)
    by_read false fits it = absurd cc
    by_read true fits it =
        let write = allowed_is Write (Some r) address n region it in
        let read : has r.rights Read ≡ true = read_is (has r.rights Read) (nat_le (address % region_span + n) (length r.bytes)) fits in
        (rw read (ap (λ o. or_misaligned o address n) write.0), write.1, write.2)

-- one that may not breaks a rule
pub unchangeable_is : (o : Option LentRegion) (address n : ℕ) → None ≡ changeable_in o address n → atomic_broken_in o address n ≡ Some (atomic_broken_first o)
unchangeable_is None address n is = refl
unchangeable_is (Some r) address n is = by_tests (has r.rights Read) (has r.rights Write) (nat_le (address % region_span + n) (length r.bytes)) refl refl refl is
  where
    by_tests : (read write whole : Bool) → has r.rights Read ≡ read → has r.rights Write ≡ write → nat_le (address % region_span + n) (length r.bytes) ≡ whole
        → None ≡ allowed_in Write (if read && whole then Some r else None) address n
        → (if read then or_misaligned (if not write then Some A2 else if not whole then Some A3 else None) address n else Some A2) ≡ Some (if read && write then A3 else A2)
    by_tests false write whole a b c it = refl
    by_tests true false whole a b c it = refl
    by_tests true true false a b c it = refl
    by_tests true true true a b c it =
        let known : None ≡ (if true && true then Some r else None) = subst (λ w. None ≡ (if w && true then Some r else None)) b (subst (λ f. None ≡ (if has r.rights Write && f then Some r else None)) c it) in
        absurd cc

-- a number whose bytes are all written is the one that an atomic access finds, if it may take place
pub known_found : (view : List LentRegion) (written : ℕ → Option ℕ) (address n number : ℕ) (region : LentRegion) → Some region ≡ changeable_in (region_of view address) address n
    → address % n ≡ 0 → IsWhole written address n number → global_number view written address n ≡ Ok number
known_found view written address n number region is aligned whole =
    let known = changeable_is (region_of view address) address n region is in
    let below = lent view address n in
    let long : length below ≡ n = ap length known.1 ∙ length-take-le n (drop (address % region_span) region.bytes) (omega (arith, known.2, length-drop (address % region_span) region.bytes)) in
    let allowed : atomic_broken view address n ≡ None = known.0 ∙ rw aligned refl in
    let same : number ≡ little_number n (seen written address below) = whole below long ∙ ap (λ k. little_number k (seen written address below)) long in
    ap (λ o. unless_broken o (little_number n (seen written address below))) allowed ∙ ap Ok (sym same)
