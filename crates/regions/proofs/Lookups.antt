-- The regions by their numbers, their lengths, and the refusals of a range.
use Rattle.std.proofs.Common.{◌≡◌, ℕ, zero, suc, ◌+◌, ◌-◌, ◌<◌, ◌≤◌, nat_lt, List, [], ◌∷◌, length, map, get_or, slice_get, Option, Some, None, unwrap_or, refl, ap, ◌∙◌, arith}
use Rattle.std.proofs.lemmas.Option.{unwrap_or-slice_get}
use Rattle.std.proofs.lemmas.Bool.{lt-ltb, le-ltb, le-leb, lt-leb, cond-true, cond-false, and_from, and_right}
use Rattle.regions.specs.declared.fault.RegionFault.TheVariants.{NoRegion, PastEnd}
use Rattle.regions.specs.Memory.{region_of, offset_of, region_bytes, region_length, lengths_of, lies_in_region, is_within}
use Rattle.regions.specs.Faults.{range_fault}
use Rattle.regions.specs.Place.{length_of_region}

-- the length of a region is the number of its bytes
pub region_length-is :
    (regions : List (List ℕ)) (number : ℕ) →
    region_length (lengths_of regions) number ≡ length (region_bytes regions number)
region_length-is regions zero = refl
region_length-is regions (suc k) = get_or-lengths regions k
  where
    get_or-lengths : (rs : List (List ℕ)) (n : ℕ) → get_or (map length rs) n 0 ≡ length (get_or rs n [])
    get_or-lengths [] n = refl
    get_or-lengths (r ∷ rs) zero = refl
    get_or-lengths (r ∷ rs) (suc n) = get_or-lengths rs n

-- the length of a region, or 0 where there is none
pub unwrap_or-length_of_region :
    (lengths : List ℕ) (number : ℕ) →
    unwrap_or (length_of_region lengths number) 0 ≡ region_length lengths number
unwrap_or-length_of_region lengths zero = refl
unwrap_or-length_of_region lengths (suc k) =
    ap (λ (o : Option ℕ). unwrap_or o 0) (cond-true (nat_lt 0 (suc k)) (slice_get lengths (suc k - 1)) None (lt-ltb 0 (suc k) (omega arith)))
    ∙ (let e : suc k - 1 ≡ k = omega arith in rw e (unwrap_or-slice_get lengths k 0))

-- an address at or past the length of its region is in no region
pub range_fault-no_region :
    (lengths : List ℕ) (address size : ℕ) →
    region_length lengths (region_of address) ≤ offset_of address →
    range_fault lengths address size ≡ Some NoRegion
range_fault-no_region lengths address size past =
    cond-false (lies_in_region lengths address) _ _ (le-ltb _ _ past)

-- a range from an address in a region, longer than what is left of it
pub range_fault-past_end :
    (lengths : List ℕ) (address size : ℕ) →
    offset_of address < region_length lengths (region_of address) →
    region_length lengths (region_of address) < offset_of address + size →
    range_fault lengths address size ≡ Some PastEnd
range_fault-past_end lengths address size inside past =
    cond-true (lies_in_region lengths address) _ _ (lt-ltb _ _ inside)
    ∙ cond-false (is_within lengths address size) _ _ (and_right _ _ (lt-leb _ _ past))

-- a range within a region is not refused
pub range_fault-none :
    (lengths : List ℕ) (address size : ℕ) →
    offset_of address < region_length lengths (region_of address) →
    offset_of address + size ≤ region_length lengths (region_of address) →
    range_fault lengths address size ≡ None
range_fault-none lengths address size inside ends =
    cond-true (lies_in_region lengths address) _ _ (lt-ltb _ _ inside)
    ∙ cond-true (is_within lengths address size) _ _ (and_from _ _ (lt-ltb _ _ inside) (le-leb _ _ ends))
