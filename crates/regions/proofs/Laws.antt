-- What layers above cite of a memory: by its addresses, whatever its regions.
use Rattle.std.proofs.Common.{◌≡◌, ℕ, zero, suc, ◌+◌, ◌-◌, ◌*◌, ◌^◌, ◌<◌, ◌≤◌, Bool, true, false, cond, List, [], ◌∷◌, length, get_or, drop, replicate, slice_get, Some, None, refl, sym, ap, ◌∙◌, arith, inl, inr}
use Rattle.std.proofs.lemmas.Bool.{lt-ltb, le-leb, ltb-true, ltb-false, leb-true, and_parts, and_from, cond-true, cases_lt}
use Rattle.std.proofs.lemmas.List.{length-drop, length-map, length-replicate, length-take-le, get_or-take, get_or-drop, get_or-replicate, get_or_past, get_or_default, same_lists}
use Rattle.std.proofs.lemmas.Option.{none-some, slice_get-get_or, slice_get_past, slice_get_within, get_or_from_slice_get}
use Rattle.aql_packet.specs.Memory.{covers}
use Rattle.regions.specs.Memory.{region_of, offset_of, region_bytes, region_length, byte_at, bytes_from, lengths_of, lies_in_region, is_within, zeros, IsWithin, IsMemory, IsWritten}
use Rattle.regions.specs.declared.fault.RegionFault.TheVariants.{NoRegion, PastEnd}
use Rattle.regions.specs.Faults.{range_fault}
use Rattle.regions.proofs.Lookups.{region_length-is}

-- ---- ranges and lengths

-- the test by lengths says that a range lies whole in one region
pub IsWithin-from_test :
    (regions : List (List ℕ)) (address size : ℕ) →
    is_within (lengths_of regions) address size ≡ true → IsWithin regions address size
IsWithin-from_test regions address size test =
    let both = and_parts (lies_in_region (lengths_of regions) address) _ test in
    let e = region_length-is regions (region_of address) in
    let begins : offset_of address < region_length (lengths_of regions) (region_of address) = ltb-true _ _ both.0 in
    let ends : offset_of address + size ≤ region_length (lengths_of regions) (region_of address) = leb-true _ _ both.1 in
    record { begins = omega (arith, e, begins); ends = omega (arith, e, ends) }

-- and the other way
pub test-from_IsWithin :
    (regions : List (List ℕ)) (address size : ℕ) → IsWithin regions address size →
    is_within (lengths_of regions) address size ≡ true
test-from_IsWithin regions address size within =
    let e = region_length-is regions (region_of address) in
    let begins : offset_of address < region_length (lengths_of regions) (region_of address) = omega (arith, e, within.begins) in
    let ends : offset_of address + size ≤ region_length (lengths_of regions) (region_of address) = omega (arith, e, within.ends) in
    and_from _ _ (lt-ltb _ _ begins) (le-leb _ _ ends)

-- a range that is not refused lies whole in one region
pub is_within-from_no_fault :
    (lengths : List ℕ) (address size : ℕ) → range_fault lengths address size ≡ None →
    is_within lengths address size ≡ true
is_within-from_no_fault lengths address size none =
    answered (lies_in_region lengths address) (is_within lengths address size) none
  where
    answered : (lies within : Bool) → cond lies (cond within None (Some PastEnd)) (Some NoRegion) ≡ None → within ≡ true
    answered true true e = refl
    answered true false e = absurd (none-some PastEnd (sym e))
    answered false within e = absurd (none-some NoRegion (sym e))

-- and one that does is not refused
pub no_fault-from_is_within :
    (lengths : List ℕ) (address size : ℕ) → is_within lengths address size ≡ true →
    range_fault lengths address size ≡ None
no_fault-from_is_within lengths address size test =
    let lies = and_parts (lies_in_region lengths address) _ test in
    cond-true (lies_in_region lengths address) _ _ lies.0 ∙ cond-true (is_within lengths address size) _ _ test

-- regions of the same lengths hold the same ranges
pub IsWithin-same_lengths :
    (old new : List (List ℕ)) (address size : ℕ) → lengths_of new ≡ lengths_of old →
    IsWithin old address size → IsWithin new address size
IsWithin-same_lengths old new address size e within =
    IsWithin-from_test new address size
    (ap (λ (lengths : List ℕ). is_within lengths address size) e ∙ test-from_IsWithin old address size within)

-- no region is longer than 2^24 bytes
pub length-region_bytes :
    (regions : List (List ℕ)) (number : ℕ) → IsMemory regions →
    length (region_bytes regions number) ≤ 2 ^ 24
length-region_bytes regions zero memory = omega arith
length-region_bytes regions (suc k) memory =
    elim (cases_lt k (length regions)) [
      | inl known ↦ (memory.lengths k [] known).1
      | inr past ↦ let e = ap length (get_or_past regions k [] past) in omega (arith, e)
    ]

-- a memory that was never written has the lengths that it was made with
pub lengths_of-zeros : (lengths : List ℕ) → lengths_of (zeros lengths) ≡ lengths
lengths_of-zeros [] = refl
lengths_of-zeros (n ∷ ns) =
    ap (λ (m : ℕ). m ∷ lengths_of (zeros ns)) (length-replicate n zero) ∙ ap (λ (ms : List ℕ). n ∷ ms) (lengths_of-zeros ns)

-- ---- single bytes

-- an address that lies in a region has a byte
pub byte_at-inside :
    (regions : List (List ℕ)) (address : ℕ) → lies_in_region (lengths_of regions) address ≡ true →
    byte_at regions address ≡ Some (get_or (region_bytes regions (region_of address)) (offset_of address) 0)
byte_at-inside regions address test =
    let e = region_length-is regions (region_of address) in
    let inside : offset_of address < region_length (lengths_of regions) (region_of address) = ltb-true _ _ test in
    slice_get-get_or (region_bytes regions (region_of address)) (offset_of address) 0 (omega (arith, e, inside))

-- any other has none
pub byte_at-outside :
    (regions : List (List ℕ)) (address : ℕ) →
    lies_in_region (lengths_of regions) address ≡ false → byte_at regions address ≡ None
byte_at-outside regions address test =
    let e = region_length-is regions (region_of address) in
    let past : region_length (lengths_of regions) (region_of address) ≤ offset_of address = ltb-false _ _ test in
    slice_get_past (region_bytes regions (region_of address)) (offset_of address) (omega (arith, e, past))

-- each byte of a memory is below 256
pub byte_at-below :
    (regions : List (List ℕ)) (address byte : ℕ) → IsMemory regions →
    byte_at regions address ≡ Some byte → byte < 256
byte_at-below regions address byte memory is =
    let at : offset_of address < length (region_bytes regions (region_of address)) = slice_get_within (region_bytes regions (region_of address)) (offset_of address) byte is in
    let e = get_or_from_slice_get (region_bytes regions (region_of address)) (offset_of address) byte 0 is in
    let small = small_in regions (region_of address) (offset_of address) memory at in
    omega (arith, e, small)
  where
    small_in : (rs : List (List ℕ)) (number offset : ℕ) → IsMemory rs → offset < length (region_bytes rs number) → get_or (region_bytes rs number) offset 0 < 256
    small_in rs zero offset m inside = absurd (omega (arith, inside))
    small_in rs (suc k) offset m inside =
        elim (cases_lt k (length rs)) [
          | inl known ↦ m.bytes k [] known offset 0 inside
          | inr past ↦ let f = ap length (get_or_past rs k [] past) in absurd (omega (arith, f, inside))
        ]

-- in a memory that was never written each byte is 0
pub byte_at-zeros :
    (lengths : List ℕ) (address : ℕ) → lies_in_region lengths address ≡ true →
    byte_at (zeros lengths) address ≡ Some 0
byte_at-zeros lengths address test =
    let bytes = replicate (region_length lengths (region_of address)) zero in
    let inside : offset_of address < region_length lengths (region_of address) = ltb-true _ _ test in
    let long : length bytes ≡ region_length lengths (region_of address) = length-replicate (region_length lengths (region_of address)) zero in
    ap (λ (own : List ℕ). slice_get own (offset_of address)) (region_bytes-zeros lengths (region_of address))
    ∙ slice_get-get_or bytes (offset_of address) 0 (omega (arith, long, inside))
    ∙ ap (λ (b : ℕ). Some b) (get_or-replicate (region_length lengths (region_of address)) (offset_of address) zero 0 inside)
  where
    at_index : (ns : List ℕ) (k : ℕ) → get_or (zeros ns) k [] ≡ replicate (get_or ns k 0) zero
    at_index [] k = refl
    at_index (n ∷ ns) zero = refl
    at_index (n ∷ ns) (suc k) = at_index ns k

    region_bytes-zeros : (ns : List ℕ) (number : ℕ) → region_bytes (zeros ns) number ≡ replicate (region_length ns number) zero
    region_bytes-zeros ns zero = refl
    region_bytes-zeros ns (suc k) = at_index ns k

-- ---- ranges of bytes

-- a range has as many bytes as asked for
pub length-bytes_from :
    (regions : List (List ℕ)) (address size : ℕ) → IsWithin regions address size →
    length (bytes_from regions address size) ≡ size
length-bytes_from regions address size within =
    let own = region_bytes regions (region_of address) in
    length-take-le size (drop (offset_of address) own) (omega (arith, length-drop (offset_of address) own, within.begins, within.ends))

-- each byte of a range is that of its address
pub slice_get-bytes_from :
    (regions : List (List ℕ)) (address size k : ℕ) → IsMemory regions →
    IsWithin regions address size → k < size →
    slice_get (bytes_from regions address size) k ≡ byte_at regions (address + k)
slice_get-bytes_from regions address size k memory within below =
    let own = region_bytes regions (region_of address) in
    let bound : length own ≤ 2 ^ 24 = length-region_bytes regions (region_of address) memory in
    let long = length-bytes_from regions address size within in
    let ends : offset_of address + size ≤ length own = within.ends in
    let region : region_of (address + k) ≡ region_of address = omega (arith, bound, ends, below) in
    let offset : offset_of (address + k) ≡ offset_of address + k = omega (arith, bound, ends, below) in
    slice_get-get_or (bytes_from regions address size) k 0 (omega (arith, long, below))
    ∙ ap (λ (b : ℕ). Some b) (get_or-take size (drop (offset_of address) own) k 0 below ∙ get_or-drop (offset_of address) own k 0)
    ∙ sym (slice_get-get_or own (offset_of address + k) 0 (omega (arith, ends, below)))
    ∙ ap (λ (o : ℕ). slice_get own o) (sym offset)
    ∙ ap (λ (number : ℕ). slice_get (region_bytes regions number) (offset_of (address + k))) (sym region)

-- two lists of the same length are one where they agree at each index
same_bytes :
    (xs ys : List ℕ) → length xs ≡ length ys →
    ((k : ℕ) → k < length ys → slice_get xs k ≡ slice_get ys k) → xs ≡ ys
same_bytes xs ys long agree =
    same_lists xs ys long
    (λ k d h.
    let below : k < length ys = omega (arith, h, long) in
    get_or_from_slice_get xs k (get_or ys k d) d (agree k below ∙ slice_get-get_or ys k d below))

-- the bytes of a range are determined by the byte at each of its addresses
pub bytes_from-same :
    (old new : List (List ℕ)) (address size : ℕ) → IsMemory old → IsMemory new →
    IsWithin old address size → IsWithin new address size →
    ((x : ℕ) → address ≤ x → x < address + size → byte_at new x ≡ byte_at old x) →
    bytes_from new address size ≡ bytes_from old address size
bytes_from-same old new address size memory memory' within within' agree =
    let long = length-bytes_from old address size within in
    let long' = length-bytes_from new address size within' in
    same_bytes (bytes_from new address size) (bytes_from old address size) (long' ∙ sym long)
    (λ k h.
    let below : k < size = omega (arith, h, long) in
    slice_get-bytes_from new address size k memory' within' below
    ∙ agree (address + k) (omega arith) (omega (arith, below))
    ∙ sym (slice_get-bytes_from old address size k memory within below))

-- what was written is what is read there
pub bytes_from-written :
    (old new : List (List ℕ)) (address : ℕ) (bytes : List ℕ) → IsMemory new →
    IsWithin new address (length bytes) → IsWritten old address bytes new →
    bytes_from new address (length bytes) ≡ bytes
bytes_from-written old new address bytes memory within written =
    same_bytes (bytes_from new address (length bytes)) bytes (length-bytes_from new address (length bytes) within)
    (λ k h.
    let back : address + k - address ≡ k = omega arith in
    slice_get-bytes_from new address (length bytes) k memory within h
    ∙ written (address + k)
    ∙ cond-true (covers address (length bytes) (address + k)) _ _
    (and_from _ _ (le-leb address (address + k) (omega arith)) (lt-ltb (address + k) (address + length bytes) (omega (arith, h))))
    ∙ ap (λ (n : ℕ). slice_get bytes n) back)

-- a memory is determined by its regions' lengths and the byte at each address
pub same_memory :
    (old new : List (List ℕ)) → IsMemory old → lengths_of new ≡ lengths_of old →
    ((x : ℕ) → byte_at new x ≡ byte_at old x) → new ≡ old
same_memory old new memory lengths agree =
    let count : length new ≡ length old = sym (length-map new length) ∙ ap length lengths ∙ length-map old length in
    let each : (k : ℕ) → k < length old → get_or new k [] ≡ get_or old k [] =
    λ (k : ℕ) (h : k < length old).
    let long : length (get_or new k []) ≡ length (get_or old k []) =
    sym (region_length-is new (suc k)) ∙ ap (λ (ls : List ℕ). region_length ls (suc k)) lengths ∙ region_length-is old (suc k) in
    same_bytes (get_or new k []) (get_or old k []) long
    (λ j i.
    let short : length (get_or old k []) ≤ 2 ^ 24 = (memory.lengths k [] h).1 in
    let x = suc k * 2 ^ 32 + j in
    let region : region_of x ≡ suc k = omega (arith, short, i) in
    let offset : offset_of x ≡ j = omega (arith, short, i) in
    ap (λ (o : ℕ). slice_get (region_bytes new (suc k)) o) (sym offset)
    ∙ ap (λ (n : ℕ). slice_get (region_bytes new n) (offset_of x)) (sym region)
    ∙ agree x
    ∙ ap (λ (n : ℕ). slice_get (region_bytes old n) (offset_of x)) region
    ∙ ap (λ (o : ℕ). slice_get (region_bytes old (suc k)) o) offset) in
    same_lists new old count
    (λ k d h.
    let known : k < length old = omega (arith, h, count) in
    get_or_default new k d [] h ∙ each k known ∙ get_or_default old k [] d known)
