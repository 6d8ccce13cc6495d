-- From bytes laid over one region to what each address has then.
use Rattle.std.proofs.Common.{◌≡◌, ◌≢◌, ℕ, zero, suc, ◌+◌, ◌-◌, ◌^◌, ◌<◌, ◌≤◌, Bool, false, cond, List, [], ◌++◌, length, get_or, set, take, drop, slice_get, replicate, Some, refl, sym, ap, ◌∙◌, arith, All, Fits, w8, inl, inr}
use Rattle.std.proofs.lemmas.Bool.{lt-ltb, le-ltb, le-leb, lt-leb, cond-true, cond-false, and_from, and_left, and_right, cases_lt, cases_eq}
use Rattle.std.proofs.lemmas.List.Elements.{All-from_get_or, All-replicate, All-take, All-drop}
use Rattle.std.proofs.lemmas.List.{length-drop, length-set, take_at, get_or-take, get_or-drop, get_or_append_left, get_or-append_right, length-take-le, get_or-set_same, get_or-set_other, get_or_read}
use Rattle.std.proofs.lemmas.Option.{slice_get-get_or, slice_get_past}
use Rattle.regions.specs.declared.regions.RegionPlace.{RegionPlace}
use Rattle.aql_packet.specs.Memory.{covers}
use Rattle.regions.specs.Memory.{region_of, offset_of, region_bytes, bytes_from, overlaid, lengths_of, IsMemory, IsWritten}
use Rattle.regions.specs.Place.{IsPlaceOf, laid_at}
use Rattle.regions.proofs.Invariant.{length-overlaid, lengths_of-laid_at, IsMemory-laid_at}

-- a byte of bytes laid over others
get_or-overlaid-inside :
    (bytes : List ℕ) (offset : ℕ) (patch : List ℕ) (k : ℕ) → offset ≤ length bytes → offset ≤ k →
    k < offset + length patch →
    get_or (overlaid bytes offset patch) k 0 ≡ get_or patch (k - offset) 0
get_or-overlaid-inside bytes offset patch k fits low high =
    get_or-append_right (take offset bytes) (patch ++ drop (offset + length patch) bytes) offset k 0 (length-take-le offset bytes fits) low
    ∙ get_or_append_left patch (drop (offset + length patch) bytes) 0 (k - offset) (omega arith)

-- a byte below them
get_or-overlaid-below :
    (bytes : List ℕ) (offset : ℕ) (patch : List ℕ) (k : ℕ) → offset ≤ length bytes → k < offset →
    get_or (overlaid bytes offset patch) k 0 ≡ get_or bytes k 0
get_or-overlaid-below bytes offset patch k fits low =
    let l : length (take offset bytes) ≡ offset = length-take-le offset bytes fits in
    get_or_append_left (take offset bytes) (patch ++ drop (offset + length patch) bytes) 0 k (omega arith)
    ∙ get_or-take offset bytes k 0 low

-- a byte above them
get_or-overlaid-above :
    (bytes : List ℕ) (offset : ℕ) (patch : List ℕ) (k : ℕ) → offset ≤ length bytes →
    offset + length patch ≤ k → get_or (overlaid bytes offset patch) k 0 ≡ get_or bytes k 0
get_or-overlaid-above bytes offset patch k fits high =
    get_or-append_right (take offset bytes) (patch ++ drop (offset + length patch) bytes) offset k 0 (length-take-le offset bytes fits) (omega arith)
    ∙ get_or-append_right patch (drop (offset + length patch) bytes) (length patch) (k - offset) 0 refl (omega arith)
    ∙ get_or-drop (offset + length patch) bytes (k - offset - length patch) 0
    ∙ ap (λ (n : ℕ). get_or bytes n 0) (omega arith)

-- the bytes laid over others lie from their offset on, and the others are as before
pub slice_get-overlaid :
    (bytes : List ℕ) (offset : ℕ) (patch : List ℕ) (k : ℕ) →
    offset + length patch ≤ length bytes →
    slice_get (overlaid bytes offset patch) k ≡ cond (covers offset (length patch) k) (slice_get patch (k - offset)) (slice_get bytes k)
slice_get-overlaid bytes offset patch k fits =
    let all = overlaid bytes offset patch in
    let l : length all ≡ length bytes = length-overlaid bytes offset patch fits in
    elim (cases_lt k offset) [
      | inl below ↦
          slice_get-get_or all k 0 (omega arith)
          ∙ ap (λ (b : ℕ). Some b) (get_or-overlaid-below bytes offset patch k (omega arith) below)
          ∙ sym (slice_get-get_or bytes k 0 (omega arith))
          ∙ sym (cond-false (covers offset (length patch) k) (slice_get patch (k - offset)) (slice_get bytes k) (and_left _ _ (lt-leb offset k below)))
      | inr from ↦ elim (cases_lt k (offset + length patch)) [
        | inl inside ↦
            slice_get-get_or all k 0 (omega arith)
            ∙ ap (λ (b : ℕ). Some b) (get_or-overlaid-inside bytes offset patch k (omega arith) from inside)
            ∙ sym (slice_get-get_or patch (k - offset) 0 (omega arith))
            ∙ sym (cond-true (covers offset (length patch) k) (slice_get patch (k - offset)) (slice_get bytes k) (and_from _ _ (le-leb offset k from) (lt-ltb k (offset + length patch) inside)))
        | inr above ↦ elim (cases_lt k (length bytes)) [
          | inl known ↦
              slice_get-get_or all k 0 (omega arith)
              ∙ ap (λ (b : ℕ). Some b) (get_or-overlaid-above bytes offset patch k (omega arith) above)
              ∙ sym (slice_get-get_or bytes k 0 known)
              ∙ sym (cond-false (covers offset (length patch) k) (slice_get patch (k - offset)) (slice_get bytes k) (and_right _ _ (le-ltb k (offset + length patch) above)))
          | inr past ↦
              slice_get_past all k (omega arith)
              ∙ sym (slice_get_past bytes k past)
              ∙ sym (cond-false (covers offset (length patch) k) (slice_get patch (k - offset)) (slice_get bytes k) (and_right _ _ (le-ltb k (offset + length patch) above)))
        ]
      ]
    ]

-- a region's bytes, by its index in the list
region_bytes-at :
    (regions : List (List ℕ)) (index number : ℕ) → index + 1 ≡ number →
    region_bytes regions number ≡ get_or regions index []
region_bytes-at regions index number e =
    let n : number ≡ suc index = omega arith in rw n refl

-- a change of one region leaves the others
region_bytes-other :
    (regions : List (List ℕ)) (index : ℕ) (bytes : List ℕ) (number : ℕ) → index + 1 ≢ number →
    region_bytes (set regions index bytes) number ≡ region_bytes regions number
region_bytes-other regions index bytes zero other = refl
region_bytes-other regions index bytes (suc k) other = get_or-set_other regions index k bytes [] (omega arith)

-- a range lies in one region: an address of it has the same region, and any other of that region is apart by its offset
covers-offset :
    (address size x : ℕ) → region_of x ≡ region_of address →
    covers address size x ≡ covers (offset_of address) size (offset_of x)
covers-offset address size x same = elim (cases_lt x address) [
  | inl below ↦ and_left _ _ (lt-leb address x below) ∙ sym (and_left _ _ (lt-leb (offset_of address) (offset_of x) (omega arith)))
  | inr from ↦ elim (cases_lt x (address + size)) [
    | inl inside ↦
        and_from _ _ (le-leb address x from) (lt-ltb x (address + size) inside)
        ∙ sym (and_from _ _ (le-leb (offset_of address) (offset_of x) (omega arith)) (lt-ltb (offset_of x) (offset_of address + size) (omega arith)))
    | inr past ↦
        and_right _ _ (le-ltb x (address + size) past)
        ∙ sym (and_right _ _ (le-ltb (offset_of x) (offset_of address + size) (omega arith)))
  ]
]

-- an address of another region is not one of a range that ends within its own
covers-other :
    (address size x : ℕ) → offset_of address + size ≤ 2 ^ 32 → region_of x ≢ region_of address →
    covers address size x ≡ false
covers-other address size x ends other = elim (cases_lt x address) [
  | inl below ↦ and_left _ _ (lt-leb address x below)
  | inr from ↦ and_right _ _ (le-ltb x (address + size) (omega arith))
]

-- bytes laid over one region are what each of their addresses has then
pub IsWritten-laid_at :
    (regions : List (List ℕ)) (address : ℕ) (place : RegionPlace) (patch : List ℕ) → IsMemory regions →
    IsPlaceOf regions address (length patch) place →
    IsWritten regions address patch (laid_at regions place patch)
IsWritten-laid_at regions address place patch memory at x =
    let own = get_or regions place.index [] in
    let over = overlaid own place.offset patch in
    let short : length own ≤ 2 ^ 24 = (memory.lengths place.index [] at.inside.known).1 in
    let fits : place.offset + length patch ≤ length own = at.inside.fits in
    elim (cases_eq (region_of x) (region_of address)) [
      | inl same ↦
          let here : region_bytes (laid_at regions place patch) (region_of x) ≡ over =
          region_bytes-at (laid_at regions place patch) place.index (region_of x) (at.index ∙ sym same)
          ∙ get_or-set_same regions place.index over [] at.inside.known in
          let before : region_bytes regions (region_of x) ≡ own = region_bytes-at regions place.index (region_of x) (at.index ∙ sym same) in
          let turned : covers place.offset (length patch) (offset_of x) ≡ covers address (length patch) x =
          ap (λ (o : ℕ). covers o (length patch) (offset_of x)) at.offset ∙ sym (covers-offset address (length patch) x same) in
          let apart : place.offset ≡ offset_of address = at.offset in
          let away : offset_of x - place.offset ≡ x - address = omega (arith, same, apart) in
          ap (λ (bytes : List ℕ). slice_get bytes (offset_of x)) here
          ∙ slice_get-overlaid own place.offset patch (offset_of x) fits
          ∙ ap (λ (b : Bool). cond b (slice_get patch (offset_of x - place.offset)) (slice_get own (offset_of x))) turned
          ∙ ap (λ (n : ℕ). cond (covers address (length patch) x) (slice_get patch n) (slice_get own (offset_of x))) away
          ∙ ap (λ (bytes : List ℕ). cond (covers address (length patch) x) (slice_get patch (x - address)) (slice_get bytes (offset_of x))) (sym before)
      | inr other ↦
          ap (λ (bytes : List ℕ). slice_get bytes (offset_of x)) (region_bytes-other regions place.index over (region_of x) (λ e. other (sym e ∙ at.index)))
          ∙ sym (cond-false (covers address (length patch) x) _ _ (covers-other address (length patch) x (omega arith) other))
    ]

-- what every write leaves: a memory with regions of the same lengths, in which these bytes are written
pub record Leaves (old : List (List ℕ)) (address : ℕ) (patch : List ℕ) (new : List (List ℕ)) : Type 0 where
  pub memory : IsMemory new
  pub lengths : lengths_of new ≡ lengths_of old
  pub written : IsWritten old address patch new

-- a region whose bytes became these, with others laid over them
pub laid_leaves :
    (old regions : List (List ℕ)) (address : ℕ) (place : RegionPlace) (patch : List ℕ) → regions ≡ old →
    IsMemory regions → IsPlaceOf old address (length patch) place →
    All (λ byte. byte < 256) patch → Leaves old address patch (laid_at regions place patch)
laid_leaves old regions address place patch e memory at small =
    let f : old ≡ regions = sym e in
    rw f (let at' : IsPlaceOf regions address (length patch) place = rw e at in
    record {
      memory = IsMemory-laid_at regions place patch at'.inside.known at'.inside.fits small memory;
      lengths = lengths_of-laid_at regions place patch at'.inside.known at'.inside.fits;
      written = IsWritten-laid_at regions address place patch memory at';
    })

-- one region after a write to it, by what was read of it and what it became
pub set-laid_at :
    (regions : List (List ℕ)) (place : RegionPlace) (patch bytes left : List ℕ) →
    place.index < length regions → bytes ≡ get_or regions place.index bytes →
    left ≡ overlaid bytes place.offset patch →
    set regions place.index left ≡ laid_at regions place patch
set-laid_at regions place patch bytes left known read is =
    let own : bytes ≡ get_or regions place.index [] = get_or_read regions place.index bytes known read [] in
    ap (λ (b : List ℕ). set regions place.index b) (is ∙ ap (λ (b : List ℕ). overlaid b place.offset patch) own)

-- what a write to one region leaves, by where it lies, what was read of that region and what that became
pub write_leaves :
    (old regions : List (List ℕ)) (address : ℕ) (place : RegionPlace) (patch bytes left : List ℕ) →
    regions ≡ old → IsMemory regions → IsPlaceOf old address (length patch) place →
    All (λ byte. byte < 256) patch → bytes ≡ get_or regions place.index bytes →
    left ≡ overlaid bytes place.offset patch →
    Leaves old address patch (set regions place.index left)
write_leaves old regions address place patch bytes left e memory at small read is =
    let same : length regions ≡ length old = ap length e in
    let known : place.index < length regions = omega (arith, at.inside.known) in
    let turned = set-laid_at regions place patch bytes left known read is in
    rw turned (laid_leaves old regions address place patch e memory at small)

-- bytes of the program are below 256
pub bytes_small :
    (bytes : List ℕ) → ((i : ℕ) → Fits w8 (get_or bytes i 0)) → All (λ byte. byte < 256) bytes
bytes_small bytes fits = All-from_get_or (λ byte. byte < 256) bytes 0 (λ i l. omega (arith, fits i))

-- so are copies of one
pub replicate_small : (size byte : ℕ) → byte < 2 ^ 8 → All (λ b. b < 256) (replicate size byte)
replicate_small size byte fits = All-replicate (λ b. b < 256) size byte fits

-- the bytes of a range are those of its region from its offset on
bytes_from-at_place :
    (regions : List (List ℕ)) (address size : ℕ) (place : RegionPlace) →
    IsPlaceOf regions address size place →
    bytes_from regions address size ≡ take size (drop place.offset (get_or regions place.index []))
bytes_from-at_place regions address size place at =
    ap (λ (bytes : List ℕ). take size (drop (offset_of address) bytes)) (region_bytes-at regions place.index (region_of address) at.index)
    ∙ ap (λ (offset : ℕ). take size (drop offset (get_or regions place.index []))) (sym at.offset)

-- what a copy leaves in the list that it was handed, by where its two ranges lie
copied_leaves :
    (regions : List (List ℕ)) (source target size : ℕ) (from to : RegionPlace) → IsMemory regions →
    IsPlaceOf regions source size from → IsPlaceOf regions target size to →
    Leaves regions target (bytes_from regions source size) (laid_at regions to (take size (drop from.offset (get_or regions from.index []))))
copied_leaves regions source target size from to memory at_source at_target =
    let own = get_or regions from.index [] in
    let patch = take size (drop from.offset own) in
    let small = All-take (λ byte. byte < 256) size (drop from.offset own) (All-drop (λ byte. byte < 256) from.offset own (memory.bytes from.index [] at_source.inside.known)) in
    let rest : size ≤ length (drop from.offset own) = omega (arith, length-drop from.offset own, at_source.inside.fits) in
    let long : length patch ≡ size = length-take-le size (drop from.offset own) rest in
    let at : IsPlaceOf regions target (length patch) to = rw long at_target in
    let same : bytes_from regions source size ≡ patch = bytes_from-at_place regions source size from at_source in
    rw same (laid_leaves regions regions target to patch refl memory at small)

-- what a copy leaves, where the list was lent whole and came back as another
pub copy_leaves :
    (old regions back : List (List ℕ)) (count source target size : ℕ) (from to : RegionPlace) →
    regions ≡ old → count ≡ length regions → IsMemory regions → IsPlaceOf old source size from →
    IsPlaceOf old target size to →
    back ≡ laid_at regions to (take size (drop from.offset (get_or regions from.index []))) →
    Leaves old target (bytes_from old source size) (take count (back ++ drop (length back) regions))
copy_leaves old regions back count source target size from to same counted memory at_source at_target is =
    let patch = take size (drop from.offset (get_or regions from.index [])) in
    let kept : length (laid_at regions to patch) ≡ length regions = length-set regions to.index (overlaid (get_or regions to.index []) to.offset patch) in
    let long : length back ≡ count = ap length is ∙ kept ∙ sym counted in
    let whole : take count (back ++ drop (length back) regions) ≡ laid_at regions to patch = take_at back (drop (length back) regions) count long ∙ is in
    let turned : old ≡ regions = sym same in
    let known_source : IsPlaceOf regions source size from = rw same at_source in
    let known_target : IsPlaceOf regions target size to = rw same at_target in
    rw (whole, turned) (copied_leaves regions source target size from to memory known_source known_target)
