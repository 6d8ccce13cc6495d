-- What every memory is, of new memories and of written ones.
use Rattle.std.proofs.Common.{◌≡◌, ℕ, zero, ◌+◌, ◌^◌, ◌<◌, ◌≤◌, true, nat_le, List, [], ◌∷◌, ◌++◌, length, map, replicate, get_or, set, take, drop, sym, ap, ◌∙◌, arith, All, length-append}
use Rattle.std.specs.List.{list_all}
use Rattle.std.proofs.lemmas.Bool.{leb-true, and_parts}
use Rattle.std.proofs.lemmas.List.{length-replicate, length-take, length-drop, length-map, length-set, map-set, set-get_or, get_or-map}
use Rattle.std.proofs.lemmas.List.Elements.{All-nil, All-cons, All-map, All-replicate, All-append, All-take, All-drop, All-set}
use Rattle.regions.specs.declared.regions.RegionPlace.{RegionPlace}
use Rattle.aql_packet.specs.Memory.{are_region_lengths, is_region_length}
use Rattle.regions.specs.Memory.{IsMemory, lengths_of, overlaid, zeros}
use Rattle.regions.specs.Place.{laid_at}

-- each length is 1 to 2^24 where the test says so
sized :
    (lengths : List ℕ) → list_all is_region_length lengths ≡ true →
    All (λ n. (1 ≤ n) × (n ≤ 2 ^ 24)) lengths
sized [] e = All-nil (λ n. (1 ≤ n) × (n ≤ 2 ^ 24))
sized (n ∷ ns) e =
    let both = and_parts (is_region_length n) (list_all is_region_length ns) e in
    let one = and_parts (nat_le 1 n) (nat_le n (2 ^ 24)) both.0 in
    All-cons (λ n. (1 ≤ n) × (n ≤ 2 ^ 24)) n ns (leb-true 1 n one.0, leb-true n (2 ^ 24) one.1) (sized ns both.1)

-- a new memory is one
pub IsMemory-zeros :
    (lengths : List ℕ) → are_region_lengths lengths ≡ true → IsMemory (zeros lengths)
IsMemory-zeros lengths e =
    let both = and_parts (nat_le (length lengths) 64) (list_all is_region_length lengths) e in
    let few : length lengths ≤ 64 = leb-true (length lengths) 64 both.0 in
    let each = sized lengths both.1 in
    record {
      few = let e : length (zeros lengths) ≡ length lengths = length-map lengths (λ (n : ℕ). replicate n zero) in rw e few;
      lengths = All-map (λ bytes. (1 ≤ length bytes) × (length bytes ≤ 2 ^ 24)) (λ (n : ℕ). replicate n zero) lengths
          (λ k d l. let e : length (replicate (get_or lengths k d) zero) ≡ get_or lengths k d = length-replicate (get_or lengths k d) zero in rw e (each k d l));
      bytes = All-map (λ bytes. All (λ byte. byte < 256) bytes) (λ (n : ℕ). replicate n zero) lengths
          (λ k d l. All-replicate (λ byte. byte < 256) (get_or lengths k d) 0 (omega arith));
    }

-- bytes laid over others leave their number
pub length-overlaid :
    (bytes : List ℕ) (offset : ℕ) (patch : List ℕ) → offset + length patch ≤ length bytes →
    length (overlaid bytes offset patch) ≡ length bytes
length-overlaid bytes offset patch fits = simp (length-append, length-take, length-drop) (omega arith)

-- bytes laid over one region leave each region's length
pub lengths_of-laid_at :
    (regions : List (List ℕ)) (place : RegionPlace) (patch : List ℕ) → place.index < length regions →
    place.offset + length patch ≤ length (get_or regions place.index []) →
    lengths_of (laid_at regions place patch) ≡ lengths_of regions
lengths_of-laid_at regions place patch known fits =
    map-set length regions place.index (overlaid (get_or regions place.index []) place.offset patch)
    ∙ ap (λ (n : ℕ). set (map length regions) place.index n)
    (length-overlaid (get_or regions place.index []) place.offset patch fits
    ∙ sym (get_or-map length regions place.index [] 0 known))
    ∙ set-get_or (map length regions) place.index 0

-- bytes laid over one region leave a memory
pub IsMemory-laid_at :
    (regions : List (List ℕ)) (place : RegionPlace) (patch : List ℕ) → place.index < length regions →
    place.offset + length patch ≤ length (get_or regions place.index []) →
    All (λ byte. byte < 256) patch → IsMemory regions → IsMemory (laid_at regions place patch)
IsMemory-laid_at regions place patch known fits small memory =
    let own = get_or regions place.index [] in
    let own_bytes = memory.bytes place.index [] known in
    record {
      few = let e : length (laid_at regions place patch) ≡ length regions = length-set regions place.index (overlaid own place.offset patch) in rw e memory.few;
      lengths = All-set (λ bytes. (1 ≤ length bytes) × (length bytes ≤ 2 ^ 24)) regions place.index (overlaid own place.offset patch)
          (rw (length-overlaid own place.offset patch fits) (memory.lengths place.index [] known)) memory.lengths;
      bytes = All-set (λ bytes. All (λ byte. byte < 256) bytes) regions place.index (overlaid own place.offset patch)
          (All-append (λ byte. byte < 256) (take place.offset own) (patch ++ drop (place.offset + length patch) own)
          (All-take (λ byte. byte < 256) place.offset own own_bytes)
          (All-append (λ byte. byte < 256) patch (drop (place.offset + length patch) own) small
          (All-drop (λ byte. byte < 256) (place.offset + length patch) own own_bytes)))
          memory.bytes;
    }
