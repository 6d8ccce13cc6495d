-- The byte memory: a list of regions, each the list of its bytes. All of it is this project's own.
use Rattle.std.specs.Prelude.{◌≡◌, ℕ, ◌+◌, ◌-◌, ◌/◌, ◌%◌, ◌<◌, ◌≤◌, Bool, ◌&&◌, nat_lt, nat_le, if◌then◌else◌, List, [], ◌∷◌, ◌++◌, length, take, drop, map, replicate, slice_get, slice_index, slice_index_or, Option, All}
use Rattle.aql_packet.specs.Memory.{most_regions, most_region_bytes, region_span}
use Rattle.aql_packet.specs.Memory.{covers}

-- the number of the region in which an address would lie: region h covers addresses from h * REGION_SPAN (own)
abbrev pub region_of : ℕ → ℕ
region_of address = address / region_span

-- how far an address lies past the first address of its region (own)
abbrev pub offset_of : ℕ → ℕ
offset_of address = address % region_span

-- the bytes of the region with this number: regions count from 1, so region 0 and unknown ones are empty (own)
abbrev pub region_bytes : List (List ℕ) → ℕ → List ℕ
region_bytes regions number = slice_index_or ([] ∷ regions) number []

-- the byte at an address, or none where the address lies in no region (own)
abbrev pub byte_at : List (List ℕ) → ℕ → Option ℕ
byte_at regions address = slice_get (region_bytes regions (region_of address)) (offset_of address)

-- as many bytes as asked for from an address on, in the order of their addresses (own)
abbrev pub bytes_from : List (List ℕ) → ℕ → ℕ → List ℕ
bytes_from regions address size = take size (drop (offset_of address) (region_bytes regions (region_of address)))

-- the length of each region, in order (own)
abbrev pub lengths_of : List (List ℕ) → List ℕ
lengths_of regions = map length regions

-- the length of the region with this number, 0 where there is none (own)
abbrev pub region_length : List ℕ → ℕ → ℕ
region_length lengths number = slice_index (0 ∷ lengths) number

-- whether an address lies in a region, by the regions' lengths (own)
abbrev pub lies_in_region : List ℕ → ℕ → Bool
lies_in_region lengths address = nat_lt (offset_of address) (region_length lengths (region_of address))

-- whether a range lies whole in one region: its first byte does, and its end is not past that region's end (own)
abbrev pub is_within : List ℕ → ℕ → ℕ → Bool
is_within lengths address size =
    lies_in_region lengths address && nat_le (offset_of address + size) (region_length lengths (region_of address))

-- that a range lies whole in one region of the memory (own)
pub record IsWithin (regions : List (List ℕ)) (address size : ℕ) : Type 0 where
  pub begins : offset_of address < length (region_bytes regions (region_of address))
  pub ends : offset_of address + size ≤ length (region_bytes regions (region_of address))

-- the new memory is the old one with these bytes from an address on, and every other address as before (own)
abbrev pub IsWritten : List (List ℕ) → ℕ → List ℕ → List (List ℕ) → Type 0
IsWritten old address bytes new =
    (x : ℕ) → byte_at new x ≡ (if covers address (length bytes) x then slice_get bytes (x - address) else byte_at old x)

-- what every memory is: so many regions at most, each of at least 1 byte and so many at most, each byte below 256 (own)
pub record IsMemory (regions : List (List ℕ)) : Type 0 where
  pub few : length regions ≤ most_regions
  pub lengths : All (λ bytes. (1 ≤ length bytes) × (length bytes ≤ most_region_bytes)) regions
  pub bytes : All (λ bytes. All (λ byte. byte < 256) bytes) regions

-- a memory that was never written: regions of these lengths, all zeros (own)
abbrev pub zeros : List ℕ → List (List ℕ)
zeros lengths = map (λ size. replicate size 0) lengths

-- bytes with others laid over them from an offset on (own)
abbrev pub overlaid : List ℕ → ℕ → List ℕ → List ℕ
overlaid bytes offset patch = take offset bytes ++ (patch ++ drop (offset + length patch) bytes)
