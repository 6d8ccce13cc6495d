-- Which region has a number, and where a range lies in the list of regions. This project's own.
use Rattle.std.specs.Prelude.{◌≡◌, ℕ, ◌+◌, ◌<◌, ◌≤◌, List, [], length, take, drop, slice_index_or, slice_set, Option, Some, None, if◌then◌else◌}
use Rattle.aql_packet.specs.Ids.{numbered}
use Rattle.aql_packet.specs.declared.ids.RegionHandle.{RegionHandle}
use Rattle.regions.specs.declared.regions.RegionPlace.{RegionPlace}
use Rattle.regions.specs.Memory.{region_of, offset_of, lies_in_region, overlaid}

-- the region in which an address lies, or none (own)
abbrev pub handle_at : List ℕ → ℕ → Option RegionHandle
handle_at lengths address = if lies_in_region lengths address then Some (record { 0 = region_of address }) else None

-- the length of the region with this number, counting from 1, or none where there is no such region (own)
abbrev pub length_of_region : List ℕ → ℕ → Option ℕ
length_of_region lengths number = numbered lengths number

-- as many bytes as this, from a place on, lie in one region of the list (own)
pub record LiesInside (regions : List (List ℕ)) (place : RegionPlace) (size : ℕ) : Type 0 where
  pub known : place.index < length regions
  pub fits : place.offset + size ≤ length (slice_index_or regions place.index [])

-- a range begins at this place, and lies inside that region (own)
pub record IsPlaceOf (regions : List (List ℕ)) (address size : ℕ) (place : RegionPlace) : Type 0 where
  pub index : place.index + 1 ≡ region_of address
  pub offset : place.offset ≡ offset_of address
  pub inside : LiesInside regions place size

-- as many bytes as this, from a place on (own)
abbrev pub part_at : List (List ℕ) → RegionPlace → ℕ → List ℕ
part_at regions place size = take size (drop place.offset (slice_index_or regions place.index []))

-- the regions with these bytes laid over one of them at this place (own)
abbrev pub laid_at : List (List ℕ) → RegionPlace → List ℕ → List (List ℕ)
laid_at regions place patch =
    slice_set regions place.index (overlaid (slice_index_or regions place.index []) place.offset patch)
