-- When a range of addresses is refused, and how that is told. This project's own.
use Rattle.std.specs.Prelude.{ℕ, List, codes, Option, Some, None, if◌then◌else◌}
use Rattle.std.specs.Option.{option_or}
use Rattle.regions.specs.declared.fault.RegionFault.{RegionFault}
use Rattle.regions.specs.declared.fault.RegionFault.TheVariants.{NoRegion, PastEnd}
use Rattle.regions.specs.Memory.{lies_in_region, is_within}

-- the refusal of a range: its address lies in no region, or else its bytes leave that region (own)
abbrev pub range_fault : List ℕ → ℕ → ℕ → Option RegionFault
range_fault lengths address size =
    if lies_in_region lengths address then (if is_within lengths address size then None else Some PastEnd) else Some NoRegion

-- the refusal of a copy: that of its source, or else that of its target (own)
abbrev pub copy_fault : List ℕ → ℕ → ℕ → ℕ → Option RegionFault
copy_fault lengths source target size = option_or (range_fault lengths source size) (range_fault lengths target size)

-- the number of a refusal (own)
abbrev pub number_of : RegionFault → ℕ
number_of NoRegion = 1
number_of PastEnd = 2

-- what a refusal says of itself (own)
abbrev pub fault_text : RegionFault → List ℕ
fault_text NoRegion = codes "no region at this address"
fault_text PastEnd = codes "past the end of the region"
