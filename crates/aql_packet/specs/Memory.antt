-- How many regions there are, how long each is, and which addresses a range covers.
use Rattle.std.specs.Prelude.{ℕ, ◌+◌, ◌^◌, Bool, ◌&&◌, nat_lt, nat_le, List, length}
use Rattle.std.specs.List.{list_all}

-- How many addresses lie between the first of one region and the first of the next (own).
abbrev pub region_span : ℕ
region_span = 2 ^ 32

-- How many regions there are at the most (own).
abbrev pub most_regions : ℕ
most_regions = 64

-- How many bytes a region has at the most (own).
abbrev pub most_region_bytes : ℕ
most_region_bytes = 2 ^ 24

-- The length of a region in bytes: at least 1 (own).
abbrev pub is_region_length : ℕ → Bool
is_region_length size = nat_le 1 size && nat_le size most_region_bytes

-- The lengths of all regions (own).
abbrev pub are_region_lengths : List ℕ → Bool
are_region_lengths lengths = nat_le (length lengths) most_regions && list_all is_region_length lengths

-- Whether an address is one of a range, of so many bytes from its first address on (own).
abbrev pub covers : ℕ → ℕ → ℕ → Bool
covers first size address = nat_le first address && nat_lt address (first + size)
