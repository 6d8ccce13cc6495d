-- How the region that an address lies in is found among those that are lent (own).
use Rattle.std.specs.Prelude.{ℕ, ◌/◌, ◌%◌, ◌^◌, ◌==◌, ◌&&◌, Bool, nat_lt, length}
use Rattle.executor.specs.declared.held.HeldRegion.{HeldRegion}
use Rattle.aql_packet.specs.Memory.{region_span}

-- whether an address lies in a held region
abbrev pub has_byte_at : HeldRegion → ℕ → Bool
has_byte_at region address = region.handle.0 == address / region_span && nat_lt (address % region_span) (length region.bytes.now)
