-- Accesses by the region that has all their bytes (own).
use Rattle.std.specs.Prelude.{ℕ, ◌+◌, ◌%◌, ◌&&◌, nat_le, if◌then◌else◌, length, Option, Some, None}
use Rattle.aql_packet.specs.Memory.{region_span}
use Rattle.executor.specs.Items.{LentRegion}
use Rattle.policy.specs.Rights.{has}
use Rattle.policy.specs.declared.rights.Right.{Right}
use Rattle.policy.specs.declared.rights.Right.TheVariants.{Read, Write}
use Rattle.queue_error.specs.declared.rule.Rule.{Rule}
use Rattle.queue_error.specs.declared.rule.Rule.TheVariants.{A1, A2, A3}

-- the region in which an access begins, if it ends there too, and its bytes may be accessed with a right
abbrev pub allowed_in : Right → Option LentRegion → ℕ → ℕ → Option LentRegion
allowed_in right None address n = None
allowed_in right (Some region) address n =
    if has region.rights right && nat_le (address % region_span + n) (length region.bytes) then Some region else None

-- which rule an access breaks first that breaks one
abbrev pub broken_first : Option LentRegion → Right → Rule
broken_first None right = A1
broken_first (Some region) right = if has region.rights right then A3 else A2

-- which rule an atomic access breaks first whose bytes may not be read and written
abbrev pub atomic_broken_first : Option LentRegion → Rule
atomic_broken_first None = A1
atomic_broken_first (Some region) = if has region.rights Read && has region.rights Write then A3 else A2
