-- Why a ring isn't opened (own).
use Rattle.std.specs.Prelude.{◌≡◌, ℕ, true, false}
use Rattle.aql_packet.specs.Ring.{is_ring_size}
use Rattle.ring_core.specs.Machine.{is_producer_count}
use Rattle.ring.specs.declared.ring.RingFault.{RingFault}
use Rattle.ring.specs.declared.ring.RingFault.TheVariants.{OutOfMemory, BadSize, BadProducers}

-- the size is judged before the number of producers, and both before memory is asked for
abbrev pub IsRingFault : ℕ → ℕ → RingFault → Type 0
IsRingFault size producers BadSize = is_ring_size size ≡ false
IsRingFault size producers BadProducers = (is_ring_size size ≡ true) × (is_producer_count producers ≡ false)
IsRingFault size producers OutOfMemory = (is_ring_size size ≡ true) × (is_producer_count producers ≡ true)
