-- The numbers of faults (own).
use Rattle.std.specs.Prelude.{ℕ}
use Rattle.ring.specs.declared.closing.SettleFault.{SettleFault}
use Rattle.ring.specs.declared.closing.SettleFault.TheVariants as settle
use Rattle.ring.specs.declared.ring.RingFault.{RingFault}
use Rattle.ring.specs.declared.ring.RingFault.TheVariants.{OutOfMemory, BadSize, BadProducers}

-- the number of a fault of a ring's making
abbrev pub number_of_ring_fault : RingFault → ℕ
number_of_ring_fault OutOfMemory = 0
number_of_ring_fault BadSize = 1
number_of_ring_fault BadProducers = 2

-- the number of a fault of its settling
abbrev pub number_of_settle_fault : SettleFault → ℕ
number_of_settle_fault settle.OutOfMemory = 0
number_of_settle_fault settle.MissingPass = 3
