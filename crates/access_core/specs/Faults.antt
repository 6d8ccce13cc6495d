-- The numbers of faults (own).
use Rattle.std.specs.Prelude.{ℕ}
use Rattle.access_core.specs.declared.access.OpenFault.{OpenFault}
use Rattle.access_core.specs.declared.access.OpenFault.TheVariants.{OutOfMemory, KernelCount, NoEntry, BadCapacity}

-- the number of a fault of a core's opening
abbrev pub number_of_fault : OpenFault → ℕ
number_of_fault OutOfMemory = 0
number_of_fault KernelCount = 1
number_of_fault (NoEntry kernel) = 2
number_of_fault BadCapacity = 3
