-- The numbers of faults (own).
use Rattle.std.specs.Prelude.{ℕ}
use Rattle.script.specs.declared.fault.ScriptFault.{ScriptFault}
use Rattle.script.specs.declared.fault.ScriptFault.TheVariants.{OutOfMemory, BadLine, Read, Write}

-- the number of a fault
abbrev pub number_of_fault : ScriptFault → ℕ
number_of_fault OutOfMemory = 0
number_of_fault (BadLine line) = 1
number_of_fault Read = 2
number_of_fault Write = 3
