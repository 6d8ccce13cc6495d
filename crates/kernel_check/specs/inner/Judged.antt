-- How the code tells that items pass, or the first fault (own).
use Rattle.std.specs.Prelude.{◌≡◌, List, Some, None, Result, Ok, Err}
use Rattle.kernel_check.specs.declared.fault.CheckError.{CheckError}
use Rattle.kernel_check.specs.declared.fault.CheckError.TheVariants as error
use Rattle.kernel_check.specs.Faults.{Checkpoint, first_fault}

-- these items were let pass just where none fails, unless memory ran out; else the first fault was told
abbrev pub Stops : CheckError → List Checkpoint → Type 0
Stops error.OutOfMemory checks = Unit {0}
Stops (error.Fault f) checks = first_fault checks ≡ Some f

abbrev pub Judges : {X : Type 0} → Result X CheckError → List Checkpoint → Type 0
Judges (Ok x) checks = first_fault checks ≡ None
Judges (Err e) checks = Stops e checks
