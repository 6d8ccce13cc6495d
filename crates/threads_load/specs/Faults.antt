-- Why a load isn't run (own).
use Rattle.std.specs.Prelude.{◌≡◌, ◌⊎◌, Option, Some, None, Result, Ok, Err, ⊤}
use Rattle.access_core.specs.declared.access.OpenFault.{OpenFault}
use Rattle.access_core.specs.declared.access.OpenFault.TheVariants as refused
use Rattle.client_threads.specs.declared.settling.SettleAllFault.{SettleAllFault}
use Rattle.client_threads.specs.declared.settling.SettleAllFault.TheVariants as unsettled
use Rattle.threads_load.specs.declared.fault.LoadFault.{LoadFault}
use Rattle.threads_load.specs.declared.fault.LoadFault.TheVariants as fault

-- what is told where no core is opened
abbrev pub told_of_opening : OpenFault → LoadFault
told_of_opening refused.OutOfMemory = fault.OutOfMemory
told_of_opening why = fault.Opening why

-- why a load isn't run over which no core is opened, if that is so: it is told before all else, unless memory is wanted (own)
abbrev pub TellsOpening : {X : Type 0} → Option OpenFault → Result X LoadFault → Type 0
TellsOpening None result = ⊤
TellsOpening (Some why) (Ok x) = ⊥
TellsOpening (Some why) (Err told) = (told ≡ fault.OutOfMemory) ⊎ (told ≡ fault.Opening why)

-- what is told where a broker isn't settled, of which all fronts are there (own)
abbrev pub IsToldFor : SettleAllFault → LoadFault → Type 0
IsToldFor unsettled.MissingPass told = told ≡ fault.MissingPass
IsToldFor unsettled.NotNext told = told ≡ fault.NotNext
IsToldFor unsettled.OutOfMemory told = told ≡ fault.OutOfMemory
IsToldFor unsettled.MissingFront told = ⊥
