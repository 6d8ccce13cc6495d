-- Which fault of a load is told.
use Rattle.std.proofs.Common.{◌≡◌, sym, subst}
use Rattle.std.specs.Prelude.{Option, Some, None, Result, Ok}
use Rattle.access_core.specs.declared.access.OpenFault.{OpenFault}
use Rattle.threads_load.specs.Faults.{TellsOpening}
use Rattle.threads_load.specs.declared.fault.LoadFault.{LoadFault}

-- where a core is opened nothing is to be told
pub opened_tells : {X : Type 0} (why : Option OpenFault) (result : Result X LoadFault) → why ≡ None → TellsOpening why result
opened_tells {X} why result none = subst (λ (o : Option OpenFault). TellsOpening o result) (sym none) tt

-- what is told of the opening is told of what goes on from it
pub then_tells : {X Y : Type 0} (why : Option OpenFault) (x : X) (result : Result Y LoadFault) → TellsOpening why (Ok x) → TellsOpening why result
then_tells None x result h = tt
then_tells (Some why) x result h = absurd h
