-- What is handed out of an audit between rounds of lanes (own).
use Rattle.std.specs.Prelude.{List, ◌++◌, All, option_to_list}
use Rattle.kernel_check.specs.Programs.{Program}
use Rattle.core_model.specs.History.{Part}
use Rattle.core_model.specs.Legal.{IsLegalPart}
use Rattle.client_threads.specs.HandedOver.{AreSettledWith}
use Rattle.client_threads.specs.Lanes.{LaneSeen}
use Rattle.threads_load.specs.declared.running.HandedOut.{HandedOut}

-- all parts that were handed out, in order: those that were settled, and the one that wasn't, if there is one (own)
abbrev pub parts_of : HandedOut → List Part
parts_of out = out.settled ++ option_to_list out.left

-- they are legal for these kernels, and the lanes handed over what the settled ones took (own)
pub record IsHandedOut (kernels : List Program) (lanes : List LaneSeen) (out : HandedOut) : Type 0 where
  pub settled : AreSettledWith out.settled lanes
  pub legal : All (IsLegalPart kernels) (parts_of out)
