use Rattle.std.proofs.Common.{subst}
use Rattle.access_core.specs.Cores.{Core}
use Rattle.core_model.specs.Room.{HasRoom}
use Rattle.access_core.proofs.Rooms.{roomy}
use Rattle.access_core.proofs.access.AccessCore.keeps_room.Goals as goal

pub returns : goal.returns
returns c = subst (λ (now : Core). HasRoom now.history) c.self.view_is (roomy c.self.inside c.self.invariant)
