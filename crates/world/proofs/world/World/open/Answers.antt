use Rattle.std.proofs.Common.{map}
use Rattle.access_core.specs.Opening.{program_of}
use Rattle.world.proofs.Handing.{starts}
use Rattle.world.proofs.world.World.open.Goals as goal

pub invariant_of-result : goal.invariant_of-result
invariant_of-result c =
    starts c.args.policy (map program_of c.args.kernels.items) c.args.capacity c.in_ok-core.core.history c.new.result.items c.new-2.result c.in_ok-core.ensures.1 c.new.ensures.items c.new-2.ensures
