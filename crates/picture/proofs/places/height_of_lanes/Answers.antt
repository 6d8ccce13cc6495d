-- So many lanes are as high as was counted.
use Rattle.std.proofs.Common.{◌<◌, arith, refl}
use Rattle.picture.specs.Shapes.{height_of_lanes}
use Rattle.picture.proofs.Walks.{height_step}
use Rattle.picture.proofs.places.height_of_lanes.Goals as goal

pub lanes-init : goal.lanes-init
unfolding height_of_lanes
lanes-init c = (refl, omega arith)

pub lanes-preserved : goal.lanes-preserved
lanes-preserved c =
    let few : c.height_at.result < 8192 = c.height_at.ensures.bound in (
      height_step c.args.lanes.now c.lanes.place c.lanes.height c.height_at.result c.lanes.invariant.0 c.height_at.ensures.exact,
      omega (arith, few, c.lanes.invariant.1),
    )
