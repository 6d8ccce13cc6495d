-- So many lanes are as high as was counted.
use Rattle.std.proofs.Common.{◌≡◌, ◌*◌, ◌≤◌}
use Rattle.picture.specs.Shapes.{height_of_lanes}
use Rattle.picture.proofs.places.height_of_lanes.Given as goal

abbrev pub invariant-lanes : goal.invariant-lanes
invariant-lanes l = (l.height ≡ height_of_lanes l.lanes l.place) × (l.height ≤ 8200 * l.place)
