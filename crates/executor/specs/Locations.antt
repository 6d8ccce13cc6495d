-- Where work-items and work-groups stand in the grid (PRM, Dispatch Packet Operations).
use Rattle.std.specs.Prelude.{ℕ, ◌+◌, ◌-◌, ◌*◌, ◌/◌, ◌%◌, min}
use Rattle.executor.specs.declared.location.Extent.{Extent}
use Rattle.executor.specs.declared.location.Location.{Location}
use Rattle.hsail_reader.specs.declared.types.WorkItemQuery.{WorkItemQuery}
use Rattle.hsail_reader.specs.declared.types.WorkItemQuery.TheVariants.{WorkItemId, WorkGroupId, WorkGroupSize, CurrentWorkGroupSize, WorkItemAbsoluteId, GridSize}
use Rattle.kernel_check.specs.declared.step.Dimension.{Dimension}
use Rattle.kernel_check.specs.declared.step.Dimension.TheVariants.{X, Y, Z}

abbrev pub along : Extent → Dimension → ℕ
along e X = e.x
along e Y = e.y
along e Z = e.z

-- what an item asks in one dimension
abbrev pub answer : Location → WorkItemQuery → Dimension → ℕ
answer l WorkItemId d = along l.item d
answer l WorkGroupId d = along l.group d
answer l WorkGroupSize d = along l.group_size d
answer l CurrentWorkGroupSize d = along l.current_size d
answer l WorkItemAbsoluteId d = along l.group d * along l.group_size d + along l.item d
answer l GridSize d = along l.grid_size d

-- the id of a number, where ids of these sizes are numbered with x fastest
abbrev pub id_of : Extent → ℕ → Extent
id_of sizes n = record { x = n % sizes.x; y = n / sizes.x % sizes.y; z = n / sizes.x / sizes.y }

-- how many there are of such ids
abbrev pub count_of : Extent → ℕ
count_of sizes = sizes.x * sizes.y * sizes.z

-- how many work-groups there are along a dimension: the last may be a part of one
abbrev pub groups_along : ℕ → ℕ → ℕ
groups_along grid size = (grid - 1) / size + 1

abbrev pub groups_of : Extent → Extent → Extent
groups_of grid size = record {
  x = groups_along grid.x size.x;
  y = groups_along grid.y size.y;
  z = groups_along grid.z size.z;
}

-- a work-group's current size along a dimension: its size, or what is left of the grid
abbrev pub current_along : ℕ → ℕ → ℕ → ℕ
current_along grid size id = min size (grid - id * size)

abbrev pub current_of : Extent → Extent → Extent → Extent
current_of grid size id = record {
  x = current_along grid.x size.x id.x;
  y = current_along grid.y size.y id.y;
  z = current_along grid.z size.z id.z;
}
