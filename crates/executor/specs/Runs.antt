-- What running a work-group answers (own).
use Rattle.std.specs.Prelude.{◌≡◌, ℕ, ◌^◌, ◌≤◌, ◌<◌, List, length, map}
use Rattle.executor.specs.Group.{Status, done, faulted, Leads, beginning}
use Rattle.executor.specs.Items.{Contents, LentRegion, Surroundings, blank, lent_region}
use Rattle.executor.specs.Locations.{id_of, count_of, groups_of, current_of}
use Rattle.executor.specs.Written.{AreRuns}
use Rattle.executor.specs.declared.dispatch.Dispatch.{Dispatch}
use Rattle.executor.specs.declared.fault.RunFault.{RunFault}
use Rattle.executor.specs.declared.fault.RunFault.TheVariants as fault
use Rattle.executor.specs.declared.location.Extent.{Extent}
use Rattle.executor.specs.declared.location.Location.{Location}
use Rattle.executor.specs.declared.written_range.WrittenRange.{WrittenRange}
use Rattle.executor.specs.declared.held.HeldRegion.{HeldRegion}
use Rattle.kernel_check.specs.Programs.{Program, group_bytes_of}
use Rattle.executor.specs.Limits.{most_group_items, most_segment_bytes}

-- sizes that a dispatch may have (own limits)
pub record HasSizes (d : Dispatch) : Type 0 where
  pub some_x : 1 ≤ d.group_size.x
  pub some_y : 1 ≤ d.group_size.y
  pub some_z : 1 ≤ d.group_size.z
  pub fits_x : d.group_size.x ≤ d.grid_size.x
  pub fits_y : d.group_size.y ≤ d.grid_size.y
  pub fits_z : d.group_size.z ≤ d.grid_size.z
  pub few_items : count_of d.group_size ≤ most_group_items
  pub few_groups : count_of (groups_of d.grid_size d.group_size) < 2 ^ 32

-- a dispatch of a kernel that can be run, and one of its work-groups
pub record IsRunnable (p : Program) (d : Dispatch) (group : ℕ) : Type 0 where
  pub arguments : length d.arguments.now ≡ p.argument_bytes
  pub sizes : HasSizes d
  pub one_of_them : group < count_of (groups_of d.grid_size d.group_size)
  pub segment : group_bytes_of p ≤ d.group_segment_size
  pub segment_limit : d.group_segment_size ≤ most_segment_bytes

-- one work-group of a kernel, with all that it is given to run on
pub record GroupInput : Type 0 where
  pub program : Program
  pub group_size : Extent
  pub grid_size : Extent
  pub group_segment_size : ℕ
  -- the bytes of the argument block
  pub arguments : List ℕ
  -- the regions that the packet holds
  pub view : List LentRegion
  -- its number among the work-groups, with x fastest
  pub group : ℕ

abbrev pub input_of : Program → Dispatch → ℕ → List HeldRegion → GroupInput
input_of p d group view = record {
  program = p;
  group_size = d.group_size;
  grid_size = d.grid_size;
  group_segment_size = d.group_segment_size;
  arguments = d.arguments.now;
  view = map lent_region view;
  group = group;
}

-- where the first item of a work-group stands; groups are numbered with x fastest
abbrev pub location_of : Extent → Extent → ℕ → Location
location_of group_size grid_size group =
    let id = id_of (groups_of grid_size group_size) group in
    record {
      item = record { x = 0; y = 0; z = 0 };
      group = id;
      group_size = group_size;
      current_size = current_of grid_size group_size id;
      grid_size = grid_size;
    }

-- what surrounds the items of a work-group
abbrev pub surroundings_of : GroupInput → Surroundings
surroundings_of i = record { arguments = i.arguments; view = i.view; location = location_of i.group_size i.grid_size i.group }

-- a group that is done has written the bytes of these runs
abbrev pub Finishes : Surroundings → Program → Status → List WrittenRange → Type 0
Finishes a p from runs = (m : Contents) × (Leads a p from (done m) × AreRuns m.written runs)

-- a group in which an item broke a rule; without memory nothing is said
abbrev pub Fails : Surroundings → Program → Status → RunFault → Type 0
Fails a p from fault.OutOfMemory = Unit {0}
Fails a p from (fault.Fault f) = Leads a p from (faulted f)

-- a group as it begins
abbrev pub begun : GroupInput → Status
begun i = beginning (count_of (surroundings_of i).location.current_size) (blank i.group_segment_size)
