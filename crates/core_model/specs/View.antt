-- What a work-group is given: the regions that its packet holds, and the arguments that it had at its launch.
use Rattle.std.specs.Prelude.{ℕ, ◌*◌, ◌==◌, not, List, filter, length, map, replicate, if◌then◌else◌}
use Rattle.std.specs.List.{range_with_len, zip}
use Rattle.aql_packet.specs.Memory.{region_span}
use Rattle.aql_packet.specs.declared.ids.QueueId.{QueueId}
use Rattle.aql_packet.specs.declared.ids.PacketId.{PacketId}
use Rattle.aql_packet.specs.declared.packet.KernelDispatch.{KernelDispatch}
use Rattle.executor.specs.Items.{LentRegion}
use Rattle.executor.specs.Runs.{GroupInput}
use Rattle.policy.specs.declared.object.Object.{Object}
use Rattle.policy.specs.declared.object.Object.TheVariants as object
use Rattle.policy.specs.declared.rights.Right.TheVariants.{Read}
use Rattle.policy.specs.declared.rights.Rights.{Rights}
use Rattle.policy.specs.Rights.{has, rights_that}
use Rattle.core_model.specs.declared.entry.Entry.{Entry}
use Rattle.core_model.specs.History.{HeldRights, Start}
use Rattle.policy.specs.Policy.{region_lengths}
use Rattle.core_model.specs.Memory.{memory_from}
use Rattle.core_model.specs.Kernels.{grid_size, group_size, kernel_of}
use Rattle.core_model.specs.Holds.{arguments, own_rights}

-- what a packet was given at its launch: what it holds, and its argument block
pub record GivenAtLaunch : Type 0 where
  pub rights : HeldRights
  pub arguments : List ℕ

-- what the packet with this queue and id was given
abbrev pub given_at_launch : Start → List Entry → QueueId → PacketId → GivenAtLaunch
given_at_launch start entries queue id = record { rights = own_rights start entries queue id; arguments = arguments start entries queue id }

-- the rights that are held on an object
abbrev pub rights_held : HeldRights → Object → Rights
rights_held all on = rights_that (all on)

-- a region with the rights that are held on it
pub record RegionRights : Type 0 where
  pub number : ℕ
  pub size : ℕ
  pub rights : Rights

-- the region of a number, and of a size
abbrev pub held_region : HeldRights → ℕ × ℕ → RegionRights
held_region all row = record { number = row.0; size = row.1; rights = rights_held all (object.Region (record { 0 = row.0 })) }

-- the regions on which a right is held, by number
abbrev pub held_regions : Start → HeldRights → List RegionRights
held_regions start all =
    filter (λ region. not (region.rights.0 == 0))
    (map (held_region all) (zip (range_with_len 1 (length (region_lengths start.policy))) (region_lengths start.policy)))

-- the first address of a region (own)
abbrev pub first_address : RegionRights → ℕ
first_address region = region.number * region_span

-- a held region as it is lent: only where READ is held its bytes are those of memory
abbrev pub as_lent : Start → List Entry → RegionRights → LentRegion
as_lent start entries region = record {
  number = region.number;
  rights = region.rights;
  bytes = if has region.rights Read then memory_from start entries (first_address region) region.size else replicate region.size 0;
}

-- the memory that a packet's groups see
abbrev pub view : Start → List Entry → HeldRights → List LentRegion
view start entries all = map (as_lent start entries) (held_regions start all)

-- all that a group of a kernel dispatch is given to run on
abbrev pub group_input : Start → List Entry → GivenAtLaunch → KernelDispatch → ℕ → GroupInput
group_input start entries own d group = record {
  program = kernel_of start d;
  group_size = group_size d;
  grid_size = grid_size d;
  group_segment_size = d.group_segment_size;
  arguments = own.arguments;
  view = view start entries own.rights;
  group = group;
}
