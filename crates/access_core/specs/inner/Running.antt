-- What a group of a kernel dispatch is lent, and what it is owed by what it came to.
use Rattle.std.specs.Prelude.{◌≡◌, ◌==◌, ℕ, List, Option, None, Some, map, if◌then◌else◌}
use Rattle.aql_packet.specs.declared.ids.ClientId.{ClientId}
use Rattle.aql_packet.specs.declared.ids.PacketId.{PacketId}
use Rattle.aql_packet.specs.declared.ids.QueueId.{QueueId}
use Rattle.core_model.specs.declared.flight.InFlight.{InFlight}
use Rattle.core_model.specs.Flight.{in_flight}
use Rattle.core_model.specs.History.{beginning, HeldRights, History, Start}
use Rattle.policy.specs.Policy.{region_lengths}
use Rattle.core_model.specs.Memory.{memory_from}
use Rattle.core_model.specs.View.{RegionRights, first_address, given_at_launch, group_input, held_region, held_regions}
use Rattle.core_model.specs.declared.entry.Entry.{Entry}
use Rattle.aql_packet.specs.declared.packet.KernelDispatch.{KernelDispatch}
use Rattle.executor.specs.Items.{LentRegion}
use Rattle.executor.specs.Results.{GroupResult, broke_rule, group_result}
use Rattle.executor.specs.declared.fault.RunFault.{RunFault}
use Rattle.executor.specs.declared.fault.RunFault.TheVariants.{Fault, OutOfMemory}
use Rattle.packet_processor.specs.declared.places.Place.{Place}
use Rattle.regions.specs.Memory.{region_length}
pub use Rattle.core_model.specs.Owed.{fault_owed}
use Rattle.core_model.specs.Queues.{owner}
use Rattle.core_model.specs.declared.origin.Opening.{Opening}

-- a packet in flight, of a queue of this client
pub record IsHolder (history : History) (queue : QueueId) (id : PacketId) (client : ClientId) : Type 0 where
  pub opening : Opening
  pub owner_is : owner (beginning history) history.entries queue ≡ Some opening
  pub client_is : opening.client ≡ client
  pub flying : InFlight
  pub found : in_flight (beginning history) history.entries queue id ≡ Some flying

-- a held region as it is lent to the executor: all its bytes are those of memory
abbrev pub lent_whole : Start → List Entry → RegionRights → LentRegion
lent_whole start entries region = record {
  number = region.number;
  rights = region.rights;
  bytes = memory_from start entries (first_address region) region.size;
}

-- the regions that a packet's groups are lent, where it holds all these
abbrev pub view_whole : Start → List Entry → HeldRights → List LentRegion
view_whole start entries all = map (lent_whole start entries) (held_regions start all)

-- the region of a number, which counts from 1, with the rights that are held on it
abbrev pub region_numbered : Start → HeldRights → ℕ → RegionRights
region_numbered start all number = held_region all (number, region_length (region_lengths start.policy) number)

-- a region as it is lent, if a right is held on it
abbrev pub lent_if_held : Start → List Entry → RegionRights → Option LentRegion
lent_if_held start entries region = if region.rights.0 == 0 then None else Some (lent_whole start entries region)

-- what the next group of a kernel dispatch in flight comes to
abbrev pub next_result : History → QueueId → PacketId → Place → KernelDispatch → GroupResult
next_result history queue id place d =
    group_result (group_input (beginning history) history.entries (given_at_launch (beginning history) history.entries queue id) d place.progress.groups_run)

-- a group leaves nothing for this: an item broke a rule; where memory was wanted nothing is said
abbrev pub FaultsAs : GroupResult → RunFault → Type 0
FaultsAs came OutOfMemory = Unit {0}
FaultsAs came (Fault f) = came ≡ broke_rule f
