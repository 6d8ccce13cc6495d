-- What was decided of a packet that is handed over, and how refusals of changes of grants are told.
use Rattle.std.specs.Prelude.{◌≡◌, ◌<◌, ℕ, List, [], length, Some}
use Rattle.aql_packet.specs.declared.ids.QueueId.{QueueId}
use Rattle.aql_packet.specs.declared.ids.PacketId.{PacketId}
use Rattle.aql_packet.specs.Reading.{decoded}
use Rattle.core_model.specs.declared.event.Event.TheVariants.{Take}
use Rattle.core_model.specs.declared.outcome.Outcome.TheVariants as outcome
use Rattle.core_model.specs.declared.outcome.Taken.TheVariants.{Launched, Denied, Waiting}
use Rattle.core_model.specs.History.{beginning, History}
use Rattle.policy.specs.Policy.{region_lengths}
use Rattle.core_model.specs.Queues.{owner, is_down}
use Rattle.core_model.specs.declared.origin.Opening.{Opening}
use Rattle.core_model.specs.Flight.{flight_of}
use Rattle.core_model.specs.Owed.{answers, enters, error_without_place}
use Rattle.core_model.specs.Legal.{due}
use Rattle.core_model.specs.declared.limits.TheConstants.{MOST_IN_FLIGHT}
use Rattle.access_core.specs.inner.LiesInRegions.{lies_in_regions}
use Rattle.aql_packet.specs.declared.packet.Packet.{Packet}
use Rattle.core_model.specs.Kernels.{kernel_of}
use Rattle.aql_packet.specs.declared.packet.Packet.TheVariants as packet
use Rattle.access_core.specs.inner.InPlace.{IsPlaced}
use Rattle.access_core.specs.declared.access.taking.Launching.{Launching}
use Rattle.access_core.specs.declared.access.taking.Decision.{Decision}
use Rattle.access_core.specs.declared.access.taking.Decision.TheVariants.{Wait, Deny, Launch}
use Rattle.std.specs.Prelude.{true, false}
use Rattle.grants.specs.declared.refusal.GrantRefusal.{GrantRefusal as Why}
use Rattle.grants.specs.declared.refusal.GrantRefusal.TheVariants as why
use Rattle.core_model.specs.declared.refusal.Refusal.{Refusal}
use Rattle.core_model.specs.declared.refusal.Refusal.TheVariants as refusal

-- a queue takes its next packet: it was opened, launches packets yet, and has a slot free
abbrev pub TakesNext : History → QueueId → Type 0
TakesNext history queue =
    (opening : Opening) × (owner (beginning history) history.entries queue ≡ Some opening) × (is_down (beginning history) history.entries queue ≡ false)
    × (length (flight_of (beginning history) history.entries queue) < MOST_IN_FLIGHT)

-- the opening of the queue whose packet is launched
abbrev pub opening_of : Launching → Opening
opening_of launching = record { client = launching.client; agent = launching.asked.agent }

-- the argument block of a packet has its place in memory: it is empty, or lies whole in one region; only kernel dispatches have one
abbrev pub IsBlockPlaced : History → Packet → Type 0
IsBlockPlaced history (packet.Kernel d) = IsPlaced history d.kernarg_address.0 (kernel_of (beginning history) d).argument_bytes
IsBlockPlaced history _ = Unit {0}

-- what is due to the packet is what was decided; a packet that is launched is the one that the bytes lay out and has all its
-- ranges within regions
abbrev pub Decides : History → QueueId → PacketId → List ℕ → Decision → Type 0
Decides history queue id bytes (Wait cause) = due history (Take queue id bytes) ≡ answers (outcome.Taken (Waiting cause))
Decides history queue id bytes (Deny rule) =
    (due history (Take queue id bytes) ≡ enters (outcome.Taken (Denied (error_without_place queue id.0 rule))) [])
    × TakesNext history queue
Decides history queue id bytes (Launch launching) =
    (due history (Take queue id bytes) ≡ enters (outcome.Taken Launched) [])
    × (decoded bytes ≡ Some launching.asked.packet) × (lies_in_regions (region_lengths (beginning history).policy) launching.asked.packet ≡ true) × TakesNext history queue
    × (owner (beginning history) history.entries queue ≡ Some (opening_of launching))

-- the core's refusal where a change of grants is refused
abbrev pub refusal_of : Why → Refusal
refusal_of why.UnknownClient = refusal.UnknownClient
refusal_of why.UnknownObject = refusal.UnknownObject
refusal_of why.NotAllowed = refusal.NotAllowed
refusal_of (why.Busy queue packet) = refusal.Busy queue packet
