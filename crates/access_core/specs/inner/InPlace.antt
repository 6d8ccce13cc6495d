-- What packets in flight are owed, by what their places tell.
use Rattle.std.specs.Prelude.{◌≡◌, ℕ, ◌==◌, ◌||◌, Bool, true, List, fold, Some}
use Rattle.aql_packet.specs.declared.ids.QueueId.{QueueId}
use Rattle.aql_packet.specs.declared.ids.PacketId.{PacketId}
use Rattle.aql_packet.specs.declared.ids.SignalHandle.{SignalHandle}
use Rattle.aql_packet.specs.declared.packet.KernelDispatch.{KernelDispatch}
use Rattle.aql_packet.specs.declared.packet.Packet.{Packet}
use Rattle.regions.specs.Memory.{byte_at, is_within}
use Rattle.core_model.specs.declared.call.Call.TheVariants.{Finish}
use Rattle.core_model.specs.declared.entry.Effect.{Effect}
use Rattle.core_model.specs.declared.event.Event.TheVariants.{Call}
use Rattle.core_model.specs.declared.flight.InFlight.{InFlight}
use Rattle.core_model.specs.declared.flight.Progress.{Progress}
use Rattle.core_model.specs.declared.outcome.Outcome.TheVariants as outcome
use Rattle.core_model.specs.declared.refusal.Refusal.{Refusal}
use Rattle.core_model.specs.History.{beginning, History}
use Rattle.aql_packet.specs.declared.packet.Packet.TheVariants as packet
use Rattle.core_model.specs.LaunchRules.{has_sizes}
use Rattle.core_model.specs.Legal.{due}
use Rattle.core_model.specs.Needs.{completion_signal}
use Rattle.core_model.specs.Queues.{owner}
use Rattle.core_model.specs.declared.origin.Opening.{Opening}
use Rattle.core_model.specs.Flight.{in_flight, progress}
use Rattle.policy.specs.Policy.{region_lengths}
use Rattle.core_model.specs.Memory.{byte_after, signals}
use Rattle.core_model.specs.Owed.{Owed, refuses, enters, completion_of, for_packet}
use Rattle.packet_processor.specs.Queueing.{IsFoundIn}
use Rattle.packet_processor.specs.declared.places.FoundPacket.{FoundPacket}
use Rattle.packet_processor.specs.declared.places.Place.{Place}
use Rattle.access_core.specs.inner.CachedQueue.{queue_at}

-- a packet of an open queue is in flight, and this is its place
pub record IsInPlace (history : History) (queue : QueueId) (id : PacketId) (place : Place) : Type 0 where
  pub opening : Opening
  pub owner_is : owner (beginning history) history.entries queue ≡ Some opening
  pub flying : InFlight
  pub found : in_flight (beginning history) history.entries queue id ≡ Some flying
  pub packet_is : flying.packet ≡ place.packet
  pub progress_is : progress (beginning history) history.entries queue id ≡ place.progress

-- the packet was found: its place among those of its queue has this index
abbrev pub IsFoundAt : History → QueueId → FoundPacket → Type 0
IsFoundAt history queue found = IsFoundIn found (queue_at (beginning history) history.entries queue).places

-- a kernel dispatch has sizes that may be
abbrev pub IsSized : Packet → Type 0
IsSized (packet.Kernel d) = has_sizes d ≡ true
IsSized _ = Unit {0}

-- it is one
abbrev pub IsKernel : Packet → Type 0
IsKernel p = (d : KernelDispatch) × (p ≡ packet.Kernel d)

-- a call about this packet is refused, whatever it asks
abbrev pub RefusedAt : History → QueueId → PacketId → Refusal → Type 0
RefusedAt history queue id why = (rest : Packet → Progress → Owed) → for_packet (beginning history) history.entries queue id rest ≡ refuses why

-- what the completion of a packet whose work is done is owed
abbrev pub finish_owed : History → QueueId → PacketId → Packet → Owed
finish_owed history queue id p = enters outcome.Accepted (completion_of (signals (beginning history) history.entries) queue id p)

-- a packet in flight whose work is done, with this completion signal
pub record IsFinishedAs (history : History) (queue : QueueId) (id : PacketId) (signal : SignalHandle) : Type 0 where
  pub place : Place
  pub found : IsInPlace history queue id place
  pub signal_is : signal ≡ completion_signal place.packet
  pub due_is : due history (Call (Finish queue id)) ≡ finish_owed history queue id place.packet

-- whether bytes have their place in memory: there are none, or they lie whole in one region
abbrev pub is_placed : List ℕ → ℕ → ℕ → Bool
is_placed lengths address size = size == 0 || is_within lengths address size

-- bytes have their place in the memory of a history
abbrev pub IsPlaced : History → ℕ → ℕ → Type 0
IsPlaced history address size = is_placed (region_lengths (beginning history).policy) address size ≡ true

-- the new memory is the old one with these changes laid over in order
abbrev pub IsChanged : List (List ℕ) → List Effect → List (List ℕ) → Type 0
IsChanged old effects new = (x byte : ℕ) → byte_at old x ≡ Some byte → byte_at new x ≡ Some (fold (byte_after x) byte effects)
