-- What packets in flight hold, and which of them stands against a revocation or a reload.
use Rattle.std.specs.Prelude.{ℕ, ◌==◌, ◌&&◌, ◌||◌, Bool, false, not, nat_lt, nat_le, List, [], ◌∷◌, ◌++◌, map, filter, find, Option, Some, None, if◌then◌else◌}
use Rattle.std.specs.List.{flat_map, list_all, list_any}
use Rattle.aql_packet.specs.declared.ids.ClientId.{ClientId}
use Rattle.aql_packet.specs.declared.ids.QueueId.{QueueId}
use Rattle.aql_packet.specs.declared.ids.PacketId.{PacketId}
use Rattle.aql_packet.specs.declared.packet.Packet.{Packet}
use Rattle.aql_packet.specs.declared.packet.Packet.TheVariants as packet
use Rattle.policy.specs.declared.object.Object.{Object}
use Rattle.policy.specs.declared.object.Object.TheVariants as object
use Rattle.regions.specs.Memory.{lies_in_region, region_of}
use Rattle.policy.specs.declared.rights.Right.{Right}
use Rattle.policy.specs.declared.rights.Rights.{Rights}
use Rattle.policy.specs.Object.{same_object}
use Rattle.policy.specs.Rights.{all_rights, bit_of, has}
use Rattle.core_model.specs.declared.entry.Entry.{Entry}
use Rattle.core_model.specs.declared.flight.InFlight.{InFlight}
use Rattle.core_model.specs.History.{HeldRights, Start}
use Rattle.core_model.specs.Grants.{in_force}
use Rattle.policy.specs.Policy.{region_lengths, rules_of}
use Rattle.policy.specs.Listing.{all_objects}
use Rattle.policy.specs.Rules.{count, rows_allow}
use Rattle.policy.specs.declared.rows.PolicyRows.{PolicyRows}
use Rattle.core_model.specs.Kernels.{argument_block, kernel_of, wide_arguments}
use Rattle.core_model.specs.Queues.{Opening, owner}
use Rattle.core_model.specs.Flight.{flight, is_packet, launched_by, releases}
use Rattle.core_model.specs.declared.need.Need.{Need}
use Rattle.core_model.specs.Needs.{needs, object_of}
use Rattle.core_model.specs.LaunchRules.{launch_rules}

-- one right on one object (own)
abbrev pub ObjectRight : Type 0
ObjectRight = Object × Right

-- the right on the object that a need asks for (own)
abbrev pub right_needed : Need → ObjectRight
right_needed need = (object_of need.subject, need.right)

-- what a packet holds by what it needs for its agent
abbrev pub held_by_needs : Opening → Packet → List ObjectRight
held_by_needs opening p = flat_map (λ rule. map right_needed (needs rule opening.agent p)) launch_rules

-- all rights that are in force on an object, each by itself
abbrev pub all_in_force : (Object → Right → Bool) → Object → List ObjectRight
all_in_force in_force on = map (λ right. (on, right)) (filter (in_force on) all_rights)

-- all rights in force on the region in which an argument points, by the regions' lengths, if it points in one (own)
abbrev pub held_by_pointer : (Object → Right → Bool) → List ℕ → ℕ → List ObjectRight
held_by_pointer in_force lengths address =
    if lies_in_region lengths address then all_in_force in_force (object.Region (record { 0 = region_of address })) else []

-- what a packet holds by its arguments: a kernel dispatch all rights in force on each region in which one of its arguments of 64
-- bits points (own)
abbrev pub held_by_arguments : Start → List Entry → ClientId → Packet → List ObjectRight
held_by_arguments start entries client (packet.Kernel d) =
    flat_map (held_by_pointer (in_force start entries client) (region_lengths start.policy)) (wide_arguments (kernel_of start d).wide (argument_block start entries d))
held_by_arguments start entries client _ = []

-- what a packet holds from its launch behind these entries on: all that it needs for its agent, and what its arguments have it hold (own)
abbrev pub rights_at_launch : Start → List Entry → Opening → Packet → List ObjectRight
rights_at_launch start entries opening p = held_by_needs opening p ++ held_by_arguments start entries opening.client p

-- whether a right on an object is one of these (own)
abbrev pub is_among : List ObjectRight → HeldRights
is_among all on right = list_any (λ h. same_object on h.0 && (bit_of h.1 == bit_of right)) all

-- whether a packet that is launched behind these entries, in a queue with this opening, holds a client's right, if there are both
abbrev pub gives : Start → List Entry → ClientId → Object → Right → Option Opening → Option InFlight → Bool
gives start entries client on right (Some opening) (Some f) = opening.client.0 == client.0 && is_among (rights_at_launch start entries opening f.packet) on right
gives start entries client on right _ _ = false

-- the argument block of a packet that is launched behind these entries, if it is a kernel dispatch
abbrev pub arguments_of : Start → List Entry → Packet → List ℕ
arguments_of start entries (packet.Kernel d) = argument_block start entries d
arguments_of start entries _ = []

-- the argument block of a packet that is launched behind these entries, if one is (own)
abbrev pub arguments_if : Start → List Entry → Option InFlight → List ℕ
arguments_if start entries None = []
arguments_if start entries (Some f) = arguments_of start entries f.packet

-- whether a packet that is launched is the one with this queue and id (own)
abbrev pub is_launch : QueueId → PacketId → Option InFlight → Bool
is_launch queue id None = false
is_launch queue id (Some f) = is_packet queue id f

-- what follows along some entries, each taken with those that come before it (own)
abbrev pub along : {X : Type 0} → (List Entry → X → Entry → X) → List Entry → X → List Entry → X
along step before x [] = x
along step before x (entry ∷ entries) = along step (before ++ entry ∷ []) (step before x entry) entries

-- whether a packet holds a client's right on an object after an entry behind others, by whether it did before: its launch gives it, its
-- release takes it (own)
abbrev pub held_after : Start → QueueId → PacketId → ClientId → Object → Right → List Entry → Bool → Entry → Bool
held_after start queue id client on right before was entry =
    (was || (is_launch queue id (launched_by entry.event entry.outcome) && gives start before client on right (owner start before queue) (launched_by entry.event entry.outcome)))
    && not (list_any (releases queue id) entry.effects)

-- what a packet holds of a client's rights (own)
unfoldable pub held : Start → List Entry → QueueId → PacketId → ClientId → HeldRights
held start entries queue id client on right = along (held_after start queue id client on right) [] (start.held queue id client on right) entries

-- what a packet holds, for the owner of its queue (own)
abbrev pub own_rights : Start → List Entry → QueueId → PacketId → HeldRights
own_rights start entries queue id on right = elim (owner start entries queue) [ None ↦ false | Some opening ↦ held start entries queue id opening.client on right ]

-- the argument block of a packet after an entry behind others, by what it was before
abbrev pub arguments_after : Start → QueueId → PacketId → List Entry → List ℕ → Entry → List ℕ
arguments_after start queue id before was entry =
    if list_any (releases queue id) entry.effects then []
    else if is_launch queue id (launched_by entry.event entry.outcome) then arguments_if start before (launched_by entry.event entry.outcome)
    else was

-- the argument block of a packet in flight, as it was at its launch
unfoldable pub arguments : Start → List Entry → QueueId → PacketId → List ℕ
arguments start entries queue id = along (arguments_after start queue id) [] (start.arguments queue id) entries

-- whether a packet in flight holds one of these rights of the client on the object (own)
abbrev pub holds_one_of : Start → List Entry → ClientId → Object → Rights → InFlight → Bool
holds_one_of start entries client on rights f = list_any (λ right. has rights right && held start entries f.queue f.id client on right) all_rights

-- the packets in flight that hold one of these rights of the client on the object (own)
abbrev pub holders : Start → List Entry → ClientId → Object → Rights → List InFlight
holders start entries client on rights = filter (holds_one_of start entries client on rights) (flight start entries)

-- whether a packet comes before another, or is it: by queue, then by id (own)
abbrev pub is_up_to : InFlight → InFlight → Bool
is_up_to f g = nat_lt f.queue.0 g.queue.0 || (f.queue.0 == g.queue.0 && nat_le f.id.0 g.id.0)

-- the least of some packets: the one of them that comes before each, or is it (own)
abbrev pub least_in_flight : List InFlight → Option InFlight
least_in_flight all = find (λ f. list_all (is_up_to f) all) all

-- of all packets that hold one of these rights, the one with the least queue, then the least id (own)
abbrev pub holder : Start → List Entry → ClientId → Object → Rights → Option InFlight
holder start entries client on rights = least_in_flight (holders start entries client on rights)

-- whether a packet in flight holds a right, of the owner of its queue, that these rows don't allow (own)
abbrev pub holds_denied : Start → List Entry → PolicyRows → InFlight → Bool
holds_denied start entries rows f = elim (owner start entries f.queue) [
  | None ↦ false
  | Some opening ↦ list_any (λ on. list_any (λ right. held start entries f.queue f.id opening.client on right && not (rows_allow rows opening.client on right)) all_rights)
      (all_objects (count (rules_of start.policy)))
]

-- of all packets that hold one, the packet with the least queue, then the least id: it stands against a reload of these rows (own)
abbrev pub blocked : Start → List Entry → PolicyRows → Option InFlight
blocked start entries rows = least_in_flight (filter (holds_denied start entries rows) (flight start entries))
