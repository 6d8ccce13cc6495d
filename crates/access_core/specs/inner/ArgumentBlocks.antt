-- Argument blocks of packets in flight, with the rights that their packets hold: each lies with its packet, in its queue's places.
use Rattle.std.specs.Prelude.{ℕ, ◌≡◌, ◌==◌, ◌&&◌, ◌<◌, ◌∷◌, All, Bool, true, List, [], find, fold, map, not, Option, Some, None, vec_capacity, if◌then◌else◌}
use Rattle.std.specs.Global.{Vec}
use Rattle.std.specs.List.{flat_map, list_any}
use Rattle.aql_packet.specs.declared.ids.ClientId.{ClientId}
use Rattle.aql_packet.specs.declared.ids.QueueId.{QueueId}
use Rattle.aql_packet.specs.declared.ids.PacketId.{PacketId}
use Rattle.policy.specs.declared.object.Object.{Object}
use Rattle.policy.specs.declared.rights.Right.{Right}
use Rattle.policy.specs.declared.rights.Rights.{Rights}
use Rattle.policy.specs.declared.rows.PolicyRows.{PolicyRows}
use Rattle.policy.specs.Object.{same_object}
use Rattle.policy.specs.Rights.{all_rights, each_right, has}
use Rattle.policy.specs.Rules.{rows_allow}
use Rattle.grants.specs.Ledger.{Ledger, in_force}
use Rattle.grants.specs.Pairs.{is_named}
use Rattle.core_model.specs.declared.flight.InFlight.{InFlight}
use Rattle.core_model.specs.declared.limits.TheConstants.{MOST_IN_FLIGHT}
use Rattle.packet_processor.specs.declared.places.Place.{Place}
use Rattle.access_core.specs.declared.argument_blocks.ArgumentBlock.{ArgumentBlock}
use Rattle.access_core.specs.declared.queue.Queue.{Queue}
use Rattle.access_core.specs.inner.Given.{is_listed}

-- whether a block is that of a packet
abbrev pub is_block : QueueId → PacketId → ArgumentBlock → Bool
is_block queue id block = block.queue.0 == queue.0 && block.packet.0 == id.0

-- the block's bytes, if it is that of the packet, else those that were found before it
abbrev pub block_behind : QueueId → PacketId → List ℕ → ArgumentBlock → List ℕ
block_behind queue id found block = if is_block queue id block then block.bytes else found

-- the bytes of a packet's block, by the last of its blocks; of a packet without one, none
abbrev pub block_of : List ArgumentBlock → QueueId → PacketId → List ℕ
block_of blocks queue id = fold (block_behind queue id) [] blocks

-- which packet a block is of, by queue and id
abbrev pub packet_of : ArgumentBlock → QueueId × PacketId
packet_of block = (block.queue, block.packet)

-- which one a packet in flight is
abbrev pub name_of : InFlight → QueueId × PacketId
name_of f = (f.queue, f.id)

-- these are the blocks of these packets in flight: one of each, in their order, and no other
abbrev pub AreBlocksOf : List InFlight → List ArgumentBlock → Type 0
AreBlocksOf flying blocks = map packet_of blocks ≡ map name_of flying

-- whether a block is that of a packet, and lists a client's right on an object
abbrev pub lists_right : QueueId → PacketId → ClientId → Object → Right → ArgumentBlock → Bool
lists_right queue id client on right block = is_block queue id block && is_named block.rights block.client client on right

-- whether a block of a packet does
abbrev pub is_given : List ArgumentBlock → QueueId → PacketId → ClientId → Object → Right → Bool
is_given blocks queue id client on right = list_any (lists_right queue id client on right) blocks

-- the rights that a block lists, if there is one, and they are the client's
abbrev pub rights_for : ClientId → Option ArgumentBlock → List (Object × Rights)
rights_for client None = []
rights_for client (Some block) = if block.client.0 == client.0 then block.rights else []

-- the bytes of a block, if there is one, else these
abbrev pub bytes_or : List ℕ → Option ArgumentBlock → List ℕ
bytes_or none None = none
bytes_or none (Some block) = block.bytes

-- the rights that the first of a packet's blocks lists
abbrev pub rights_of : List ArgumentBlock → QueueId → PacketId → ClientId → List (Object × Rights)
rights_of blocks queue id client = rights_for client (find (is_block queue id) blocks)

-- ---- who stands against a revocation or a reload

-- whether a block lists one of some rights of a client on an object
abbrev pub lists_one : ClientId → Object → Rights → ArgumentBlock → Bool
lists_one client on rights block = list_any (λ right. has rights right && is_listed (rights_for client (Some block)) on right) all_rights

-- whether a list names one of some rights on an object (own)
abbrev pub names_one : Object → Rights → List (Object × Rights) → Bool
names_one on rights given = list_any (λ named. same_object on named.0 && list_any (λ right. has rights right && has named.1 right) all_rights) given

-- whether a block lists a right that rows don't allow its client
abbrev pub lists_denied : PolicyRows → ArgumentBlock → Bool
lists_denied rows block = list_any (λ named. not (each_right named.1 (rows_allow rows block.client named.0))) block.rights

-- whether a packet has a block that passes a test
abbrev pub has_block : (ArgumentBlock → Bool) → List ArgumentBlock → QueueId → PacketId → Bool
has_block test blocks queue id = list_any (λ block. is_block queue id block && test block) blocks

-- ---- blocks in their queues' places

-- so much memory is there that eight blocks have their place (own)
abbrev pub HasEightPlaces : Vec ArgumentBlock → Type 0
HasEightPlaces blocks = vec_capacity blocks ≡ MOST_IN_FLIGHT

-- the id of a block's packet, and the number of its launch, as numbers
abbrev pub by_packet : ArgumentBlock → ℕ
by_packet block = block.packet.0

abbrev pub by_number : ArgumentBlock → ℕ
by_number block = block.number

-- each block comes by this number before those behind it (own)
abbrev pub Ascend : (ArgumentBlock → ℕ) → List ArgumentBlock → Type 0
Ascend key [] = Unit {0}
Ascend key (first ∷ later) = All (λ block. key first < key block) later × Ascend key later

-- these are the blocks of the packets in these places: one of each, in their order (own)
abbrev pub AreOfPlaces : List Place → List ArgumentBlock → Type 0
AreOfPlaces places blocks = map (λ block. block.packet) blocks ≡ map (λ place. place.id) places

-- a block is of a packet of a queue with this number and client (own)
abbrev pub IsOfQueue : QueueId → ClientId → ArgumentBlock → Type 0
IsOfQueue queue client block = (block.queue ≡ queue) × (block.client ≡ client)

-- whether a block is of a packet of a queue
abbrev pub is_of : QueueId → ArgumentBlock → Bool
is_of queue block = block.queue.0 == queue.0

-- the blocks of queues, queue by queue (own)
abbrev pub all_blocks : List Queue → List ArgumentBlock
all_blocks queues = flat_map (λ (q : Queue). q.blocks) queues

-- the blocks of a queue; of one that isn't there, none
abbrev pub blocks_in : Option Queue → List ArgumentBlock
blocks_in None = []
blocks_in (Some q) = q.blocks

-- ---- where no packet need be looked at

-- each right that a packet's block lists is in force (own)
abbrev pub AreInForce : Ledger → List ArgumentBlock → Type 0
AreInForce grants blocks = (queue : QueueId) (id : PacketId) (client : ClientId) (on : Object) (right : Right)
    → is_given blocks queue id client on right ≡ true → in_force grants client on right ≡ true
