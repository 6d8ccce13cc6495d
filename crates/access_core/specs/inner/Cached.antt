-- What the core caches beside its audit, and that it is what the audit says.
use Rattle.std.specs.Prelude.{◌≡◌, ℕ, ◌+◌, ◌≤◌, Bool, true, false, nat_lt, List, [], ◌∷◌, ◌++◌, map, length, Some, All, vec_capacity}
use Rattle.std.specs.Global.{Vec}
use Rattle.aql_packet.specs.declared.ids.ClientId.{ClientId}
use Rattle.aql_packet.specs.declared.ids.QueueId.{QueueId}
use Rattle.aql_packet.specs.declared.ids.PacketId.{PacketId}
use Rattle.policy.specs.declared.object.Object.{Object}
use Rattle.policy.specs.declared.rights.Right.{Right}
use Rattle.policy.specs.Policy.{rules_of, region_lengths}
use Rattle.regions.specs.Memory.{byte_at, lengths_of, lies_in_region}
use Rattle.sequences.specs.Room.{Roomy}
use Rattle.core_model.specs.declared.entry.Entry.{Entry}
use Rattle.core_model.specs.declared.limits.TheConstants.{MOST_BEFORE, MOST_ENTRIES, QUEUES}
use Rattle.core_model.specs.History.{History, Start, begin, beginning, policy_in}
use Rattle.core_model.specs.declared.origin.Origin.{Origin}
use Rattle.core_model.specs.Grants.{in_force}
use Rattle.core_model.specs.Policies.{policy_at}
use Rattle.core_model.specs.Memory.{memory_at, signals}
use Rattle.core_model.specs.Queues.{openings}
use Rattle.core_model.specs.Flight.{flight}
use Rattle.core_model.specs.Holds.{arguments, held}
use Rattle.core_model.specs.Kernels.{segments_of}
use Rattle.core_model.specs.Legal.{IsLegal}
use Rattle.access_core.specs.declared.access.AccessCore.TheInside.{Inside}
use Rattle.grants.specs.Ledger as ledger
use Rattle.grants.specs.Ledger.{Ledger}
use Rattle.access_core.specs.inner.ArgumentBlocks.{AreBlocksOf, block_of, is_given}
use Rattle.access_core.specs.Cores.{Core, TablePlaces, places_of}
use Rattle.access_core.specs.declared.argument_blocks.ArgumentBlock.{ArgumentBlock}
use Rattle.access_core.specs.declared.kernel.Kernel.{Kernel}
use Rattle.access_core.specs.declared.queue.Queue.{Queue}
use Rattle.core_model.specs.declared.kernel.KernelSegments.{KernelSegments}
use Rattle.access_core.specs.Opening.{has_entry, program_of}
pub use Rattle.access_core.specs.inner.CachedQueue.{AreLaid, IsSound, cached_view, cached_openings, cached_queue, cached_opening, queue_at}
use Rattle.access_core.specs.inner.Numbers.{AscendFrom, queue_in}
use Rattle.access_core.specs.inner.LiesInRegions.{lies_in_regions}
use Rattle.access_core.specs.inner.Ready.{AreReady}

-- what the history begins from, as data, and the answers that it gives
abbrev pub origin_of : Inside → Origin
origin_of a = a.start

abbrev pub start_of : Inside → Start
start_of a = begin (map program_of a.kernels.items) (origin_of a)

-- the history that the fields tell
abbrev pub history_of : Inside → History
history_of a = record { origin = origin_of a; kernels = map program_of a.kernels.items; capacity = a.capacity; entries = a.audit.items }

-- how many places for errors a queue has
abbrev pub error_places : Queue → ℕ
error_places q = places_of q.errors

-- how many places the tables have that can grow
abbrev pub table_places : Vec Kernel → Vec KernelSegments → Vec Queue → Ledger → ℕ → Roomy Entry → TablePlaces
table_places kernels segments queues grants spare audit = record {
  kernel_places = vec_capacity kernels;
  segment_places = vec_capacity segments;
  queue_places = vec_capacity queues;
  error_places = map error_places queues.items;
  hold_places = ledger.places grants;
  block_places = spare;
  audit_places = places_of audit;
}

-- what a contract sees of the fields
abbrev pub core_of : Inside → Core
core_of a = record { history = history_of a; places = table_places a.kernels a.segments a.queues a.grants a.spare a.audit }

-- whether an audit has no room for an entry after which as many packets are in flight
abbrev pub is_full : History → Bool
is_full h = nat_lt h.capacity (length h.entries + 1 + length (flight (beginning h) h.entries))

-- an audit with one entry more behind the others, and a place less that is free
pub record IsEntered (old new : Roomy Entry) (entry : Entry) : Type 0 where
  pub items : new.items ≡ old.items ++ entry ∷ []
  pub room : new.room + 1 ≡ old.room

-- no packet holds anything by these grants
abbrev pub HoldsNone : Ledger → Type 0
HoldsNone grants = (queue : QueueId) (id : PacketId) (client : ClientId) (on : Object) (right : Right) → ledger.holds grants queue id client on right ≡ false

-- What holds of each start that a core keeps: no packet holds anything by its grants, whose rules are its policy's, and its regions are as
-- long as that says.
pub record IsKeptStart (start : Origin) : Type 0 where
  pub unheld : HoldsNone start.grants
  pub rules : ledger.rules_in start.grants ≡ rules_of (policy_in start)
  pub lengths : lengths_of start.memory ≡ region_lengths start.policy

-- The fields are what the history says, question by question.
pub record IsCached (a : Inside) : Type 0 where
  -- the rights in force
  pub granted : (client : ClientId) (on : Object) (right : Right) → ledger.in_force a.grants client on right ≡ in_force (start_of a) a.audit.items client on right
  -- what the policy in force declares and allows
  pub rules : ledger.rules_in a.grants ≡ rules_of (policy_at (start_of a) a.audit.items)
  -- the argument blocks of packets in flight, in the order of their launches, and where they lie
  pub blocks : List ArgumentBlock
  pub laid : AreLaid a.queues.items (a.start.before + length a.audit.items) blocks
  -- the rights that packets in flight hold: each is listed with its packet's argument block, and none is kept beside the rights in force
  pub held : (queue : QueueId) (id : PacketId) (client : ClientId) (on : Object) (right : Right)
      → is_given blocks queue id client on right ≡ held (start_of a) a.audit.items queue id client on right
  pub unheld : HoldsNone a.grants
  -- there is one block of each packet in flight, as it was at its launch
  pub blocks_are : AreBlocksOf (flight (start_of a) a.audit.items) blocks
  pub arguments : (queue : QueueId) (id : PacketId) → block_of blocks queue id ≡ arguments (start_of a) a.audit.items queue id
  -- each kernel is one of its checked kernels, and has these segments
  pub entries : All (λ kernel. has_entry kernel ≡ true) a.kernels.items
  pub segments : a.segments.items ≡ map segments_of (map program_of a.kernels.items)
  -- the regions' lengths, and each byte in them
  pub lengths : lengths_of a.memory ≡ region_lengths a.start.policy
  pub memory : (x : ℕ) → lies_in_region (region_lengths a.start.policy) x ≡ true → byte_at a.memory x ≡ Some (memory_at (start_of a) a.audit.items x)
  -- the signals' values
  pub values : a.signals ≡ signals (start_of a) a.audit.items
  -- the open queues, by number, and how many were ever opened
  pub openings : cached_openings a.opened a.queues.items ≡ openings (start_of a) a.audit.items
  pub queues : (queue : QueueId) → cached_view (queue_in a.queues.items queue) ≡ queue_at (start_of a) a.audit.items queue
  pub ascending : AscendFrom 0 a.queues.items
  pub up_to : All (λ q. q.number.0 ≤ a.opened) a.queues.items
  pub sound : All IsSound a.queues.items
  pub few_queues : length a.queues.items ≤ QUEUES
  -- how many packets are in flight, each with all its ranges within regions
  pub in_flight_count : a.in_flight_count ≡ length (flight (start_of a) a.audit.items)
  pub within : All (λ f. lies_in_regions (region_lengths a.start.policy) f.packet ≡ true) (flight (start_of a) a.audit.items)
  -- room for an entry of each packet in flight, and memory for as many entries as there may be
  pub room : length a.audit.items + a.in_flight_count ≤ a.capacity
  pub places : a.capacity ≡ length a.audit.items + a.audit.room
  pub few : a.capacity ≤ MOST_ENTRIES
  -- the start, and no more entries came before it than may
  pub start_kept : IsKeptStart a.start
  pub before : a.start.before ≤ MOST_BEFORE
  -- what was told of packets, and room for what will be told of the others
  pub ready : AreReady a.fresh a.told a.start blocks
  -- the audit is a legal history
  pub legal : IsLegal (start_of a) a.audit.items
