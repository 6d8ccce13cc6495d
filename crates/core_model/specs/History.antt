-- What a history is: what it begins from, and the entries since.
use Rattle.std.specs.Prelude.{◌≡◌, ℕ, ℤ, ◌==◌, Bool, false, List, [], map, find, Option, Some, None}
use Rattle.std.specs.List.{flat_map}
use Rattle.std.specs.Option.{unwrap_or}
use Rattle.aql_packet.specs.Ids.{same_packet}
use Rattle.grants.specs.Ledger.{IsNew, in_force, rules_in}
use Rattle.grants.specs.Pairs.{is_named}
use Rattle.regions.specs.Memory.{byte_at, zeros}
use Rattle.aql_packet.specs.declared.ids.ClientId.{ClientId}
use Rattle.aql_packet.specs.declared.ids.QueueId.{QueueId}
use Rattle.aql_packet.specs.declared.ids.PacketId.{PacketId}
use Rattle.kernel_check.specs.Programs.{Program}
use Rattle.policy.specs.declared.object.Object.{Object}
use Rattle.policy.specs.declared.rights.Right.{Right}
use Rattle.policy.specs.Policy.{Declared, initial_values, region_lengths, rules_of}
use Rattle.queue_error.specs.declared.error.QueueError.{QueueError}
use Rattle.core_model.specs.declared.entry.Entry.{Entry}
use Rattle.core_model.specs.declared.entry.Effect.{Effect}
use Rattle.core_model.specs.declared.flight.InFlight.{InFlight}
use Rattle.core_model.specs.declared.flight.Progress.{Progress}
use Rattle.core_model.specs.Limits.{launch_progress}
pub use Rattle.core_model.specs.declared.origin.Opening.{Opening}
pub use Rattle.core_model.specs.declared.origin.QueueOrigin.{QueueOrigin}
pub use Rattle.core_model.specs.declared.origin.PacketOrigin.{PacketOrigin}
pub use Rattle.core_model.specs.declared.origin.Origin.{Origin}

-- some rights on objects: whether each is one of them (own)
abbrev pub HeldRights : Type 0
HeldRights = Object → Right → Bool

-- an open queue: its number, and its opening (own)
pub record OpenQueue : Type 0 where
  pub queue : QueueId
  pub opening : Opening

-- how many queues were ever opened, and those that are open, in the order in which they were opened (own)
pub record Openings : Type 0 where
  pub opened : ℕ
  pub queues : List OpenQueue

-- what a history begins from: the answer to each question about the state, as it was behind all entries before (own)
pub record Start : Type 0 where
  -- the policy, and its kernels, checked, in order
  pub policy : Declared
  pub kernels : List Program
  -- the rights in force
  pub in_force : ClientId → Object → Right → Bool
  -- the byte at each address, and the values of the signals
  pub memory : ℕ → ℕ
  pub signals : List ℤ
  -- the queues' openings, and of each open queue the id of its next packet, its errors, and whether it was stopped; of any other queue nothing
  pub openings : Openings
  pub next_id : QueueId → ℕ
  pub errors : QueueId → List QueueError
  pub is_stopped : QueueId → Bool
  -- the packets in flight, in the order of their launches, and of each how far it has come, what it holds and its arguments; of any other packet nothing
  pub flight : List InFlight
  pub progress : QueueId → PacketId → Progress
  pub held : QueueId → PacketId → ClientId → HeldRights
  pub arguments : QueueId → PacketId → List ℕ
  -- how many entries came before
  pub before : ℕ

-- what the first history begins from: no grant in force, memory of zeros, the policy's signal values, no queue
-- and no packet, and nothing before (own)
abbrev pub opening_state : Declared → List Program → Start
opening_state policy kernels = record {
  policy = policy;
  kernels = kernels;
  in_force = λ client on right. false;
  memory = λ x. 0;
  signals = initial_values policy;
  openings = record { opened = 0; queues = [] };
  next_id = λ queue. 0;
  errors = λ queue. [];
  is_stopped = λ queue. false;
  flight = [];
  progress = λ queue id. launch_progress;
  held = λ queue id client on right. false;
  arguments = λ queue id. [];
  before = 0;
}

-- ---- what a history begins from, as data: what a rotation copies

-- what is told of a queue that isn't there (own)
abbrev pub no_queue : QueueOrigin
no_queue = record { queue = record { 0 = 0 }; opening = record { client = record { 0 = 0 }; agent = record { 0 = 0 } }; next = 0; stopped = false; errors = [] }

-- the open queue with this number (own)
abbrev pub queue_in : List QueueOrigin → QueueId → QueueOrigin
queue_in queues queue = unwrap_or (find (λ q. q.queue.0 == queue.0) queues) no_queue

-- a queue's number, with its opening (own)
abbrev pub open_queue : QueueOrigin → OpenQueue
open_queue q = record { queue = q.queue; opening = q.opening }

-- the packet in flight with this queue and id, if there is one (own)
abbrev pub packet_in : List PacketOrigin → QueueId → PacketId → Option PacketOrigin
packet_in packets queue id = find (λ p. same_packet p.flying.queue p.flying.id queue id) packets

-- whether a packet in flight holds a client's right on an object, if there is one (own)
abbrev pub packet_holds : ClientId → Object → Right → Option PacketOrigin → Bool
packet_holds client on right None = false
packet_holds client on right (Some p) = is_named p.rights p.client client on right

-- the policy in force: what was declared, with the rows on rights by which grants are allowed (own)
abbrev pub policy_in : Origin → Declared
policy_in o = record o.policy { rows = (rules_in o.grants).rows }

-- the answers that it gives to each question, with these kernels (own)
abbrev pub begin : List Program → Origin → Start
begin kernels o = record {
  policy = policy_in o;
  kernels = kernels;
  in_force = in_force o.grants;
  memory = λ x. unwrap_or (byte_at o.memory x) 0;
  signals = o.signals;
  openings = record { opened = o.opened; queues = map open_queue o.queues };
  next_id = λ queue. (queue_in o.queues queue).next;
  errors = λ queue. (queue_in o.queues queue).errors;
  is_stopped = λ queue. (queue_in o.queues queue).stopped;
  flight = map (λ p. p.flying) o.packets;
  progress = λ queue id. elim (packet_in o.packets queue id) [ None ↦ launch_progress | Some p ↦ p.progress ];
  held = λ queue id client on right. packet_holds client on right (packet_in o.packets queue id);
  arguments = λ queue id. elim (packet_in o.packets queue id) [ None ↦ [] | Some p ↦ p.arguments ];
  before = o.before;
}

-- what a core begins from that is opened over a policy: no right in force or held, memory of zeros, the policy's signal values, no queue
-- and no packet, and nothing before (own)
pub record IsOpeningOrigin (policy : Declared) (o : Origin) : Type 0 where
  pub policy_is : o.policy ≡ policy
  pub rules : rules_in o.grants ≡ rules_of policy
  pub grants : IsNew o.grants
  pub memory : o.memory ≡ zeros (region_lengths policy)
  pub signals : o.signals ≡ initial_values policy
  pub opened : o.opened ≡ 0
  pub queues : o.queues ≡ []
  pub packets : o.packets ≡ []
  pub before : o.before ≡ 0

-- an audit: what it begins from, how many entries it has place for, and its entries in order (own)
pub record History : Type 0 where
  pub origin : Origin
  pub kernels : List Program
  pub capacity : ℕ
  pub entries : List Entry

-- what its history begins from: the answer to each question (own)
abbrev pub beginning : History → Start
beginning history = begin history.kernels history.origin

-- all changes that entries made, in order (own)
unfoldable pub effects_of : List Entry → List Effect
effects_of entries = flat_map (λ entry. entry.effects) entries

-- a part of a history: what it begins from, its entries, and what a history begins from behind them (own)
pub record Part : Type 0 where
  pub start : Origin
  pub entries : List Entry
  pub end : Origin
