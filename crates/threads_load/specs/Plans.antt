-- Which queues the load opens, as the policy alone says (own).
use Rattle.std.specs.Prelude.{ℕ, Bool, false, ◌&&◌, nat_le, List, [], ◌∷◌, length, map, take, flat_map, Option, Some, None, if◌then◌else◌}
use Rattle.std.specs.List.{find, range_with_len}
use Rattle.aql_packet.specs.declared.ids.AgentHandle.{AgentHandle}
use Rattle.aql_packet.specs.declared.ids.ClientId.{ClientId}
use Rattle.aql_packet.specs.declared.ids.RegionHandle.{RegionHandle}
use Rattle.policy.specs.declared.object.Object.TheVariants as object
use Rattle.policy.specs.declared.rights.TheConstants.Rights.{USE, READ, WRITE}
use Rattle.policy.specs.declared.row.Takes.{Takes}
use Rattle.policy.specs.Policy.{Declared, row_of, rules_of}
use Rattle.policy.specs.Rules.{are_allowed}
use Rattle.core_model.specs.Limits.{most_queues}
use Rattle.threads_load.specs.Limits.{number_bytes}
use Rattle.threads_load.specs.declared.plan.PlannedQueue.{PlannedQueue}

-- a region of this length, if it is one, has room for the number (own)
abbrev pub is_counted_in : Option ℕ → Bool
is_counted_in None = false
is_counted_in (Some bytes) = nat_le number_bytes bytes

-- a client can count in a region: it has room, and READ and WRITE are allowed (own)
abbrev pub can_count_in : Declared → ClientId → RegionHandle → Bool
can_count_in policy client region =
    is_counted_in (row_of policy.regions region.0)
    && (are_allowed (rules_of policy) client (object.Region region) READ && are_allowed (rules_of policy) client (object.Region region) WRITE)

-- the first region that a client can count in (own)
abbrev pub first_region : Declared → ClientId → Option RegionHandle
first_region policy client = find (can_count_in policy client) (map (λ n. record { 0 = n }) (range_with_len 1 (length policy.regions)))

-- an agent takes agent packets, and its USE is allowed (own)
abbrev pub is_taken : Option Takes → Bool → Bool
is_taken None allowed = false
is_taken (Some takes) allowed = takes.agent && allowed

-- a client can send agent packets to an agent (own)
abbrev pub can_send_to : Declared → ClientId → AgentHandle → Bool
can_send_to policy client agent = is_taken (row_of policy.agents agent.0) (are_allowed (rules_of policy) client (object.Agent agent) USE)

-- a client's queue on the agent of a number, whose packets count in a region, if it can send there (own)
abbrev pub queue_for : Declared → ClientId → RegionHandle → ℕ → List PlannedQueue
queue_for policy client region n =
    if can_send_to policy client (record { 0 = n }) then record { client = client; agent = record { 0 = n }; region = region } ∷ [] else []

-- a client's queues that count in a region, in the order of their agents (own)
abbrev pub queues_in : Declared → ClientId → RegionHandle → List PlannedQueue
queues_in policy client region = flat_map (queue_for policy client region) (range_with_len 1 (length policy.agents))

-- the same, of a region that may be none (own)
abbrev pub queues_in_some : Declared → ClientId → Option RegionHandle → List PlannedQueue
queues_in_some policy client None = []
queues_in_some policy client (Some region) = queues_in policy client region

-- the queues of the client of a number: all count in the first region that it can count in (own)
abbrev pub client_queues : Declared → ℕ → List PlannedQueue
client_queues policy n = queues_in_some policy (record { 0 = n }) (first_region policy (record { 0 = n }))

-- the queues of all clients, in order (own)
abbrev pub all_queues : Declared → List PlannedQueue
all_queues policy = flat_map (client_queues policy) (range_with_len 1 (length policy.clients))

-- the queues that the load opens: as many of these as a core opens at the most (own)
abbrev pub planned : Declared → List PlannedQueue
planned policy = take most_queues (all_queues policy)
