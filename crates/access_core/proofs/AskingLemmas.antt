-- What lacked memory had asked for some.
use Rattle.core_model.specs.History.{beginning}
use Rattle.core_model.specs.Asking.{asks_for_memory}
use Rattle.std.proofs.Common.{◌≡◌, ◌∙◌, ℕ, ◌+◌, ◌<◌, ◌++◌, List, length, length-append, nat_lt, true, refl, Some, arith}
use Rattle.aql_packet.specs.declared.packet.Packet.TheVariants as packet
use Rattle.access_core.proofs.Terms.{Call, History, IsInPlace, KernelDispatch, ObjectRight, Opening, Owed, Packet, PacketId, Place, QueueId, RunNext, Take, agent_writes, arguments_of}
use Rattle.access_core.proofs.Terms.{Outcome, decoded, enters, function_of, function_writes, held_by_arguments, held_by_needs, owner, result_writes, rights_at_launch}
use Rattle.aql_packet.specs.declared.packet.AgentDispatch.{AgentDispatch}

some-true : (n : ℕ) → 0 < n → nat_lt 0 n ≡ true
some-true n some = grind arith

-- each packet holds the use of its agent
some-held : (opening : Opening) (p : Packet) (rest : List ObjectRight) → 0 < length (held_by_needs opening p ++ rest)
some-held opening p rest = omega arith

-- so a launch makes a list of a right at least
pub launch-asks : (h : History) (queue : QueueId) (id : PacketId) (bytes : List ℕ) (opening : Opening) (p : Packet) (owing : Owed) → owner (beginning h) h.entries queue ≡ Some opening
    → decoded bytes ≡ Some p → asks_for_memory h (Take queue id bytes) owing ≡ true
launch-asks h queue id bytes opening p owing owned laid =
    let held : 0 < length (rights_at_launch (beginning h) h.entries opening p) = some-held opening p (held_by_arguments (beginning h) h.entries opening.client p) in
    rw (owned, laid) (some-true (length (rights_at_launch (beginning h) h.entries opening p) + length (arguments_of (beginning h) h.entries p)) (omega (arith, held)))

module _ (h : History) (queue : QueueId) (id : PacketId) (place : Place) (found : IsInPlace h queue id place) where
  -- the group of an agent dispatch asks for what it writes
  pub agent-asks : (d : AgentDispatch) → place.packet ≡ packet.Agent d → (outcome : Outcome) → 0 < length (agent_writes (beginning h) h.entries d)
      → asks_for_memory h (Call (RunNext queue id)) (enters outcome (agent_writes (beginning h) h.entries d)) ≡ true
  agent-asks d packet_is outcome some = rw (found.found, found.packet_is ∙ packet_is) (some-true _ some)

  -- one of a kernel dispatch for its run
  pub kernel-asks : (d : KernelDispatch) → place.packet ≡ packet.Kernel d → (owing : Owed) → asks_for_memory h (Call (RunNext queue id)) owing ≡ true
  kernel-asks d packet_is owing = rw (found.found, found.packet_is ∙ packet_is) refl

-- an agent dispatch writes what its function does, and its result
pub writes-target : (h : History) (d : AgentDispatch) → 0 < length (function_writes (beginning h) h.entries (function_of d)) → 0 < length (agent_writes (beginning h) h.entries d)
writes-target h d some = omega (arith, some, length-append (function_writes (beginning h) h.entries (function_of d)) (result_writes (beginning h) h.entries d))

pub writes-result : (h : History) (d : AgentDispatch) → 0 < length (result_writes (beginning h) h.entries d) → 0 < length (agent_writes (beginning h) h.entries d)
writes-result h d some = omega (arith, some, length-append (function_writes (beginning h) h.entries (function_of d)) (result_writes (beginning h) h.entries d))
