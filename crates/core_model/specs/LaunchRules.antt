-- Whether a packet may be launched: the launch rules in order, over the facts of the moment, and whether it may start at all.
use Rattle.std.specs.Prelude.{ℕ, ◌==◌, ◌^◌, ◌&&◌, ◌||◌, Bool, true, false, not, nat_lt, nat_le, List, [], ◌∷◌, find, length, Option, Some, None, is_some, if◌then◌else◌}
use Rattle.std.specs.List.{list_all, list_any}
use Rattle.aql_packet.specs.declared.ids.AgentHandle.{AgentHandle}
use Rattle.aql_packet.specs.declared.packet.KernelDispatch.{KernelDispatch}
use Rattle.aql_packet.specs.declared.packet.Packet.{Packet}
use Rattle.aql_packet.specs.declared.packet.Packet.TheVariants as packet
use Rattle.aql_packet.specs.declared.packet.CodecRule.TheVariants as codec
use Rattle.aql_packet.specs.Reading.{passes, packet_at, packet_type}
use Rattle.regions.specs.Memory.{is_within}
use Rattle.policy.specs.declared.object.Object.{Object}
use Rattle.executor.specs.Locations.{count_of, groups_of}
use Rattle.policy.specs.Policy.{numbered}
use Rattle.policy.specs.declared.rights.Right.{Right}
use Rattle.policy.specs.declared.rights.Right.TheVariants.{Read}
use Rattle.policy.specs.declared.row.Takes.{Takes}
use Rattle.queue_error.specs.declared.rule.Rule.{Rule}
use Rattle.queue_error.specs.declared.rule.Rule.TheVariants.{L1, L2, L3, L4, L5, L6, L7, L8, L9, L10}
use Rattle.core_model.specs.Limits.{most_in_flight}
use Rattle.executor.specs.Limits.{most_group_items, most_segment_bytes}
use Rattle.core_model.specs.declared.kernel.KernelSegments.{KernelSegments}
use Rattle.core_model.specs.declared.need.Need.{Need}
use Rattle.core_model.specs.declared.need.Subject.{Subject}
use Rattle.core_model.specs.declared.need.Subject.TheVariants as subject
use Rattle.core_model.specs.declared.outcome.WaitCause.{WaitCause}
use Rattle.core_model.specs.declared.outcome.WaitCause.TheVariants as cause
use Rattle.core_model.specs.Needs.{range_at, function_of, needs, object_of, range_need}
use Rattle.core_model.specs.Kernels.{grid_size, group_size}

-- What a packet is judged by (own).
pub record Facts : Type 0 where
  -- the agent that runs the queue's packets
  pub agent : AgentHandle
  -- which kinds of dispatch that agent takes
  pub takes : Takes
  -- the rights that the queue's client has in force
  pub in_force : Object → Right → Bool
  -- the lengths of all regions, in order
  pub lengths : List ℕ
  -- the segments of all kernels, in order
  pub kernels : List KernelSegments

-- whether a range lies whole in one region; an object lies nowhere else (own)
abbrev pub lies_whole : List ℕ → Subject → Bool
lies_whole lengths (subject.Object on) = true
lies_whole lengths (subject.Range range) = is_within lengths range.address.0 range.size

-- the agent takes packets of this kind: barriers are taken by all (own)
abbrev pub agent_takes_kind : Takes → Packet → Bool
agent_takes_kind takes (packet.Kernel _) = takes.kernel
agent_takes_kind takes (packet.Agent _) = takes.agent
agent_takes_kind takes _ = true

-- the sizes in one dimension: each is at least 1, the grid's no smaller than the work-group's, and in a dimension that isn't used
-- both are 1 (PSA, Kernel Dispatch Packet; that a grid is no smaller than its work-groups is own)
abbrev pub are_sizes : Bool → ℕ → ℕ → Bool
are_sizes is_used group grid = nat_le 1 group && nat_le 1 grid && nat_le group grid && (is_used || (group == 1 && grid == 1))

-- 1 to 3 dimensions, and sizes in each of the three (PSA, Kernel Dispatch Packet)
abbrev pub has_dimensions : KernelDispatch → Bool
has_dimensions d =
    nat_le 1 d.dimensions && nat_le d.dimensions 3
    && are_sizes true d.workgroup_size_x d.grid_size_x
    && are_sizes (nat_le 2 d.dimensions) d.workgroup_size_y d.grid_size_y
    && are_sizes (nat_le 3 d.dimensions) d.workgroup_size_z d.grid_size_z

-- the dimensions and sizes of a kernel dispatch, with not too many work-items in a work-group, nor work-groups (own limits)
abbrev pub has_sizes : KernelDispatch → Bool
has_sizes d =
    has_dimensions d
    && nat_le (count_of (group_size d)) most_group_items
    && nat_lt (count_of (groups_of (grid_size d) (group_size d))) (2 ^ 32)

-- what a dispatch asks for can be done: a kernel dispatch has sizes that may be, an agent dispatch names a known function (own)
abbrev pub asks_for_known_work : Packet → Bool
asks_for_known_work (packet.Kernel d) = has_sizes d
asks_for_known_work (packet.Agent d) = is_some (function_of d)
asks_for_known_work _ = true

-- the segments of the kernel that a dispatch names pass a test; there is none of an unknown number
abbrev pub kernel_passes : Facts → KernelDispatch → (KernelSegments → Bool) → Bool
kernel_passes facts d test = elim (numbered facts.kernels d.kernel_object.0) [ None ↦ false | Some kernel ↦ test kernel ]

-- a kernel dispatch asks for as much group memory as its kernel's variables take, and for neither segment more than there may be (own)
abbrev pub has_segments : Facts → Packet → Bool
has_segments facts (packet.Kernel d) =
    kernel_passes facts d (λ kernel. nat_le kernel.group d.group_segment_size) && nat_le d.group_segment_size most_segment_bytes && nat_le d.private_segment_size most_segment_bytes
has_segments facts _ = true

-- whether a right is in force that a packet needs, on an object, or on the region in which a range lies whole (own)
abbrev pub need_is_met : Facts → Need → Bool
need_is_met facts need = lies_whole facts.lengths need.subject && facts.in_force (object_of need.subject) need.right

-- the argument block of a kernel dispatch lies whole in a region that may be read; an empty one lies anywhere (own)
abbrev pub has_arguments : Facts → Packet → Bool
has_arguments facts (packet.Kernel d) =
    kernel_passes facts d (λ kernel. list_all (need_is_met facts) (range_need Read (range_at d.kernarg_address.0 kernel.kernarg)))
has_arguments facts _ = true

-- what a launch rule asks of a packet beside the rights that it then holds: L4 that the agent takes the kind, L5 work that can be
-- done, L7 segments, L8 an argument block that may be read (own)
abbrev pub has_form : Facts → Packet → Rule → Bool
has_form facts p L4 = agent_takes_kind facts.takes p
has_form facts p L5 = asks_for_known_work p
has_form facts p L7 = has_segments facts p
has_form facts p L8 = has_arguments facts p
has_form facts p _ = true

-- whether a packet's fields are as a launch rule asks, and the rights that it needs for the rule in force (own)
abbrev pub meets_rule : Facts → Packet → Rule → Bool
meets_rule facts p rule = has_form facts p rule && list_all (need_is_met facts) (needs rule facts.agent p)

-- what each launch rule asks of a packet's bytes and the packet that they lay out (L1 to L3: PSA, Architected Queuing Language; the rest own)
abbrev pub holds_rule : Facts → List ℕ → Packet → Rule → Bool
holds_rule facts bytes p L1 = passes codec.L1 bytes
holds_rule facts bytes p L2 = passes codec.L2 bytes
holds_rule facts bytes p L3 = passes codec.L3 bytes
holds_rule facts bytes p rule = meets_rule facts p rule

-- the launch rules, in the order in which they are tried (own)
abbrev pub launch_rules : List Rule
launch_rules = L1 ∷ L2 ∷ L3 ∷ L4 ∷ L5 ∷ L6 ∷ L7 ∷ L8 ∷ L9 ∷ L10 ∷ []

-- the first launch rule that fails, if one does (own)
unfoldable pub first_failing_rule : Facts → List ℕ → Option Rule
first_failing_rule facts bytes = find (λ rule. not (holds_rule facts bytes (packet_at (packet_type bytes) bytes) rule)) launch_rules

-- whether a packet is a barrier packet (PSA, Architected Queuing Language: barrier-AND and barrier-OR packets)
abbrev pub is_barrier : Packet → Bool
is_barrier (packet.BarrierAnd _) = true
is_barrier (packet.BarrierOr _) = true
is_barrier _ = false

-- why a packet may not start yet, by the packets in flight of its own queue; the barrier bit counts whatever the type
-- (PSA, Architected Queuing Language: the barrier bit, barrier packets; the number of slots is own)
unfoldable pub cause_to_wait : List Packet → Bool → Option WaitCause
cause_to_wait flying barrier_bit =
    if list_any is_barrier flying then Some cause.Barrier
    else if barrier_bit && nat_lt 0 (length flying) then Some cause.Active
    else if nat_le most_in_flight (length flying) then Some cause.Slots
    else None
