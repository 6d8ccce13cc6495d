-- `==` of packets, errors, queues and rows tells whether they are the same.
use Rattle.std.proofs.Common.{◌≡◌, ◌&&◌, Bool, Option, Some, None, refl, sym, ap, subst, rules, true≢false}
use Rattle.std.specs.Prelude.{nat_eq}
use Rattle.std.specs.Bool.{Decides}
use Rattle.std.specs.Cmp.{booleans_Decides}
use Rattle.std.specs.Cmp.Lexicographic.{pointwise_decides}
use Rattle.std.specs.Option.{option_eq}
use Rattle.std.proofs.lemmas.Bool.Decides.{Decides-and, Decides-eqb, Decides-like}
use Rattle.aql_packet.specs.declared.ids.Address.{Address}
use Rattle.aql_packet.specs.declared.ids.AgentHandle.{AgentHandle}
use Rattle.aql_packet.specs.declared.ids.ClientId.{ClientId}
use Rattle.aql_packet.specs.declared.ids.KernelObject.{KernelObject}
use Rattle.aql_packet.specs.declared.ids.PacketId.{PacketId}
use Rattle.aql_packet.specs.declared.ids.QueueId.{QueueId}
use Rattle.aql_packet.specs.declared.ids.RegionHandle.{RegionHandle}
use Rattle.aql_packet.specs.declared.ids.SignalHandle.{SignalHandle}
use Rattle.aql_packet.specs.declared.packet.Scope.{Scope}
use Rattle.aql_packet.specs.declared.packet.Header.{Header}
use Rattle.aql_packet.specs.declared.packet.Barrier.{Barrier}
use Rattle.aql_packet.specs.declared.packet.AgentDispatch.{AgentDispatch}
use Rattle.aql_packet.specs.declared.packet.KernelDispatch.{KernelDispatch}
use Rattle.aql_packet.specs.declared.packet.Packet.{Packet}
use Rattle.aql_packet.specs.declared.packet.Packet.TheVariants as packet
use Rattle.queue_error.specs.declared.rule.Rule.{Rule}
use Rattle.queue_error.specs.declared.error.FaultPlace.{FaultPlace}
use Rattle.queue_error.specs.declared.error.QueueError.{QueueError}
use Rattle.queue_error.specs.declared.error.SegmentAddress.{SegmentAddress}
use Rattle.queue_error.specs.declared.error.SegmentAddress.TheVariants as segment
use Rattle.policy.specs.declared.object.Kind.{Kind}
use Rattle.policy.specs.declared.object.Object.{Object}
use Rattle.policy.specs.declared.object.Object.TheVariants as object
use Rattle.policy.specs.declared.row.Grantee.{Grantee}
use Rattle.policy.specs.declared.row.Grantee.TheVariants as grantee
use Rattle.policy.specs.declared.row.Target.{Target}
use Rattle.policy.specs.declared.row.Target.TheVariants as target
use Rattle.policy.specs.declared.row.RightsRow.{RightsRow}
use Rattle.policy.specs.declared.rows.PolicyRows.{PolicyRows}
use Rattle.policy.specs.declared.rights.Rights.{Rights}
use Rattle.core_model.specs.declared.outcome.Satisfied.{Satisfied}
use Rattle.core_model.specs.declared.flight.InFlight.{InFlight}
use Rattle.core_model.specs.declared.flight.Progress.{Progress}
use Rattle.core_model.specs.declared.origin.Opening.{Opening}
use Rattle.core_model.specs.declared.origin.QueueOrigin.{QueueOrigin}
use Rattle.core_model.specs.declared.origin.PacketOrigin.{PacketOrigin}
use Rattle.aql_packet.specs.contracts.packet.ScopePartialEq.TheImpl as scope_test
use Rattle.aql_packet.specs.contracts.packet.HeaderPartialEq.TheImpl as header_test
use Rattle.aql_packet.specs.contracts.packet.BarrierPartialEq.TheImpl as barrier_test
use Rattle.aql_packet.specs.contracts.packet.AgentDispatchPartialEq.TheImpl as agent_test
use Rattle.aql_packet.specs.contracts.packet.KernelDispatchPartialEq.TheImpl as kernel_test
use Rattle.aql_packet.specs.contracts.packet.PacketPartialEq.TheImpl as packet_test
use Rattle.queue_error.specs.contracts.rule.RulePartialEq.TheImpl as rule_test
use Rattle.queue_error.specs.contracts.error.FaultPlacePartialEq.TheImpl as place_test
use Rattle.queue_error.specs.contracts.error.QueueErrorPartialEq.TheImpl as error_test
use Rattle.queue_error.specs.contracts.error.SegmentAddressPartialEq.TheImpl as segment_test
use Rattle.policy.specs.contracts.object.KindPartialEq.TheImpl as kind_test
use Rattle.policy.specs.contracts.object.ObjectPartialEq.TheImpl as object_test
use Rattle.policy.specs.contracts.row.GranteePartialEq.TheImpl as grantee_test
use Rattle.policy.specs.contracts.row.TargetPartialEq.TheImpl as target_test
use Rattle.policy.specs.contracts.row.RightsRowPartialEq.TheImpl as row_test
use Rattle.policy.specs.contracts.rows.PolicyRowsPartialEq.TheImpl as rows_test
use Rattle.core_model.specs.contracts.outcome.SatisfiedPartialEq.TheImpl as satisfied_test
use Rattle.core_model.specs.contracts.flight.InFlightPartialEq.TheImpl as flying_test
use Rattle.core_model.specs.contracts.flight.ProgressPartialEq.TheImpl as progress_test
use Rattle.core_model.specs.contracts.origin.OpeningPartialEq.TheImpl as opening_test
use Rattle.core_model.specs.contracts.origin.QueueOriginPartialEq.TheImpl as queue_test
use Rattle.core_model.specs.contracts.origin.PacketOriginPartialEq.TheImpl as packet_origin_test

-- ---- numbers by which things are named

address_decides : (a b : Address) → Decides (nat_eq a.0 b.0) (a ≡ b)
address_decides a b = Decides-like _ (λ h. λ i. record { 0 = h i }) (λ e. ap (λ (x : Address). x.0) e) (Decides-eqb a.0 b.0)

agent_id_decides : (a b : AgentHandle) → Decides (nat_eq a.0 b.0) (a ≡ b)
agent_id_decides a b = Decides-like _ (λ h. λ i. record { 0 = h i }) (λ e. ap (λ (x : AgentHandle). x.0) e) (Decides-eqb a.0 b.0)

client_decides : (a b : ClientId) → Decides (nat_eq a.0 b.0) (a ≡ b)
client_decides a b = Decides-like _ (λ h. λ i. record { 0 = h i }) (λ e. ap (λ (x : ClientId). x.0) e) (Decides-eqb a.0 b.0)

kernel_id_decides : (a b : KernelObject) → Decides (nat_eq a.0 b.0) (a ≡ b)
kernel_id_decides a b = Decides-like _ (λ h. λ i. record { 0 = h i }) (λ e. ap (λ (x : KernelObject). x.0) e) (Decides-eqb a.0 b.0)

id_decides : (a b : PacketId) → Decides (nat_eq a.0 b.0) (a ≡ b)
id_decides a b = Decides-like _ (λ h. λ i. record { 0 = h i }) (λ e. ap (λ (x : PacketId). x.0) e) (Decides-eqb a.0 b.0)

queue_id_decides : (a b : QueueId) → Decides (nat_eq a.0 b.0) (a ≡ b)
queue_id_decides a b = Decides-like _ (λ h. λ i. record { 0 = h i }) (λ e. ap (λ (x : QueueId). x.0) e) (Decides-eqb a.0 b.0)

region_decides : (a b : RegionHandle) → Decides (nat_eq a.0 b.0) (a ≡ b)
region_decides a b = Decides-like _ (λ h. λ i. record { 0 = h i }) (λ e. ap (λ (x : RegionHandle). x.0) e) (Decides-eqb a.0 b.0)

signal_decides : (a b : SignalHandle) → Decides (nat_eq a.0 b.0) (a ≡ b)
signal_decides a b = Decides-like _ (λ h. λ i. record { 0 = h i }) (λ e. ap (λ (x : SignalHandle). x.0) e) (Decides-eqb a.0 b.0)

rights_decides : (a b : Rights) → Decides (nat_eq a.0 b.0) (a ≡ b)
rights_decides a b = Decides-like _ (λ h. λ i. record { 0 = h i }) (λ e. ap (λ (x : Rights). x.0) e) (Decides-eqb a.0 b.0)

-- ---- packets

scope_decides : (a b : Scope) → Decides (scope_test.eq-value.it a b) (a ≡ b)
scope_decides a b = search rules

header_decides : (a b : Header) → Decides (header_test.eq-value.it a b) (a ≡ b)
header_decides a b = search rules

barrier_decides : (a b : Barrier) → Decides (barrier_test.eq-value.it a b) (a ≡ b)
barrier_decides a b = Decides-like _ whole parts
    (Decides-and _ _ (header_decides a.header b.header) (Decides-and _ _ (pointwise_decides signal_decides a.dependencies b.dependencies) (signal_decides a.completion_signal b.completion_signal)))
  where
    whole : ((a.header ≡ b.header) × ((a.dependencies ≡ b.dependencies) × (a.completion_signal ≡ b.completion_signal))) → a ≡ b
    whole h = λ i. record { header = h.0 i; dependencies = h.1.0 i; completion_signal = h.1.1 i }

    parts : a ≡ b → ((a.header ≡ b.header) × ((a.dependencies ≡ b.dependencies) × (a.completion_signal ≡ b.completion_signal)))
    parts e = (ap (λ (x : Barrier). x.header) e, (ap (λ (x : Barrier). x.dependencies) e, ap (λ (x : Barrier). x.completion_signal) e))

agent_decides : (a b : AgentDispatch) → Decides (agent_test.eq-value.it a b) (a ≡ b)
agent_decides a b = Decides-like _ whole parts
    (Decides-and _ _ (header_decides a.header b.header) (Decides-and _ _ (Decides-eqb a.function b.function) (Decides-and _ _ (address_decides a.return_address b.return_address) (Decides-and _ _ (pointwise_decides Decides-eqb a.arguments b.arguments) (signal_decides a.completion_signal b.completion_signal)))))
  where
    whole : ((a.header ≡ b.header) × ((a.function ≡ b.function) × ((a.return_address ≡ b.return_address) × ((a.arguments ≡ b.arguments) × (a.completion_signal ≡ b.completion_signal))))) → a ≡ b
    whole h = λ i. record { header = h.0 i; function = h.1.0 i; return_address = h.1.1.0 i; arguments = h.1.1.1.0 i; completion_signal = h.1.1.1.1 i }

    parts : a ≡ b → ((a.header ≡ b.header) × ((a.function ≡ b.function) × ((a.return_address ≡ b.return_address) × ((a.arguments ≡ b.arguments) × (a.completion_signal ≡ b.completion_signal)))))
    parts e = (ap (λ (x : AgentDispatch). x.header) e, (ap (λ (x : AgentDispatch). x.function) e, (ap (λ (x : AgentDispatch). x.return_address) e, (ap (λ (x : AgentDispatch). x.arguments) e, ap (λ (x : AgentDispatch). x.completion_signal) e))))

kernel_decides : (a b : KernelDispatch) → Decides (kernel_test.eq-value.it a b) (a ≡ b)
kernel_decides a b = Decides-like _ whole parts
    (Decides-and _ _ (header_decides a.header b.header) (Decides-and _ _ (Decides-eqb a.dimensions b.dimensions) (Decides-and _ _ (Decides-eqb a.workgroup_size_x b.workgroup_size_x) (Decides-and _ _ (Decides-eqb a.workgroup_size_y b.workgroup_size_y) (Decides-and _ _ (Decides-eqb a.workgroup_size_z b.workgroup_size_z) (Decides-and _ _ (Decides-eqb a.grid_size_x b.grid_size_x) (Decides-and _ _ (Decides-eqb a.grid_size_y b.grid_size_y) (Decides-and _ _ (Decides-eqb a.grid_size_z b.grid_size_z) (Decides-and _ _ (Decides-eqb a.private_segment_size b.private_segment_size) (Decides-and _ _ (Decides-eqb a.group_segment_size b.group_segment_size) (Decides-and _ _ (kernel_id_decides a.kernel_object b.kernel_object) (Decides-and _ _ (address_decides a.kernarg_address b.kernarg_address) (signal_decides a.completion_signal b.completion_signal)))))))))))))
  where
    whole : ((a.header ≡ b.header) × ((a.dimensions ≡ b.dimensions) × ((a.workgroup_size_x ≡ b.workgroup_size_x) × ((a.workgroup_size_y ≡ b.workgroup_size_y) × ((a.workgroup_size_z ≡ b.workgroup_size_z) × ((a.grid_size_x ≡ b.grid_size_x) × ((a.grid_size_y ≡ b.grid_size_y) × ((a.grid_size_z ≡ b.grid_size_z) × ((a.private_segment_size ≡ b.private_segment_size) × ((a.group_segment_size ≡ b.group_segment_size) × ((a.kernel_object ≡ b.kernel_object) × ((a.kernarg_address ≡ b.kernarg_address) × (a.completion_signal ≡ b.completion_signal))))))))))))) → a ≡ b
    whole h = λ i. record { header = h.0 i; dimensions = h.1.0 i; workgroup_size_x = h.1.1.0 i; workgroup_size_y = h.1.1.1.0 i; workgroup_size_z = h.1.1.1.1.0 i; grid_size_x = h.1.1.1.1.1.0 i; grid_size_y = h.1.1.1.1.1.1.0 i; grid_size_z = h.1.1.1.1.1.1.1.0 i; private_segment_size = h.1.1.1.1.1.1.1.1.0 i; group_segment_size = h.1.1.1.1.1.1.1.1.1.0 i; kernel_object = h.1.1.1.1.1.1.1.1.1.1.0 i; kernarg_address = h.1.1.1.1.1.1.1.1.1.1.1.0 i; completion_signal = h.1.1.1.1.1.1.1.1.1.1.1.1 i }

    parts : a ≡ b → ((a.header ≡ b.header) × ((a.dimensions ≡ b.dimensions) × ((a.workgroup_size_x ≡ b.workgroup_size_x) × ((a.workgroup_size_y ≡ b.workgroup_size_y) × ((a.workgroup_size_z ≡ b.workgroup_size_z) × ((a.grid_size_x ≡ b.grid_size_x) × ((a.grid_size_y ≡ b.grid_size_y) × ((a.grid_size_z ≡ b.grid_size_z) × ((a.private_segment_size ≡ b.private_segment_size) × ((a.group_segment_size ≡ b.group_segment_size) × ((a.kernel_object ≡ b.kernel_object) × ((a.kernarg_address ≡ b.kernarg_address) × (a.completion_signal ≡ b.completion_signal)))))))))))))
    parts e = (ap (λ (x : KernelDispatch). x.header) e, (ap (λ (x : KernelDispatch). x.dimensions) e, (ap (λ (x : KernelDispatch). x.workgroup_size_x) e, (ap (λ (x : KernelDispatch). x.workgroup_size_y) e, (ap (λ (x : KernelDispatch). x.workgroup_size_z) e, (ap (λ (x : KernelDispatch). x.grid_size_x) e, (ap (λ (x : KernelDispatch). x.grid_size_y) e, (ap (λ (x : KernelDispatch). x.grid_size_z) e, (ap (λ (x : KernelDispatch). x.private_segment_size) e, (ap (λ (x : KernelDispatch). x.group_segment_size) e, (ap (λ (x : KernelDispatch). x.kernel_object) e, (ap (λ (x : KernelDispatch). x.kernarg_address) e, ap (λ (x : KernelDispatch). x.completion_signal) e))))))))))))

packet_decides : (a b : Packet) → Decides (packet_test.eq-value.it a b) (a ≡ b)
packet_decides (packet.Kernel x) (packet.Kernel y) = Decides-like _ (λ h. ap packet.Kernel h) (λ e. let inner : x ≡ y = cc in inner) (kernel_decides x y)
packet_decides (packet.Kernel x) (packet.Agent y) = (λ h. absurd (true≢false (sym h)), λ e. absurd cc)
packet_decides (packet.Kernel x) (packet.BarrierAnd y) = (λ h. absurd (true≢false (sym h)), λ e. absurd cc)
packet_decides (packet.Kernel x) (packet.BarrierOr y) = (λ h. absurd (true≢false (sym h)), λ e. absurd cc)
packet_decides (packet.Agent x) (packet.Kernel y) = (λ h. absurd (true≢false (sym h)), λ e. absurd cc)
packet_decides (packet.Agent x) (packet.Agent y) = Decides-like _ (λ h. ap packet.Agent h) (λ e. let inner : x ≡ y = cc in inner) (agent_decides x y)
packet_decides (packet.Agent x) (packet.BarrierAnd y) = (λ h. absurd (true≢false (sym h)), λ e. absurd cc)
packet_decides (packet.Agent x) (packet.BarrierOr y) = (λ h. absurd (true≢false (sym h)), λ e. absurd cc)
packet_decides (packet.BarrierAnd x) (packet.Kernel y) = (λ h. absurd (true≢false (sym h)), λ e. absurd cc)
packet_decides (packet.BarrierAnd x) (packet.Agent y) = (λ h. absurd (true≢false (sym h)), λ e. absurd cc)
packet_decides (packet.BarrierAnd x) (packet.BarrierAnd y) = Decides-like _ (λ h. ap packet.BarrierAnd h) (λ e. let inner : x ≡ y = cc in inner) (barrier_decides x y)
packet_decides (packet.BarrierAnd x) (packet.BarrierOr y) = (λ h. absurd (true≢false (sym h)), λ e. absurd cc)
packet_decides (packet.BarrierOr x) (packet.Kernel y) = (λ h. absurd (true≢false (sym h)), λ e. absurd cc)
packet_decides (packet.BarrierOr x) (packet.Agent y) = (λ h. absurd (true≢false (sym h)), λ e. absurd cc)
packet_decides (packet.BarrierOr x) (packet.BarrierAnd y) = (λ h. absurd (true≢false (sym h)), λ e. absurd cc)
packet_decides (packet.BarrierOr x) (packet.BarrierOr y) = Decides-like _ (λ h. ap packet.BarrierOr h) (λ e. let inner : x ≡ y = cc in inner) (barrier_decides x y)

flying_decides : (a b : InFlight) → Decides (flying_test.eq-value.it a b) (a ≡ b)
flying_decides a b = Decides-like _ whole parts
    (Decides-and _ _ (queue_id_decides a.queue b.queue) (Decides-and _ _ (id_decides a.id b.id) (packet_decides a.packet b.packet)))
  where
    whole : ((a.queue ≡ b.queue) × ((a.id ≡ b.id) × (a.packet ≡ b.packet))) → a ≡ b
    whole h = λ i. record { queue = h.0 i; id = h.1.0 i; packet = h.1.1 i }

    parts : a ≡ b → ((a.queue ≡ b.queue) × ((a.id ≡ b.id) × (a.packet ≡ b.packet)))
    parts e = (ap (λ (x : InFlight). x.queue) e, (ap (λ (x : InFlight). x.id) e, ap (λ (x : InFlight). x.packet) e))

satisfied_decides : (a b : Satisfied) → Decides (satisfied_test.eq-value.it a b) (a ≡ b)
satisfied_decides a b = Decides-like _ whole parts
    (pointwise_decides booleans_Decides a.0 b.0)
  where
    whole : (a.0 ≡ b.0) → a ≡ b
    whole h = λ i. record { 0 = h i }

    parts : a ≡ b → (a.0 ≡ b.0)
    parts e = ap (λ (x : Satisfied). x.0) e

progress_decides : (a b : Progress) → Decides (progress_test.eq-value.it a b) (a ≡ b)
progress_decides a b = Decides-like _ whole parts
    (Decides-and _ _ (Decides-eqb a.groups_run b.groups_run) (satisfied_decides a.satisfied b.satisfied))
  where
    whole : ((a.groups_run ≡ b.groups_run) × (a.satisfied ≡ b.satisfied)) → a ≡ b
    whole h = λ i. record { groups_run = h.0 i; satisfied = h.1 i }

    parts : a ≡ b → ((a.groups_run ≡ b.groups_run) × (a.satisfied ≡ b.satisfied))
    parts e = (ap (λ (x : Progress). x.groups_run) e, ap (λ (x : Progress). x.satisfied) e)

-- ---- queues

rule_decides : (a b : Rule) → Decides (rule_test.eq-value.it a b) (a ≡ b)
rule_decides a b = search rules

segment_decides : (a b : SegmentAddress) → Decides (segment_test.eq-value.it a b) (a ≡ b)
segment_decides (segment.Global x) (segment.Global y) = Decides-like _ (λ h. ap segment.Global h) (λ e. let inner : x ≡ y = cc in inner) (Decides-eqb x y)
segment_decides (segment.Global x) (segment.Group y) = (λ h. absurd (true≢false (sym h)), λ e. absurd cc)
segment_decides (segment.Group x) (segment.Global y) = (λ h. absurd (true≢false (sym h)), λ e. absurd cc)
segment_decides (segment.Group x) (segment.Group y) = Decides-like _ (λ h. ap segment.Group h) (λ e. let inner : x ≡ y = cc in inner) (Decides-eqb x y)

segment_if_decides : (a b : Option SegmentAddress) → Decides (option_eq segment_test.eq-value.it a b) (a ≡ b)
segment_if_decides None None = (λ h. refl, λ e. refl)
segment_if_decides None (Some y) = (λ h. absurd (true≢false (sym h)), λ e. absurd cc)
segment_if_decides (Some x) None = (λ h. absurd (true≢false (sym h)), λ e. absurd cc)
segment_if_decides (Some x) (Some y) = Decides-like _ (λ h. ap Some h) (λ e. let inner : x ≡ y = cc in inner) (segment_decides x y)

place_decides : (a b : FaultPlace) → Decides (place_test.eq-value.it a b) (a ≡ b)
place_decides a b = Decides-like _ whole parts
    (Decides-and _ _ (Decides-eqb a.group b.group) (Decides-and _ _ (Decides-eqb a.item b.item) (Decides-and _ _ (Decides-eqb a.line b.line) (segment_if_decides a.address b.address))))
  where
    whole : ((a.group ≡ b.group) × ((a.item ≡ b.item) × ((a.line ≡ b.line) × (a.address ≡ b.address)))) → a ≡ b
    whole h = λ i. record { group = h.0 i; item = h.1.0 i; line = h.1.1.0 i; address = h.1.1.1 i }

    parts : a ≡ b → ((a.group ≡ b.group) × ((a.item ≡ b.item) × ((a.line ≡ b.line) × (a.address ≡ b.address))))
    parts e = (ap (λ (x : FaultPlace). x.group) e, (ap (λ (x : FaultPlace). x.item) e, (ap (λ (x : FaultPlace). x.line) e, ap (λ (x : FaultPlace). x.address) e)))

place_if_decides : (a b : Option FaultPlace) → Decides (option_eq place_test.eq-value.it a b) (a ≡ b)
place_if_decides None None = (λ h. refl, λ e. refl)
place_if_decides None (Some y) = (λ h. absurd (true≢false (sym h)), λ e. absurd cc)
place_if_decides (Some x) None = (λ h. absurd (true≢false (sym h)), λ e. absurd cc)
place_if_decides (Some x) (Some y) = Decides-like _ (λ h. ap Some h) (λ e. let inner : x ≡ y = cc in inner) (place_decides x y)

error_decides : (a b : QueueError) → Decides (error_test.eq-value.it a b) (a ≡ b)
error_decides a b = Decides-like _ whole parts
    (Decides-and _ _ (queue_id_decides a.queue b.queue) (Decides-and _ _ (id_decides a.packet b.packet) (Decides-and _ _ (rule_decides a.rule b.rule) (place_if_decides a.place b.place))))
  where
    whole : ((a.queue ≡ b.queue) × ((a.packet ≡ b.packet) × ((a.rule ≡ b.rule) × (a.place ≡ b.place)))) → a ≡ b
    whole h = λ i. record { queue = h.0 i; packet = h.1.0 i; rule = h.1.1.0 i; place = h.1.1.1 i }

    parts : a ≡ b → ((a.queue ≡ b.queue) × ((a.packet ≡ b.packet) × ((a.rule ≡ b.rule) × (a.place ≡ b.place))))
    parts e = (ap (λ (x : QueueError). x.queue) e, (ap (λ (x : QueueError). x.packet) e, (ap (λ (x : QueueError). x.rule) e, ap (λ (x : QueueError). x.place) e)))

opening_decides : (a b : Opening) → Decides (opening_test.eq-value.it a b) (a ≡ b)
opening_decides a b = Decides-like _ whole parts
    (Decides-and _ _ (client_decides a.client b.client) (agent_id_decides a.agent b.agent))
  where
    whole : ((a.client ≡ b.client) × (a.agent ≡ b.agent)) → a ≡ b
    whole h = λ i. record { client = h.0 i; agent = h.1 i }

    parts : a ≡ b → ((a.client ≡ b.client) × (a.agent ≡ b.agent))
    parts e = (ap (λ (x : Opening). x.client) e, ap (λ (x : Opening). x.agent) e)

pub queue_origin_decides : (a b : QueueOrigin) → Decides (queue_test.eq-value.it a b) (a ≡ b)
queue_origin_decides a b = Decides-like _ whole parts
    (Decides-and _ _ (queue_id_decides a.queue b.queue) (Decides-and _ _ (opening_decides a.opening b.opening) (Decides-and _ _ (Decides-eqb a.next b.next) (Decides-and _ _ (booleans_Decides a.stopped b.stopped) (pointwise_decides error_decides a.errors b.errors)))))
  where
    whole : ((a.queue ≡ b.queue) × ((a.opening ≡ b.opening) × ((a.next ≡ b.next) × ((a.stopped ≡ b.stopped) × (a.errors ≡ b.errors))))) → a ≡ b
    whole h = λ i. record { queue = h.0 i; opening = h.1.0 i; next = h.1.1.0 i; stopped = h.1.1.1.0 i; errors = h.1.1.1.1 i }

    parts : a ≡ b → ((a.queue ≡ b.queue) × ((a.opening ≡ b.opening) × ((a.next ≡ b.next) × ((a.stopped ≡ b.stopped) × (a.errors ≡ b.errors)))))
    parts e = (ap (λ (x : QueueOrigin). x.queue) e, (ap (λ (x : QueueOrigin). x.opening) e, (ap (λ (x : QueueOrigin). x.next) e, (ap (λ (x : QueueOrigin). x.stopped) e, ap (λ (x : QueueOrigin). x.errors) e))))

-- ---- rows on rights

kind_decides : (a b : Kind) → Decides (kind_test.eq-value.it a b) (a ≡ b)
kind_decides a b = search rules

object_decides : (a b : Object) → Decides (object_test.eq-value.it a b) (a ≡ b)
object_decides (object.Agent x) (object.Agent y) = Decides-like _ (λ h. ap object.Agent h) (λ e. let inner : x ≡ y = cc in inner) (agent_id_decides x y)
object_decides (object.Agent x) (object.Region y) = (λ h. absurd (true≢false (sym h)), λ e. absurd cc)
object_decides (object.Agent x) (object.Signal y) = (λ h. absurd (true≢false (sym h)), λ e. absurd cc)
object_decides (object.Agent x) (object.Kernel y) = (λ h. absurd (true≢false (sym h)), λ e. absurd cc)
object_decides (object.Region x) (object.Agent y) = (λ h. absurd (true≢false (sym h)), λ e. absurd cc)
object_decides (object.Region x) (object.Region y) = Decides-like _ (λ h. ap object.Region h) (λ e. let inner : x ≡ y = cc in inner) (region_decides x y)
object_decides (object.Region x) (object.Signal y) = (λ h. absurd (true≢false (sym h)), λ e. absurd cc)
object_decides (object.Region x) (object.Kernel y) = (λ h. absurd (true≢false (sym h)), λ e. absurd cc)
object_decides (object.Signal x) (object.Agent y) = (λ h. absurd (true≢false (sym h)), λ e. absurd cc)
object_decides (object.Signal x) (object.Region y) = (λ h. absurd (true≢false (sym h)), λ e. absurd cc)
object_decides (object.Signal x) (object.Signal y) = Decides-like _ (λ h. ap object.Signal h) (λ e. let inner : x ≡ y = cc in inner) (signal_decides x y)
object_decides (object.Signal x) (object.Kernel y) = (λ h. absurd (true≢false (sym h)), λ e. absurd cc)
object_decides (object.Kernel x) (object.Agent y) = (λ h. absurd (true≢false (sym h)), λ e. absurd cc)
object_decides (object.Kernel x) (object.Region y) = (λ h. absurd (true≢false (sym h)), λ e. absurd cc)
object_decides (object.Kernel x) (object.Signal y) = (λ h. absurd (true≢false (sym h)), λ e. absurd cc)
object_decides (object.Kernel x) (object.Kernel y) = Decides-like _ (λ h. ap object.Kernel h) (λ e. let inner : x ≡ y = cc in inner) (kernel_id_decides x y)

-- ---- packets in flight, with what they hold

named_decides : (a b : Object × Rights) → Decides (object_test.eq-value.it a.0 b.0 && nat_eq a.1.0 b.1.0) (a ≡ b)
named_decides a b = Decides-like _ whole parts (Decides-and _ _ (object_decides a.0 b.0) (rights_decides a.1 b.1))
  where
    whole : ((a.0 ≡ b.0) × (a.1 ≡ b.1)) → a ≡ b
    whole h = λ i. (h.0 i, h.1 i)

    parts : a ≡ b → ((a.0 ≡ b.0) × (a.1 ≡ b.1))
    parts e = (ap (λ (x : Object × Rights). x.0) e, ap (λ (x : Object × Rights). x.1) e)

pub packet_origin_decides : (a b : PacketOrigin) → Decides (packet_origin_test.eq-value.it a b) (a ≡ b)
packet_origin_decides a b = Decides-like _ whole parts
    (Decides-and _ _ (flying_decides a.flying b.flying) (Decides-and _ _ (progress_decides a.progress b.progress) (Decides-and _ _ (client_decides a.client b.client) (Decides-and _ _ (pointwise_decides named_decides a.rights b.rights) (pointwise_decides Decides-eqb a.arguments b.arguments)))))
  where
    whole : ((a.flying ≡ b.flying) × ((a.progress ≡ b.progress) × ((a.client ≡ b.client) × ((a.rights ≡ b.rights) × (a.arguments ≡ b.arguments))))) → a ≡ b
    whole h = λ i. record { flying = h.0 i; progress = h.1.0 i; client = h.1.1.0 i; rights = h.1.1.1.0 i; arguments = h.1.1.1.1 i }

    parts : a ≡ b → ((a.flying ≡ b.flying) × ((a.progress ≡ b.progress) × ((a.client ≡ b.client) × ((a.rights ≡ b.rights) × (a.arguments ≡ b.arguments)))))
    parts e = (ap (λ (x : PacketOrigin). x.flying) e, (ap (λ (x : PacketOrigin). x.progress) e, (ap (λ (x : PacketOrigin). x.client) e, (ap (λ (x : PacketOrigin). x.rights) e, ap (λ (x : PacketOrigin). x.arguments) e))))

grantee_decides : (a b : Grantee) → Decides (grantee_test.eq-value.it a b) (a ≡ b)
grantee_decides grantee.Any grantee.Any = (λ h. refl, λ e. refl)
grantee_decides grantee.Any (grantee.One y) = (λ h. absurd (true≢false (sym h)), λ e. absurd cc)
grantee_decides (grantee.One x) grantee.Any = (λ h. absurd (true≢false (sym h)), λ e. absurd cc)
grantee_decides (grantee.One x) (grantee.One y) = Decides-like _ (λ h. ap grantee.One h) (λ e. let inner : x ≡ y = cc in inner) (client_decides x y)

target_decides : (a b : Target) → Decides (target_test.eq-value.it a b) (a ≡ b)
target_decides (target.Any x) (target.Any y) = Decides-like _ (λ h. ap target.Any h) (λ e. let inner : x ≡ y = cc in inner) (kind_decides x y)
target_decides (target.Any x) (target.One y) = (λ h. absurd (true≢false (sym h)), λ e. absurd cc)
target_decides (target.One x) (target.Any y) = (λ h. absurd (true≢false (sym h)), λ e. absurd cc)
target_decides (target.One x) (target.One y) = Decides-like _ (λ h. ap target.One h) (λ e. let inner : x ≡ y = cc in inner) (object_decides x y)

row_decides : (a b : RightsRow) → Decides (row_test.eq-value.it a b) (a ≡ b)
row_decides a b = Decides-like _ whole parts
    (Decides-and _ _ (grantee_decides a.subject b.subject) (Decides-and _ _ (target_decides a.target b.target) (rights_decides a.rights b.rights)))
  where
    whole : ((a.subject ≡ b.subject) × ((a.target ≡ b.target) × (a.rights ≡ b.rights))) → a ≡ b
    whole h = λ i. record { subject = h.0 i; target = h.1.0 i; rights = h.1.1 i }

    parts : a ≡ b → ((a.subject ≡ b.subject) × ((a.target ≡ b.target) × (a.rights ≡ b.rights)))
    parts e = (ap (λ (x : RightsRow). x.subject) e, (ap (λ (x : RightsRow). x.target) e, ap (λ (x : RightsRow). x.rights) e))

pub rows_decide : (a b : PolicyRows) → Decides (rows_test.eq-value.it a b) (a ≡ b)
rows_decide a b = Decides-like _ whole parts
    (Decides-and _ _ (pointwise_decides row_decides a.allows b.allows) (pointwise_decides row_decides a.denies b.denies))
  where
    whole : ((a.allows ≡ b.allows) × (a.denies ≡ b.denies)) → a ≡ b
    whole h = λ i. record { allows = h.0 i; denies = h.1 i }

    parts : a ≡ b → ((a.allows ≡ b.allows) × (a.denies ≡ b.denies))
    parts e = (ap (λ (x : PolicyRows). x.allows) e, ap (λ (x : PolicyRows). x.denies) e)

pub rows-alike : (a b : PolicyRows) (r : Bool) → r ≡ rows_test.eq-value.it a b → Decides r (a ≡ b)
rows-alike a b r is = subst (λ t. Decides t (a ≡ b)) (sym is) (rows_decide a b)
