-- `==` of outcomes, changes and rows tells whether they are the same.
use Rattle.std.proofs.Common.{◌≡◌, ◌∙◌, ◌&&◌, Bool, List, Option, Some, None, refl, sym, ap, subst, rules, true≢false}
use Rattle.std.specs.Prelude.{nat_eq}
use Rattle.std.specs.Bool.{Decides}
use Rattle.std.specs.Cmp.{booleans_Decides, signed_Decides}
use Rattle.std.specs.Cmp.Lexicographic.{pointwise_decides}
use Rattle.std.specs.Option.{option_eq}
use Rattle.std.proofs.lemmas.Bool.Decides.{Decides-and, Decides-eqb, Decides-like}
use Rattle.aql_packet.specs.declared.ids.Address.{Address}
use Rattle.aql_packet.specs.declared.ids.AgentHandle.{AgentHandle}
use Rattle.aql_packet.specs.declared.ids.ClientId.{ClientId}
use Rattle.aql_packet.specs.declared.ids.KernelObject.{KernelObject}
use Rattle.aql_packet.specs.declared.ids.PacketId.{PacketId}
use Rattle.aql_packet.specs.declared.ids.QueueId.{QueueId}
use Rattle.aql_packet.specs.declared.ids.RegionHandle.{RegionHandle}
use Rattle.aql_packet.specs.declared.ids.SignalHandle.{SignalHandle}
use Rattle.queue_error.specs.declared.rule.Rule.{Rule}
use Rattle.queue_error.specs.declared.error.FaultPlace.{FaultPlace}
use Rattle.queue_error.specs.declared.error.QueueError.{QueueError}
use Rattle.queue_error.specs.declared.error.SegmentAddress.{SegmentAddress}
use Rattle.queue_error.specs.declared.error.SegmentAddress.TheVariants as segment
use Rattle.policy.specs.declared.object.Kind.{Kind}
use Rattle.policy.specs.declared.object.Object.{Object}
use Rattle.policy.specs.declared.object.Object.TheVariants as object
use Rattle.policy.specs.declared.row.Grantee.{Grantee}
use Rattle.policy.specs.declared.row.Grantee.TheVariants as grantee
use Rattle.policy.specs.declared.row.Target.{Target}
use Rattle.policy.specs.declared.row.Target.TheVariants as target
use Rattle.policy.specs.declared.row.RightsRow.{RightsRow}
use Rattle.policy.specs.declared.rows.PolicyRows.{PolicyRows}
use Rattle.policy.specs.declared.rights.Rights.{Rights}
use Rattle.core_model.specs.declared.outcome.Satisfied.{Satisfied}
use Rattle.queue_error.specs.contracts.rule.RulePartialEq.TheImpl as rule_test
use Rattle.queue_error.specs.contracts.error.FaultPlacePartialEq.TheImpl as place_test
use Rattle.queue_error.specs.contracts.error.QueueErrorPartialEq.TheImpl as error_test
use Rattle.queue_error.specs.contracts.error.SegmentAddressPartialEq.TheImpl as segment_test
use Rattle.policy.specs.contracts.object.KindPartialEq.TheImpl as kind_test
use Rattle.policy.specs.contracts.object.ObjectPartialEq.TheImpl as object_test
use Rattle.policy.specs.contracts.row.GranteePartialEq.TheImpl as grantee_test
use Rattle.policy.specs.contracts.row.TargetPartialEq.TheImpl as target_test
use Rattle.policy.specs.contracts.row.RightsRowPartialEq.TheImpl as row_test
use Rattle.policy.specs.contracts.rows.PolicyRowsPartialEq.TheImpl as rows_test
use Rattle.core_model.specs.contracts.outcome.SatisfiedPartialEq.TheImpl as satisfied_test
use Rattle.core_model.specs.declared.outcome.WaitCause.{WaitCause}
use Rattle.core_model.specs.declared.outcome.Taken.{Taken}
use Rattle.core_model.specs.declared.outcome.Worked.{Worked}
use Rattle.core_model.specs.declared.outcome.Polled.{Polled}
use Rattle.core_model.specs.declared.outcome.Outcome.{Outcome}
use Rattle.core_model.specs.declared.outcome.Taken.TheVariants as taken
use Rattle.core_model.specs.declared.outcome.Worked.TheVariants as worked
use Rattle.core_model.specs.declared.outcome.Polled.TheVariants as polled
use Rattle.core_model.specs.declared.outcome.Outcome.TheVariants as outcome
use Rattle.core_model.specs.declared.entry.Effect.{Effect}
use Rattle.core_model.specs.declared.entry.Effect.TheVariants as effect
use Rattle.core_model.specs.contracts.outcome.WaitCausePartialEq.TheImpl as cause_test
use Rattle.core_model.specs.contracts.outcome.TakenPartialEq.TheImpl as taken_test
use Rattle.core_model.specs.contracts.outcome.WorkedPartialEq.TheImpl as worked_test
use Rattle.core_model.specs.contracts.outcome.PolledPartialEq.TheImpl as polled_test
use Rattle.core_model.specs.contracts.outcome.OutcomePartialEq.TheImpl as outcome_test
use Rattle.core_model.specs.contracts.entry.EffectPartialEq.TheImpl as effect_test
use Rattle.core_model.specs.declared.entry.Entry.{Entry}
use Rattle.policy.specs.Declaring.{DeclaresAs}
use Rattle.policy.specs.Policy.{Declared}
use Rattle.replay.specs.Replays.{HasRows, TellsTheSame}

-- ---- numbers by which things are named

address_decides : (a b : Address) → Decides (nat_eq a.0 b.0) (a ≡ b)
address_decides a b = Decides-like _ (λ h. λ i. record { 0 = h i }) (λ e. ap (λ (x : Address). x.0) e) (Decides-eqb a.0 b.0)

agent_id_decides : (a b : AgentHandle) → Decides (nat_eq a.0 b.0) (a ≡ b)
agent_id_decides a b = Decides-like _ (λ h. λ i. record { 0 = h i }) (λ e. ap (λ (x : AgentHandle). x.0) e) (Decides-eqb a.0 b.0)

client_decides : (a b : ClientId) → Decides (nat_eq a.0 b.0) (a ≡ b)
client_decides a b = Decides-like _ (λ h. λ i. record { 0 = h i }) (λ e. ap (λ (x : ClientId). x.0) e) (Decides-eqb a.0 b.0)

kernel_id_decides : (a b : KernelObject) → Decides (nat_eq a.0 b.0) (a ≡ b)
kernel_id_decides a b = Decides-like _ (λ h. λ i. record { 0 = h i }) (λ e. ap (λ (x : KernelObject). x.0) e) (Decides-eqb a.0 b.0)

id_decides : (a b : PacketId) → Decides (nat_eq a.0 b.0) (a ≡ b)
id_decides a b = Decides-like _ (λ h. λ i. record { 0 = h i }) (λ e. ap (λ (x : PacketId). x.0) e) (Decides-eqb a.0 b.0)

queue_id_decides : (a b : QueueId) → Decides (nat_eq a.0 b.0) (a ≡ b)
queue_id_decides a b = Decides-like _ (λ h. λ i. record { 0 = h i }) (λ e. ap (λ (x : QueueId). x.0) e) (Decides-eqb a.0 b.0)

region_decides : (a b : RegionHandle) → Decides (nat_eq a.0 b.0) (a ≡ b)
region_decides a b = Decides-like _ (λ h. λ i. record { 0 = h i }) (λ e. ap (λ (x : RegionHandle). x.0) e) (Decides-eqb a.0 b.0)

signal_decides : (a b : SignalHandle) → Decides (nat_eq a.0 b.0) (a ≡ b)
signal_decides a b = Decides-like _ (λ h. λ i. record { 0 = h i }) (λ e. ap (λ (x : SignalHandle). x.0) e) (Decides-eqb a.0 b.0)

rights_decides : (a b : Rights) → Decides (nat_eq a.0 b.0) (a ≡ b)
rights_decides a b = Decides-like _ (λ h. λ i. record { 0 = h i }) (λ e. ap (λ (x : Rights). x.0) e) (Decides-eqb a.0 b.0)

-- ---- outcomes and changes

satisfied_decides : (a b : Satisfied) → Decides (satisfied_test.eq-value.it a b) (a ≡ b)
satisfied_decides a b = Decides-like _ whole parts
    (pointwise_decides booleans_Decides a.0 b.0)
  where
    whole : (a.0 ≡ b.0) → a ≡ b
    whole h = λ i. record { 0 = h i }

    parts : a ≡ b → (a.0 ≡ b.0)
    parts e = ap (λ (x : Satisfied). x.0) e

rule_decides : (a b : Rule) → Decides (rule_test.eq-value.it a b) (a ≡ b)
rule_decides a b = search rules

segment_decides : (a b : SegmentAddress) → Decides (segment_test.eq-value.it a b) (a ≡ b)
segment_decides (segment.Global x) (segment.Global y) = Decides-like _ (λ h. ap segment.Global h) (λ e. let inner : x ≡ y = cc in inner) (Decides-eqb x y)
segment_decides (segment.Global x) (segment.Group y) = (λ h. absurd (true≢false (sym h)), λ e. absurd cc)
segment_decides (segment.Group x) (segment.Global y) = (λ h. absurd (true≢false (sym h)), λ e. absurd cc)
segment_decides (segment.Group x) (segment.Group y) = Decides-like _ (λ h. ap segment.Group h) (λ e. let inner : x ≡ y = cc in inner) (Decides-eqb x y)

segment_if_decides : (a b : Option SegmentAddress) → Decides (option_eq segment_test.eq-value.it a b) (a ≡ b)
segment_if_decides None None = (λ h. refl, λ e. refl)
segment_if_decides None (Some y) = (λ h. absurd (true≢false (sym h)), λ e. absurd cc)
segment_if_decides (Some x) None = (λ h. absurd (true≢false (sym h)), λ e. absurd cc)
segment_if_decides (Some x) (Some y) = Decides-like _ (λ h. ap Some h) (λ e. let inner : x ≡ y = cc in inner) (segment_decides x y)

place_decides : (a b : FaultPlace) → Decides (place_test.eq-value.it a b) (a ≡ b)
place_decides a b = Decides-like _ whole parts
    (Decides-and _ _ (Decides-eqb a.group b.group) (Decides-and _ _ (Decides-eqb a.item b.item) (Decides-and _ _ (Decides-eqb a.line b.line) (segment_if_decides a.address b.address))))
  where
    whole : ((a.group ≡ b.group) × ((a.item ≡ b.item) × ((a.line ≡ b.line) × (a.address ≡ b.address)))) → a ≡ b
    whole h = λ i. record { group = h.0 i; item = h.1.0 i; line = h.1.1.0 i; address = h.1.1.1 i }

    parts : a ≡ b → ((a.group ≡ b.group) × ((a.item ≡ b.item) × ((a.line ≡ b.line) × (a.address ≡ b.address))))
    parts e = (ap (λ (x : FaultPlace). x.group) e, (ap (λ (x : FaultPlace). x.item) e, (ap (λ (x : FaultPlace). x.line) e, ap (λ (x : FaultPlace). x.address) e)))

place_if_decides : (a b : Option FaultPlace) → Decides (option_eq place_test.eq-value.it a b) (a ≡ b)
place_if_decides None None = (λ h. refl, λ e. refl)
place_if_decides None (Some y) = (λ h. absurd (true≢false (sym h)), λ e. absurd cc)
place_if_decides (Some x) None = (λ h. absurd (true≢false (sym h)), λ e. absurd cc)
place_if_decides (Some x) (Some y) = Decides-like _ (λ h. ap Some h) (λ e. let inner : x ≡ y = cc in inner) (place_decides x y)

error_decides : (a b : QueueError) → Decides (error_test.eq-value.it a b) (a ≡ b)
error_decides a b = Decides-like _ whole parts
    (Decides-and _ _ (queue_id_decides a.queue b.queue) (Decides-and _ _ (id_decides a.packet b.packet) (Decides-and _ _ (rule_decides a.rule b.rule) (place_if_decides a.place b.place))))
  where
    whole : ((a.queue ≡ b.queue) × ((a.packet ≡ b.packet) × ((a.rule ≡ b.rule) × (a.place ≡ b.place)))) → a ≡ b
    whole h = λ i. record { queue = h.0 i; packet = h.1.0 i; rule = h.1.1.0 i; place = h.1.1.1 i }

    parts : a ≡ b → ((a.queue ≡ b.queue) × ((a.packet ≡ b.packet) × ((a.rule ≡ b.rule) × (a.place ≡ b.place))))
    parts e = (ap (λ (x : QueueError). x.queue) e, (ap (λ (x : QueueError). x.packet) e, (ap (λ (x : QueueError). x.rule) e, ap (λ (x : QueueError). x.place) e)))

cause_decides : (a b : WaitCause) → Decides (cause_test.eq-value.it a b) (a ≡ b)
cause_decides a b = search rules

taken_decides : (a b : Taken) → Decides (taken_test.eq-value.it a b) (a ≡ b)
taken_decides taken.Launched taken.Launched = (λ h. refl, λ e. refl)
taken_decides taken.Launched (taken.Denied y) = (λ h. absurd (true≢false (sym h)), λ e. absurd cc)
taken_decides taken.Launched (taken.Waiting y) = (λ h. absurd (true≢false (sym h)), λ e. absurd cc)
taken_decides (taken.Denied x) taken.Launched = (λ h. absurd (true≢false (sym h)), λ e. absurd cc)
taken_decides (taken.Denied x) (taken.Denied y) = Decides-like _ (λ h. ap taken.Denied h) (λ e. let inner : x ≡ y = cc in inner) (error_decides x y)
taken_decides (taken.Denied x) (taken.Waiting y) = (λ h. absurd (true≢false (sym h)), λ e. absurd cc)
taken_decides (taken.Waiting x) taken.Launched = (λ h. absurd (true≢false (sym h)), λ e. absurd cc)
taken_decides (taken.Waiting x) (taken.Denied y) = (λ h. absurd (true≢false (sym h)), λ e. absurd cc)
taken_decides (taken.Waiting x) (taken.Waiting y) = Decides-like _ (λ h. ap taken.Waiting h) (λ e. let inner : x ≡ y = cc in inner) (cause_decides x y)

worked_decides : (a b : Worked) → Decides (worked_test.eq-value.it a b) (a ≡ b)
worked_decides (worked.Ran x0 x1) (worked.Ran y0 y1) = Decides-like _ (λ h. λ i. worked.Ran (h.0 i) (h.1 i)) (λ e. let e0 : x0 ≡ y0 = cc in let e1 : x1 ≡ y1 = cc in (e0, e1)) (Decides-and _ _ (Decides-eqb x0 y0) (Decides-eqb x1 y1))
worked_decides (worked.Ran x0 x1) (worked.Faulted y) = (λ h. absurd (true≢false (sym h)), λ e. absurd cc)
worked_decides (worked.Ran x0 x1) worked.Done = (λ h. absurd (true≢false (sym h)), λ e. absurd cc)
worked_decides (worked.Faulted x) (worked.Ran y0 y1) = (λ h. absurd (true≢false (sym h)), λ e. absurd cc)
worked_decides (worked.Faulted x) (worked.Faulted y) = Decides-like _ (λ h. ap worked.Faulted h) (λ e. let inner : x ≡ y = cc in inner) (error_decides x y)
worked_decides (worked.Faulted x) worked.Done = (λ h. absurd (true≢false (sym h)), λ e. absurd cc)
worked_decides worked.Done (worked.Ran y0 y1) = (λ h. absurd (true≢false (sym h)), λ e. absurd cc)
worked_decides worked.Done (worked.Faulted y) = (λ h. absurd (true≢false (sym h)), λ e. absurd cc)
worked_decides worked.Done worked.Done = (λ h. refl, λ e. refl)

polled_decides : (a b : Polled) → Decides (polled_test.eq-value.it a b) (a ≡ b)
polled_decides (polled.Pending x) (polled.Pending y) = Decides-like _ (λ h. ap polled.Pending h) (λ e. let inner : x ≡ y = cc in inner) (satisfied_decides x y)
polled_decides (polled.Pending x) (polled.Ready y) = (λ h. absurd (true≢false (sym h)), λ e. absurd cc)
polled_decides (polled.Pending x) (polled.Failed y) = (λ h. absurd (true≢false (sym h)), λ e. absurd cc)
polled_decides (polled.Ready x) (polled.Pending y) = (λ h. absurd (true≢false (sym h)), λ e. absurd cc)
polled_decides (polled.Ready x) (polled.Ready y) = Decides-like _ (λ h. ap polled.Ready h) (λ e. let inner : x ≡ y = cc in inner) (satisfied_decides x y)
polled_decides (polled.Ready x) (polled.Failed y) = (λ h. absurd (true≢false (sym h)), λ e. absurd cc)
polled_decides (polled.Failed x) (polled.Pending y) = (λ h. absurd (true≢false (sym h)), λ e. absurd cc)
polled_decides (polled.Failed x) (polled.Ready y) = (λ h. absurd (true≢false (sym h)), λ e. absurd cc)
polled_decides (polled.Failed x) (polled.Failed y) = Decides-like _ (λ h. ap polled.Failed h) (λ e. let inner : x ≡ y = cc in inner) (error_decides x y)

pub outcome_decides : (a b : Outcome) → Decides (outcome_test.eq-value.it a b) (a ≡ b)
outcome_decides outcome.Accepted outcome.Accepted = (λ h. refl, λ e. refl)
outcome_decides outcome.Accepted (outcome.Opened y) = (λ h. absurd (true≢false (sym h)), λ e. absurd cc)
outcome_decides outcome.Accepted (outcome.Taken y) = (λ h. absurd (true≢false (sym h)), λ e. absurd cc)
outcome_decides outcome.Accepted (outcome.Worked y) = (λ h. absurd (true≢false (sym h)), λ e. absurd cc)
outcome_decides outcome.Accepted (outcome.Polled y) = (λ h. absurd (true≢false (sym h)), λ e. absurd cc)
outcome_decides outcome.Accepted (outcome.Changed y) = (λ h. absurd (true≢false (sym h)), λ e. absurd cc)
outcome_decides (outcome.Opened x) outcome.Accepted = (λ h. absurd (true≢false (sym h)), λ e. absurd cc)
outcome_decides (outcome.Opened x) (outcome.Opened y) = Decides-like _ (λ h. ap outcome.Opened h) (λ e. let inner : x ≡ y = cc in inner) (queue_id_decides x y)
outcome_decides (outcome.Opened x) (outcome.Taken y) = (λ h. absurd (true≢false (sym h)), λ e. absurd cc)
outcome_decides (outcome.Opened x) (outcome.Worked y) = (λ h. absurd (true≢false (sym h)), λ e. absurd cc)
outcome_decides (outcome.Opened x) (outcome.Polled y) = (λ h. absurd (true≢false (sym h)), λ e. absurd cc)
outcome_decides (outcome.Opened x) (outcome.Changed y) = (λ h. absurd (true≢false (sym h)), λ e. absurd cc)
outcome_decides (outcome.Taken x) outcome.Accepted = (λ h. absurd (true≢false (sym h)), λ e. absurd cc)
outcome_decides (outcome.Taken x) (outcome.Opened y) = (λ h. absurd (true≢false (sym h)), λ e. absurd cc)
outcome_decides (outcome.Taken x) (outcome.Taken y) = Decides-like _ (λ h. ap outcome.Taken h) (λ e. let inner : x ≡ y = cc in inner) (taken_decides x y)
outcome_decides (outcome.Taken x) (outcome.Worked y) = (λ h. absurd (true≢false (sym h)), λ e. absurd cc)
outcome_decides (outcome.Taken x) (outcome.Polled y) = (λ h. absurd (true≢false (sym h)), λ e. absurd cc)
outcome_decides (outcome.Taken x) (outcome.Changed y) = (λ h. absurd (true≢false (sym h)), λ e. absurd cc)
outcome_decides (outcome.Worked x) outcome.Accepted = (λ h. absurd (true≢false (sym h)), λ e. absurd cc)
outcome_decides (outcome.Worked x) (outcome.Opened y) = (λ h. absurd (true≢false (sym h)), λ e. absurd cc)
outcome_decides (outcome.Worked x) (outcome.Taken y) = (λ h. absurd (true≢false (sym h)), λ e. absurd cc)
outcome_decides (outcome.Worked x) (outcome.Worked y) = Decides-like _ (λ h. ap outcome.Worked h) (λ e. let inner : x ≡ y = cc in inner) (worked_decides x y)
outcome_decides (outcome.Worked x) (outcome.Polled y) = (λ h. absurd (true≢false (sym h)), λ e. absurd cc)
outcome_decides (outcome.Worked x) (outcome.Changed y) = (λ h. absurd (true≢false (sym h)), λ e. absurd cc)
outcome_decides (outcome.Polled x) outcome.Accepted = (λ h. absurd (true≢false (sym h)), λ e. absurd cc)
outcome_decides (outcome.Polled x) (outcome.Opened y) = (λ h. absurd (true≢false (sym h)), λ e. absurd cc)
outcome_decides (outcome.Polled x) (outcome.Taken y) = (λ h. absurd (true≢false (sym h)), λ e. absurd cc)
outcome_decides (outcome.Polled x) (outcome.Worked y) = (λ h. absurd (true≢false (sym h)), λ e. absurd cc)
outcome_decides (outcome.Polled x) (outcome.Polled y) = Decides-like _ (λ h. ap outcome.Polled h) (λ e. let inner : x ≡ y = cc in inner) (polled_decides x y)
outcome_decides (outcome.Polled x) (outcome.Changed y) = (λ h. absurd (true≢false (sym h)), λ e. absurd cc)
outcome_decides (outcome.Changed x) outcome.Accepted = (λ h. absurd (true≢false (sym h)), λ e. absurd cc)
outcome_decides (outcome.Changed x) (outcome.Opened y) = (λ h. absurd (true≢false (sym h)), λ e. absurd cc)
outcome_decides (outcome.Changed x) (outcome.Taken y) = (λ h. absurd (true≢false (sym h)), λ e. absurd cc)
outcome_decides (outcome.Changed x) (outcome.Worked y) = (λ h. absurd (true≢false (sym h)), λ e. absurd cc)
outcome_decides (outcome.Changed x) (outcome.Polled y) = (λ h. absurd (true≢false (sym h)), λ e. absurd cc)
outcome_decides (outcome.Changed x) (outcome.Changed y) = Decides-like _ (λ h. ap outcome.Changed h) (λ e. let inner : x ≡ y = cc in inner) (signed_Decides x y)

pub effect_decides : (a b : Effect) → Decides (effect_test.eq-value.it a b) (a ≡ b)
effect_decides (effect.Write x0 x1) (effect.Write y0 y1) = Decides-like _ (λ h. λ i. effect.Write (h.0 i) (h.1 i)) (λ e. let e0 : x0 ≡ y0 = cc in let e1 : x1 ≡ y1 = cc in (e0, e1)) (Decides-and _ _ (address_decides x0 y0) (pointwise_decides Decides-eqb x1 y1))
effect_decides (effect.Write x0 x1) (effect.Signal y0 y1 y2) = (λ h. absurd (true≢false (sym h)), λ e. absurd cc)
effect_decides (effect.Write x0 x1) (effect.Release y0 y1) = (λ h. absurd (true≢false (sym h)), λ e. absurd cc)
effect_decides (effect.Signal x0 x1 x2) (effect.Write y0 y1) = (λ h. absurd (true≢false (sym h)), λ e. absurd cc)
effect_decides (effect.Signal x0 x1 x2) (effect.Signal y0 y1 y2) = Decides-like _ (λ h. λ i. effect.Signal (h.0 i) (h.1.0 i) (h.1.1 i)) (λ e. let e0 : x0 ≡ y0 = cc in let e1 : x1 ≡ y1 = cc in let e2 : x2 ≡ y2 = cc in (e0, (e1, e2))) (Decides-and _ _ (signal_decides x0 y0) (Decides-and _ _ (signed_Decides x1 y1) (signed_Decides x2 y2)))
effect_decides (effect.Signal x0 x1 x2) (effect.Release y0 y1) = (λ h. absurd (true≢false (sym h)), λ e. absurd cc)
effect_decides (effect.Release x0 x1) (effect.Write y0 y1) = (λ h. absurd (true≢false (sym h)), λ e. absurd cc)
effect_decides (effect.Release x0 x1) (effect.Signal y0 y1 y2) = (λ h. absurd (true≢false (sym h)), λ e. absurd cc)
effect_decides (effect.Release x0 x1) (effect.Release y0 y1) = Decides-like _ (λ h. λ i. effect.Release (h.0 i) (h.1 i)) (λ e. let e0 : x0 ≡ y0 = cc in let e1 : x1 ≡ y1 = cc in (e0, e1)) (Decides-and _ _ (queue_id_decides x0 y0) (id_decides x1 y1))

-- ---- rows on rights

kind_decides : (a b : Kind) → Decides (kind_test.eq-value.it a b) (a ≡ b)
kind_decides a b = search rules

object_decides : (a b : Object) → Decides (object_test.eq-value.it a b) (a ≡ b)
object_decides (object.Agent x) (object.Agent y) = Decides-like _ (λ h. ap object.Agent h) (λ e. let inner : x ≡ y = cc in inner) (agent_id_decides x y)
object_decides (object.Agent x) (object.Region y) = (λ h. absurd (true≢false (sym h)), λ e. absurd cc)
object_decides (object.Agent x) (object.Signal y) = (λ h. absurd (true≢false (sym h)), λ e. absurd cc)
object_decides (object.Agent x) (object.Kernel y) = (λ h. absurd (true≢false (sym h)), λ e. absurd cc)
object_decides (object.Region x) (object.Agent y) = (λ h. absurd (true≢false (sym h)), λ e. absurd cc)
object_decides (object.Region x) (object.Region y) = Decides-like _ (λ h. ap object.Region h) (λ e. let inner : x ≡ y = cc in inner) (region_decides x y)
object_decides (object.Region x) (object.Signal y) = (λ h. absurd (true≢false (sym h)), λ e. absurd cc)
object_decides (object.Region x) (object.Kernel y) = (λ h. absurd (true≢false (sym h)), λ e. absurd cc)
object_decides (object.Signal x) (object.Agent y) = (λ h. absurd (true≢false (sym h)), λ e. absurd cc)
object_decides (object.Signal x) (object.Region y) = (λ h. absurd (true≢false (sym h)), λ e. absurd cc)
object_decides (object.Signal x) (object.Signal y) = Decides-like _ (λ h. ap object.Signal h) (λ e. let inner : x ≡ y = cc in inner) (signal_decides x y)
object_decides (object.Signal x) (object.Kernel y) = (λ h. absurd (true≢false (sym h)), λ e. absurd cc)
object_decides (object.Kernel x) (object.Agent y) = (λ h. absurd (true≢false (sym h)), λ e. absurd cc)
object_decides (object.Kernel x) (object.Region y) = (λ h. absurd (true≢false (sym h)), λ e. absurd cc)
object_decides (object.Kernel x) (object.Signal y) = (λ h. absurd (true≢false (sym h)), λ e. absurd cc)
object_decides (object.Kernel x) (object.Kernel y) = Decides-like _ (λ h. ap object.Kernel h) (λ e. let inner : x ≡ y = cc in inner) (kernel_id_decides x y)

grantee_decides : (a b : Grantee) → Decides (grantee_test.eq-value.it a b) (a ≡ b)
grantee_decides grantee.Any grantee.Any = (λ h. refl, λ e. refl)
grantee_decides grantee.Any (grantee.One y) = (λ h. absurd (true≢false (sym h)), λ e. absurd cc)
grantee_decides (grantee.One x) grantee.Any = (λ h. absurd (true≢false (sym h)), λ e. absurd cc)
grantee_decides (grantee.One x) (grantee.One y) = Decides-like _ (λ h. ap grantee.One h) (λ e. let inner : x ≡ y = cc in inner) (client_decides x y)

target_decides : (a b : Target) → Decides (target_test.eq-value.it a b) (a ≡ b)
target_decides (target.Any x) (target.Any y) = Decides-like _ (λ h. ap target.Any h) (λ e. let inner : x ≡ y = cc in inner) (kind_decides x y)
target_decides (target.Any x) (target.One y) = (λ h. absurd (true≢false (sym h)), λ e. absurd cc)
target_decides (target.One x) (target.Any y) = (λ h. absurd (true≢false (sym h)), λ e. absurd cc)
target_decides (target.One x) (target.One y) = Decides-like _ (λ h. ap target.One h) (λ e. let inner : x ≡ y = cc in inner) (object_decides x y)

row_decides : (a b : RightsRow) → Decides (row_test.eq-value.it a b) (a ≡ b)
row_decides a b = Decides-like _ whole parts
    (Decides-and _ _ (grantee_decides a.subject b.subject) (Decides-and _ _ (target_decides a.target b.target) (rights_decides a.rights b.rights)))
  where
    whole : ((a.subject ≡ b.subject) × ((a.target ≡ b.target) × (a.rights ≡ b.rights))) → a ≡ b
    whole h = λ i. record { subject = h.0 i; target = h.1.0 i; rights = h.1.1 i }

    parts : a ≡ b → ((a.subject ≡ b.subject) × ((a.target ≡ b.target) × (a.rights ≡ b.rights)))
    parts e = (ap (λ (x : RightsRow). x.subject) e, (ap (λ (x : RightsRow). x.target) e, ap (λ (x : RightsRow). x.rights) e))

pub rows_decide : (a b : PolicyRows) → Decides (rows_test.eq-value.it a b) (a ≡ b)
rows_decide a b = Decides-like _ whole parts
    (Decides-and _ _ (pointwise_decides row_decides a.allows b.allows) (pointwise_decides row_decides a.denies b.denies))
  where
    whole : ((a.allows ≡ b.allows) × (a.denies ≡ b.denies)) → a ≡ b
    whole h = λ i. record { allows = h.0 i; denies = h.1 i }

    parts : a ≡ b → ((a.allows ≡ b.allows) × (a.denies ≡ b.denies))
    parts e = (ap (λ (x : PolicyRows). x.allows) e, ap (λ (x : PolicyRows). x.denies) e)

pub rows-alike : (a b : PolicyRows) (r : Bool) → r ≡ rows_test.eq-value.it a b → Decides r (a ≡ b)
rows-alike a b r is = subst (λ t. Decides t (a ≡ b)) (sym is) (rows_decide a b)

-- ---- what the code asks of them

pub outcome-alike : (a b : Outcome) (r : Bool) → r ≡ outcome_test.eq-value.it a b → Decides r (a ≡ b)
outcome-alike a b r is = subst (λ t. Decides t (a ≡ b)) (sym is) (outcome_decides a b)

pub rows-had : (declared policy : Declared) (rows told : PolicyRows) (a b : Bool) → Decides a (DeclaresAs declared policy) → Decides b (rows ≡ told) → told ≡ policy.rows → Decides (a && b) (HasRows declared rows policy)
rows-had declared policy rows told a b da db is =
    Decides-like (a && b) (λ h. record { declares = h.0; rows_are = h.1 ∙ is }) (λ r. (r.declares, r.rows_are ∙ sym is)) (Decides-and a b da db)

pub told-alike : (one other : Entry) (xs ys : List Effect) (a b : Bool) → Decides a (one.outcome ≡ other.outcome) → Decides b (xs ≡ ys) → xs ≡ one.effects → ys ≡ other.effects → Decides (a && b) (TellsTheSame one other)
told-alike one other xs ys a b da db x y =
    Decides-like (a && b) (λ h. (h.0, sym x ∙ h.1 ∙ y)) (λ r. (r.0, x ∙ r.1 ∙ sym y)) (Decides-and a b da db)
