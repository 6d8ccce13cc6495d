-- What the words of an entry are read as (own). That what was written is read as the same entry says `Laws`.
use Rattle.std.specs.Prelude.{List, [], ◌∷◌, codes, bytes_eq, Option, Some, None, option_map, if◌then◌else◌}
use Rattle.aql_packet.specs.declared.ids.ClientId.{ClientId}
use Rattle.aql_packet.specs.declared.ids.QueueId.{QueueId}
use Rattle.aql_packet.specs.declared.ids.PacketId.{PacketId}
use Rattle.policy.specs.declared.object.Kind.{Kind}
use Rattle.policy.specs.declared.object.Kind.TheVariants as kind
use Rattle.policy.specs.declared.object.Object.{Object}
use Rattle.policy.specs.declared.object.Object.TheVariants as object
use Rattle.policy.specs.declared.rights.Rights.{Rights}
use Rattle.policy.specs.declared.row.Grantee.{Grantee}
use Rattle.policy.specs.declared.row.Grantee.TheVariants as grantee
use Rattle.policy.specs.declared.row.Target.{Target}
use Rattle.policy.specs.declared.row.Target.TheVariants as target
use Rattle.policy.specs.declared.row.RightsRow.{RightsRow}
use Rattle.policy.specs.declared.rows.PolicyRows.{PolicyRows}
use Rattle.queue_error.specs.declared.rule.Rule.{Rule}
use Rattle.queue_error.specs.declared.rule.Rule.TheVariants.{L1, L2, L3, L4, L5, L6, L7, L8, L9, L10, A1, A2, A3, A4, A5, A6, A7, B1}
use Rattle.queue_error.specs.declared.error.FaultPlace.{FaultPlace}
use Rattle.queue_error.specs.declared.error.SegmentAddress.{SegmentAddress}
use Rattle.queue_error.specs.declared.error.SegmentAddress.TheVariants as segment
use Rattle.queue_error.specs.declared.error.QueueError.{QueueError}
use Rattle.signals.specs.declared.operation.SignalOp.{SignalOp}
use Rattle.signals.specs.declared.operation.SignalOp.TheVariants as op
use Rattle.std.specs.Prelude.{ℤ}
use Rattle.core_model.specs.declared.outcome.WaitCause.{WaitCause}
use Rattle.core_model.specs.declared.outcome.WaitCause.TheVariants as cause
use Rattle.core_model.specs.declared.outcome.Taken.TheVariants as taken
use Rattle.core_model.specs.declared.outcome.Worked.TheVariants as worked
use Rattle.core_model.specs.declared.outcome.Polled.TheVariants as polled
use Rattle.core_model.specs.declared.outcome.Outcome.{Outcome}
use Rattle.core_model.specs.declared.outcome.Outcome.TheVariants as outcome
use Rattle.core_model.specs.declared.call.Call.{Call}
use Rattle.core_model.specs.declared.call.Call.TheVariants as call
use Rattle.core_model.specs.declared.event.Event.{Event}
use Rattle.core_model.specs.declared.event.Event.TheVariants as event
use Rattle.core_model.specs.declared.entry.Effect.{Effect}
use Rattle.core_model.specs.declared.entry.Effect.TheVariants as effect
use Rattle.core_model.specs.declared.entry.Entry.{Entry}
use Rattle.journal.specs.Words.{Text, Reading, and_then, word_at, number_at, signed_at, bytes_at, packet_at, flags_at, times, words_from}

-- ---- objects and rights

abbrev pub agent_at : List Text → Reading Object
agent_at words = and_then (number_at 32 words) (λ n rest. Some (object.Agent (record { 0 = n }), rest))

abbrev pub region_at : List Text → Reading Object
region_at words = and_then (number_at 32 words) (λ n rest. Some (object.Region (record { 0 = n }), rest))

abbrev pub signal_at : List Text → Reading Object
signal_at words = and_then (number_at 64 words) (λ n rest. Some (object.Signal (record { 0 = n }), rest))

abbrev pub kernel_at : List Text → Reading Object
kernel_at words = and_then (number_at 64 words) (λ n rest. Some (object.Kernel (record { 0 = n }), rest))

abbrev pub object_named : Text → List Text → Reading Object
object_named word words =
    if bytes_eq word (codes "agent") then agent_at words
    else if bytes_eq word (codes "region") then region_at words
    else if bytes_eq word (codes "signal") then signal_at words
    else if bytes_eq word (codes "kernel") then kernel_at words
    else None

abbrev pub object_at : List Text → Reading Object
object_at words = and_then (word_at words) object_named

abbrev pub client_at : List Text → Reading ClientId
client_at words = and_then (number_at 32 words) (λ n rest. Some (record { 0 = n }, rest))

abbrev pub rights_at : List Text → Reading Rights
rights_at words = and_then (number_at 8 words) (λ n rest. Some (record { 0 = n }, rest))

abbrev pub rights_on_at : List Text → Reading (ClientId × Object × Rights)
rights_on_at words =
    and_then (client_at words) (λ client rest. and_then (object_at rest) (λ on last. and_then (rights_at last) (λ rights end. Some ((client, on, rights), end))))

-- ---- the rows of a policy

abbrev pub one_client_at : List Text → Reading Grantee
one_client_at words = and_then (client_at words) (λ client rest. Some (grantee.One client, rest))

abbrev pub grantee_named : Text → List Text → Reading Grantee
grantee_named word words =
    if bytes_eq word (codes "anyone") then Some (grantee.Any, words)
    else if bytes_eq word (codes "client") then one_client_at words
    else None

abbrev pub grantee_at : List Text → Reading Grantee
grantee_at words = and_then (word_at words) grantee_named

abbrev pub kind_named : Text → Option Kind
kind_named word =
    if bytes_eq word (codes "agent") then Some kind.Agent
    else if bytes_eq word (codes "region") then Some kind.Region
    else if bytes_eq word (codes "signal") then Some kind.Signal
    else if bytes_eq word (codes "kernel") then Some kind.Kernel
    else None

abbrev pub each_at : List Text → Reading Target
each_at words = and_then (word_at words) (λ word rest. option_map (λ kind. (target.Any kind, rest)) (kind_named word))

abbrev pub one_object_at : List Text → Reading Target
one_object_at words = and_then (object_at words) (λ on rest. Some (target.One on, rest))

abbrev pub target_named : Text → List Text → Reading Target
target_named word words =
    if bytes_eq word (codes "each") then each_at words
    else if bytes_eq word (codes "one") then one_object_at words
    else None

abbrev pub target_at : List Text → Reading Target
target_at words = and_then (word_at words) target_named

abbrev pub row_at : List Text → Reading RightsRow
row_at words =
    and_then (grantee_at words) (λ who rest. and_then (target_at rest) (λ what last. and_then (rights_at last)
    (λ rights end. Some (record { subject = who; target = what; rights = rights }, end))))

-- how many, and then so many
abbrev pub list_at : {X : Type 0} → (List Text → Reading X) → List Text → Reading (List X)
list_at one words = and_then (number_at 64 words) (λ n rest. times one n rest)

abbrev pub rows_at : List Text → Reading PolicyRows
rows_at words =
    and_then (list_at row_at words) (λ allows rest. and_then (list_at row_at rest)
    (λ denies end. Some (record { allows = allows; denies = denies }, end)))

-- ---- calls

-- a queue and the id of a packet
abbrev pub packet_named_at : List Text → Reading (QueueId × PacketId)
packet_named_at words =
    and_then (number_at 64 words) (λ queue rest. and_then (number_at 64 rest) (λ id end. Some ((record { 0 = queue }, record { 0 = id }), end)))

abbrev pub grant_at : List Text → Reading Call
grant_at words = and_then (rights_on_at words) (λ read rest. Some (call.Grant read.0 read.1 read.2, rest))

abbrev pub revoke_at : List Text → Reading Call
revoke_at words = and_then (rights_on_at words) (λ read rest. Some (call.Revoke read.0 read.1 read.2, rest))

abbrev pub stop_at : List Text → Reading Call
stop_at words = and_then (number_at 64 words) (λ queue rest. Some (call.Stop (record { 0 = queue }), rest))

abbrev pub close_at : List Text → Reading Call
close_at words = and_then (number_at 64 words) (λ queue rest. Some (call.Close (record { 0 = queue }), rest))

abbrev pub run_at : List Text → Reading Call
run_at words = and_then (packet_named_at words) (λ read rest. Some (call.RunNext read.0 read.1, rest))

abbrev pub poll_at : List Text → Reading Call
poll_at words = and_then (packet_named_at words) (λ read rest. Some (call.Poll read.0 read.1, rest))

abbrev pub finish_at : List Text → Reading Call
finish_at words = and_then (packet_named_at words) (λ read rest. Some (call.Finish read.0 read.1, rest))

-- an operation with one operand
abbrev pub operation_of : Text → ℤ → Option SignalOp
operation_of word value =
    if bytes_eq word (codes "store") then Some (op.Store value)
    else if bytes_eq word (codes "add") then Some (op.Add value)
    else if bytes_eq word (codes "subtract") then Some (op.Subtract value)
    else if bytes_eq word (codes "and") then Some (op.And value)
    else if bytes_eq word (codes "or") then Some (op.Or value)
    else if bytes_eq word (codes "xor") then Some (op.Xor value)
    else if bytes_eq word (codes "exchange") then Some (op.Exchange value)
    else None

abbrev pub one_operand_at : Text → List Text → Reading SignalOp
one_operand_at word words = and_then (signed_at words) (λ value rest. option_map (λ operation. (operation, rest)) (operation_of word value))

abbrev pub cas_at : List Text → Reading SignalOp
cas_at words = and_then (signed_at words) (λ expected rest. and_then (signed_at rest) (λ value end. Some (op.Cas expected value, end)))

abbrev pub operation_named : Text → List Text → Reading SignalOp
operation_named word words = if bytes_eq word (codes "cas") then cas_at words else one_operand_at word words

abbrev pub operation_at : List Text → Reading SignalOp
operation_at words = and_then (word_at words) operation_named

abbrev pub change_at : List Text → Reading Call
change_at words =
    and_then (client_at words) (λ client rest. and_then (number_at 64 rest) (λ signal last. and_then (operation_at last)
    (λ operation end. Some (call.ChangeSignal client (record { 0 = signal }) operation, end))))

abbrev pub packet_call_named : Text → List Text → Reading Call
packet_call_named word words =
    if bytes_eq word (codes "run") then run_at words
    else if bytes_eq word (codes "poll") then poll_at words
    else if bytes_eq word (codes "finish") then finish_at words
    else None

-- a call that hands over no bytes
abbrev pub call_named : Text → List Text → Reading Call
call_named word words =
    if bytes_eq word (codes "grant") then grant_at words
    else if bytes_eq word (codes "revoke") then revoke_at words
    else if bytes_eq word (codes "stop") then stop_at words
    else if bytes_eq word (codes "close") then close_at words
    else if bytes_eq word (codes "signal") then change_at words
    else packet_call_named word words

-- ---- events

abbrev pub open_at : List Text → Reading Event
open_at words =
    and_then (client_at words) (λ client rest. and_then (number_at 32 rest) (λ agent last. and_then (number_at 64 last)
    (λ size end. Some (event.Open client (record { 0 = agent }) size, end))))

abbrev pub take_at : List Text → Reading Event
take_at words =
    and_then (packet_named_at words) (λ read rest. and_then (packet_at rest) (λ bytes end. Some (event.Take read.0 read.1 bytes, end)))

abbrev pub write_at : List Text → Reading Event
write_at words =
    and_then (client_at words) (λ client rest. and_then (number_at 64 rest) (λ address last. and_then (bytes_at last)
    (λ bytes end. Some (event.Call (call.HostWrite client (record { 0 = address }) bytes), end))))

abbrev pub reload_at : List Text → Reading Event
reload_at words = and_then (rows_at words) (λ rows rest. Some (event.Reload rows, rest))

abbrev pub as_call : Reading Call → Reading Event
as_call made = option_map (λ read. (event.Call read.0, read.1)) made

-- an event that hands over no list
abbrev pub plain_event_named : Text → List Text → Reading Event
plain_event_named word words =
    if bytes_eq word (codes "open") then open_at words
    else if bytes_eq word (codes "take") then take_at words
    else as_call (call_named word words)

abbrev pub event_named : Text → List Text → Reading Event
event_named word words =
    if bytes_eq word (codes "write") then write_at words
    else if bytes_eq word (codes "reload") then reload_at words
    else plain_event_named word words

abbrev pub event_at : List Text → Reading Event
event_at words = and_then (word_at words) event_named

-- ---- errors

-- a rule of a packet's work
abbrev pub work_rule_named : Text → Option Rule
work_rule_named word =
    if bytes_eq word (codes "A1") then Some A1
    else if bytes_eq word (codes "A2") then Some A2
    else if bytes_eq word (codes "A3") then Some A3
    else if bytes_eq word (codes "A4") then Some A4
    else if bytes_eq word (codes "A5") then Some A5
    else if bytes_eq word (codes "A6") then Some A6
    else if bytes_eq word (codes "A7") then Some A7
    else if bytes_eq word (codes "B1") then Some B1
    else None

abbrev pub rule_named : Text → Option Rule
rule_named word =
    if bytes_eq word (codes "L1") then Some L1
    else if bytes_eq word (codes "L2") then Some L2
    else if bytes_eq word (codes "L3") then Some L3
    else if bytes_eq word (codes "L4") then Some L4
    else if bytes_eq word (codes "L5") then Some L5
    else if bytes_eq word (codes "L6") then Some L6
    else if bytes_eq word (codes "L7") then Some L7
    else if bytes_eq word (codes "L8") then Some L8
    else if bytes_eq word (codes "L9") then Some L9
    else if bytes_eq word (codes "L10") then Some L10
    else work_rule_named word

abbrev pub global_at : List Text → Reading (Option SegmentAddress)
global_at words = and_then (number_at 64 words) (λ n rest. Some (Some (segment.Global n), rest))

abbrev pub group_at : List Text → Reading (Option SegmentAddress)
group_at words = and_then (number_at 32 words) (λ n rest. Some (Some (segment.Group n), rest))

abbrev pub address_named : Text → List Text → Reading (Option SegmentAddress)
address_named word words =
    if bytes_eq word (codes "nowhere") then Some (None, words)
    else if bytes_eq word (codes "global") then global_at words
    else if bytes_eq word (codes "group") then group_at words
    else None

abbrev pub address_at : List Text → Reading (Option SegmentAddress)
address_at words = and_then (word_at words) address_named

abbrev pub inside_at : List Text → Reading (Option FaultPlace)
inside_at words =
    and_then (number_at 32 words) (λ group rest. and_then (number_at 32 rest) (λ item more. and_then (number_at 32 more)
    (λ line last. and_then (address_at last) (λ address end. Some (Some (record { group = group; item = item; line = line; address = address }), end)))))

abbrev pub place_named : Text → List Text → Reading (Option FaultPlace)
place_named word words =
    if bytes_eq word (codes "whole") then Some (None, words)
    else if bytes_eq word (codes "at") then inside_at words
    else None

abbrev pub place_at : List Text → Reading (Option FaultPlace)
place_at words = and_then (word_at words) place_named

abbrev pub rule_at : List Text → Reading Rule
rule_at words = and_then (word_at words) (λ word rest. option_map (λ rule. (rule, rest)) (rule_named word))

abbrev pub error_at : List Text → Reading QueueError
error_at words =
    and_then (packet_named_at words) (λ whose rest. and_then (rule_at rest) (λ rule last. and_then (place_at last)
    (λ place end. Some (record { queue = whose.0; packet = whose.1; rule = rule; place = place }, end))))

-- ---- outcomes

abbrev pub opened_at : List Text → Reading Outcome
opened_at words = and_then (number_at 64 words) (λ n rest. Some (outcome.Opened (record { 0 = n }), rest))

abbrev pub changed_at : List Text → Reading Outcome
changed_at words = and_then (signed_at words) (λ old rest. Some (outcome.Changed old, rest))

abbrev pub denied_at : List Text → Reading Outcome
denied_at words = and_then (error_at words) (λ error rest. Some (outcome.Taken (taken.Denied error), rest))

abbrev pub cause_named : Text → Option WaitCause
cause_named word =
    if bytes_eq word (codes "barrier") then Some cause.Barrier
    else if bytes_eq word (codes "active") then Some cause.Active
    else if bytes_eq word (codes "slots") then Some cause.Slots
    else None

abbrev pub waiting_at : List Text → Reading Outcome
waiting_at words = and_then (word_at words) (λ word rest. option_map (λ why. (outcome.Taken (taken.Waiting why), rest)) (cause_named word))

abbrev pub ran_at : List Text → Reading Outcome
ran_at words =
    and_then (number_at 32 words) (λ group rest. and_then (number_at 32 rest) (λ left end. Some (outcome.Worked (worked.Ran group left), end)))

abbrev pub faulted_at : List Text → Reading Outcome
faulted_at words = and_then (error_at words) (λ error rest. Some (outcome.Worked (worked.Faulted error), rest))

abbrev pub pending_at : List Text → Reading Outcome
pending_at words = and_then (flags_at words) (λ flags rest. Some (outcome.Polled (polled.Pending (record { 0 = flags })), rest))

abbrev pub ready_at : List Text → Reading Outcome
ready_at words = and_then (flags_at words) (λ flags rest. Some (outcome.Polled (polled.Ready (record { 0 = flags })), rest))

abbrev pub failed_at : List Text → Reading Outcome
failed_at words = and_then (error_at words) (λ error rest. Some (outcome.Polled (polled.Failed error), rest))

abbrev pub polled_named : Text → List Text → Reading Outcome
polled_named word words =
    if bytes_eq word (codes "pending") then pending_at words
    else if bytes_eq word (codes "ready") then ready_at words
    else if bytes_eq word (codes "failed") then failed_at words
    else None

abbrev pub worked_named : Text → List Text → Reading Outcome
worked_named word words =
    if bytes_eq word (codes "ran") then ran_at words
    else if bytes_eq word (codes "faulted") then faulted_at words
    else if bytes_eq word (codes "done") then Some (outcome.Worked worked.Done, words)
    else polled_named word words

abbrev pub taken_named : Text → List Text → Reading Outcome
taken_named word words =
    if bytes_eq word (codes "launched") then Some (outcome.Taken taken.Launched, words)
    else if bytes_eq word (codes "denied") then denied_at words
    else if bytes_eq word (codes "waiting") then waiting_at words
    else worked_named word words

abbrev pub outcome_named : Text → List Text → Reading Outcome
outcome_named word words =
    if bytes_eq word (codes "accepted") then Some (outcome.Accepted, words)
    else if bytes_eq word (codes "opened") then opened_at words
    else if bytes_eq word (codes "changed") then changed_at words
    else taken_named word words

abbrev pub outcome_at : List Text → Reading Outcome
outcome_at words = and_then (word_at words) outcome_named

-- ---- effects

abbrev pub written_at : List Text → Reading Effect
written_at words =
    and_then (number_at 64 words) (λ address rest. and_then (bytes_at rest) (λ bytes end. Some (effect.Write (record { 0 = address }) bytes, end)))

abbrev pub signalled_at : List Text → Reading Effect
signalled_at words =
    and_then (number_at 64 words) (λ signal rest. and_then (signed_at rest) (λ old last. and_then (signed_at last)
    (λ new end. Some (effect.Signal (record { 0 = signal }) old new, end))))

abbrev pub released_at : List Text → Reading Effect
released_at words = and_then (packet_named_at words) (λ read rest. Some (effect.Release read.0 read.1, rest))

-- a change that hands over no bytes
abbrev pub plain_effect_named : Text → List Text → Reading Effect
plain_effect_named word words =
    if bytes_eq word (codes "signal") then signalled_at words
    else if bytes_eq word (codes "release") then released_at words
    else None

abbrev pub effect_named : Text → List Text → Reading Effect
effect_named word words = if bytes_eq word (codes "write") then written_at words else plain_effect_named word words

abbrev pub effect_at : List Text → Reading Effect
effect_at words = and_then (word_at words) effect_named

-- ---- entries

abbrev pub entry_at : List Text → Reading Entry
entry_at words =
    and_then (event_at words) (λ happened rest. and_then (outcome_at rest) (λ came last. and_then (list_at effect_at last)
    (λ changes end. Some (record { event = happened; outcome = came; effects = changes }, end))))

-- what was read, if no words are left
abbrev pub done : {X : Type 0} → Reading X → Option X
done None = None
done (Some (x, [])) = Some x
done (Some (x, word ∷ words)) = None

-- an entry, if nothing stands before its words and no words are left
abbrev pub entry_behind : Text → List Text → Option Entry
entry_behind [] words = done (entry_at words)
entry_behind (byte ∷ bytes) words = None

-- the entry that a text is
abbrev pub entry_in : List Text → Option Entry
entry_in [] = None
entry_in (word ∷ words) = entry_behind word words

abbrev pub entry_of : Text → Option Entry
entry_of text = entry_in (words_from [] text)
