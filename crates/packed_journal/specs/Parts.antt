-- What entries are made of: objects and rights, rows, operations and errors, each with its words and how it is read (own).
-- A tag tells which of several forms follows.
use Rattle.std.specs.Prelude.{ℕ, nat_lt, ◌==◌, ℤ, List, [], ◌∷◌, ◌++◌, Option, Some, None, Ok, Err, if◌then◌else◌}
use Rattle.aql_packet.specs.declared.ids.ClientId.{ClientId}
use Rattle.aql_packet.specs.declared.ids.QueueId.{QueueId}
use Rattle.aql_packet.specs.declared.ids.PacketId.{PacketId}
use Rattle.policy.specs.declared.object.Kind.{Kind}
use Rattle.policy.specs.declared.object.Kind.TheVariants as kind
use Rattle.policy.specs.declared.object.Object.{Object}
use Rattle.policy.specs.declared.object.Object.TheVariants as object
use Rattle.policy.specs.declared.rights.Rights.{Rights}
use Rattle.policy.specs.declared.row.Grantee.{Grantee}
use Rattle.policy.specs.declared.row.Grantee.TheVariants as grantee
use Rattle.policy.specs.declared.row.Target.{Target}
use Rattle.policy.specs.declared.row.Target.TheVariants as target
use Rattle.policy.specs.declared.row.RightsRow.{RightsRow}
use Rattle.policy.specs.declared.rows.PolicyRows.{PolicyRows}
use Rattle.queue_error.specs.declared.rule.Rule.{Rule}
use Rattle.queue_error.specs.declared.rule.Rule.TheVariants.{L1, L2, L3, L4, L5, L6, L7, L8, L9, L10, A1, A2, A3, A4, A5, A6, A7, B1}
use Rattle.queue_error.specs.declared.error.FaultPlace.{FaultPlace}
use Rattle.queue_error.specs.declared.error.SegmentAddress.{SegmentAddress}
use Rattle.queue_error.specs.declared.error.SegmentAddress.TheVariants as segment
use Rattle.queue_error.specs.declared.error.QueueError.{QueueError}
use Rattle.signals.specs.declared.operation.SignalOp.{SignalOp}
use Rattle.signals.specs.declared.operation.SignalOp.TheVariants as op
use Rattle.packed_journal.specs.Words.{Word, Tag, Number, Signed}
use Rattle.packed_journal.specs.Readings.{Read, wrong, and_read, made, both, read_tag, read_number, read_signed, words_of_list, read_list}

-- ---- numbers that name things

abbrev pub words_of_client : ClientId → List Word
words_of_client client = Number 32 client.0 ∷ []

abbrev pub read_client : List ℕ → Read ClientId
read_client bytes = made (λ n. record { 0 = n }) (read_number 32 bytes)

-- a queue and the id of a packet
abbrev pub words_of_packet : QueueId × PacketId → List Word
words_of_packet named = Number 64 named.0.0 ∷ Number 64 named.1.0 ∷ []

abbrev pub read_queue : List ℕ → Read QueueId
read_queue bytes = made (λ n. record { 0 = n }) (read_number 64 bytes)

abbrev pub read_packet_id : List ℕ → Read PacketId
read_packet_id bytes = made (λ n. record { 0 = n }) (read_number 64 bytes)

abbrev pub read_packet_named : List ℕ → Read (QueueId × PacketId)
read_packet_named bytes = both read_queue read_packet_id bytes

-- ---- objects and rights

abbrev pub words_of_object : Object → List Word
words_of_object (object.Agent h) = Tag 0 ∷ Number 32 h.0 ∷ []
words_of_object (object.Region h) = Tag 1 ∷ Number 32 h.0 ∷ []
words_of_object (object.Signal h) = Tag 2 ∷ Number 64 h.0 ∷ []
words_of_object (object.Kernel h) = Tag 3 ∷ Number 64 h.0 ∷ []

abbrev pub read_agent : List ℕ → Read Object
read_agent bytes = made (λ n. object.Agent (record { 0 = n })) (read_number 32 bytes)

abbrev pub read_region : List ℕ → Read Object
read_region bytes = made (λ n. object.Region (record { 0 = n })) (read_number 32 bytes)

abbrev pub read_signal : List ℕ → Read Object
read_signal bytes = made (λ n. object.Signal (record { 0 = n })) (read_number 64 bytes)

abbrev pub read_kernel : List ℕ → Read Object
read_kernel bytes = made (λ n. object.Kernel (record { 0 = n })) (read_number 64 bytes)

abbrev pub read_object : List ℕ → Read Object
read_object bytes =
    and_read (read_tag bytes) (λ tag rest.
    if tag == 0 then read_agent rest
    else if tag == 1 then read_region rest
    else if tag == 2 then read_signal rest
    else if tag == 3 then read_kernel rest
    else Err (wrong bytes))

-- six rights, a bit each: USE 1, READ 2, WRITE 4, WAIT 8, CHANGE 16, LAUNCH 32
abbrev pub words_of_rights : Rights → List Word
words_of_rights rights = Number 6 rights.0 ∷ []

abbrev pub read_rights : List ℕ → Read Rights
read_rights bytes = made (λ n. record { 0 = n }) (read_number 6 bytes)

-- a client, an object, and rights on it
abbrev pub words_of_rights_on : ClientId × (Object × Rights) → List Word
words_of_rights_on on = words_of_client on.0 ++ (words_of_object on.1.0 ++ words_of_rights on.1.1)

abbrev pub read_rights_on : List ℕ → Read (ClientId × (Object × Rights))
read_rights_on bytes = both read_client (both read_object read_rights) bytes

-- ---- the rows of a policy

-- whom a row on rights covers
abbrev pub words_of_grantee : Grantee → List Word
words_of_grantee grantee.Any = Tag 0 ∷ []
words_of_grantee (grantee.One client) = Tag 1 ∷ words_of_client client

abbrev pub read_one_client : List ℕ → Read Grantee
read_one_client bytes = made grantee.One (read_client bytes)

abbrev pub read_grantee : List ℕ → Read Grantee
read_grantee bytes =
    and_read (read_tag bytes) (λ tag rest.
    if tag == 0 then Ok (grantee.Any, rest)
    else if tag == 1 then read_one_client rest
    else Err (wrong bytes))

abbrev pub number_of_kind : Kind → ℕ
number_of_kind kind.Agent = 0
number_of_kind kind.Region = 1
number_of_kind kind.Signal = 2
number_of_kind kind.Kernel = 3

abbrev pub kind_numbered : ℕ → Option Kind
kind_numbered tag =
    if tag == 0 then Some kind.Agent
    else if tag == 1 then Some kind.Region
    else if tag == 2 then Some kind.Signal
    else if tag == 3 then Some kind.Kernel
    else None

-- what a tag names, which stands before some bytes, or that it names nothing
abbrev pub named : {X : Type 0} → List ℕ → Option X → List ℕ → Read X
named bytes None rest = Err (wrong bytes)
named bytes (Some x) rest = Ok (x, rest)

abbrev pub read_kind : List ℕ → Read Kind
read_kind bytes = and_read (read_tag bytes) (λ tag rest. named bytes (kind_numbered tag) rest)

-- what a row on rights covers: each object of a kind, or one
abbrev pub words_of_target : Target → List Word
words_of_target (target.Any kind) = Tag 0 ∷ Tag (number_of_kind kind) ∷ []
words_of_target (target.One on) = Tag 1 ∷ words_of_object on

abbrev pub read_each : List ℕ → Read Target
read_each bytes = made target.Any (read_kind bytes)

abbrev pub read_one_object : List ℕ → Read Target
read_one_object bytes = made target.One (read_object bytes)

abbrev pub read_target : List ℕ → Read Target
read_target bytes =
    and_read (read_tag bytes) (λ tag rest.
    if tag == 0 then read_each rest
    else if tag == 1 then read_one_object rest
    else Err (wrong bytes))

-- a row on rights
abbrev pub words_of_row : RightsRow → List Word
words_of_row row = words_of_grantee row.subject ++ (words_of_target row.target ++ words_of_rights row.rights)

abbrev pub read_row : List ℕ → Read RightsRow
read_row bytes = made (λ r. record { subject = r.0; target = r.1.0; rights = r.1.1 }) (both read_grantee (both read_target read_rights) bytes)

-- the rows of a policy: its allow rows, and its deny rows
abbrev pub words_of_rows : PolicyRows → List Word
words_of_rows rows = words_of_list words_of_row rows.allows ++ words_of_list words_of_row rows.denies

abbrev pub read_rows : List ℕ → Read PolicyRows
read_rows bytes = made (λ r. record { allows = r.0; denies = r.1 }) (both (read_list read_row) (read_list read_row) bytes)

-- ---- operations on signals

abbrev pub words_of_operation : SignalOp → List Word
words_of_operation (op.Store value) = Tag 0 ∷ Signed value ∷ []
words_of_operation (op.Add value) = Tag 1 ∷ Signed value ∷ []
words_of_operation (op.Subtract value) = Tag 2 ∷ Signed value ∷ []
words_of_operation (op.And value) = Tag 3 ∷ Signed value ∷ []
words_of_operation (op.Or value) = Tag 4 ∷ Signed value ∷ []
words_of_operation (op.Xor value) = Tag 5 ∷ Signed value ∷ []
words_of_operation (op.Exchange value) = Tag 6 ∷ Signed value ∷ []
words_of_operation (op.Cas expected value) = Tag 7 ∷ Signed expected ∷ Signed value ∷ []

-- an operation with one operand, by its tag, which is at most 6
abbrev pub operation_of : ℕ → ℤ → SignalOp
operation_of tag value =
    if tag == 0 then op.Store value
    else if tag == 1 then op.Add value
    else if tag == 2 then op.Subtract value
    else if tag == 3 then op.And value
    else if tag == 4 then op.Or value
    else if tag == 5 then op.Xor value
    else op.Exchange value

abbrev pub read_cas : List ℕ → Read SignalOp
read_cas bytes = made (λ r. op.Cas r.0 r.1) (both read_signed read_signed bytes)

abbrev pub read_one_operand : ℕ → List ℕ → Read SignalOp
read_one_operand tag bytes = made (operation_of tag) (read_signed bytes)

abbrev pub read_operation : List ℕ → Read SignalOp
read_operation bytes =
    and_read (read_tag bytes) (λ tag rest.
    if nat_lt 7 tag then Err (wrong bytes)
    else if tag == 7 then read_cas rest
    else read_one_operand tag rest)

-- ---- errors

abbrev pub number_of_rule : Rule → ℕ
number_of_rule L1 = 0
number_of_rule L2 = 1
number_of_rule L3 = 2
number_of_rule L4 = 3
number_of_rule L5 = 4
number_of_rule L6 = 5
number_of_rule L7 = 6
number_of_rule L8 = 7
number_of_rule L9 = 8
number_of_rule L10 = 9
number_of_rule A1 = 10
number_of_rule A2 = 11
number_of_rule A3 = 12
number_of_rule A4 = 13
number_of_rule A5 = 14
number_of_rule A6 = 15
number_of_rule A7 = 16
number_of_rule B1 = 17

-- a rule of a packet's work
abbrev pub work_rule_numbered : ℕ → Option Rule
work_rule_numbered tag =
    if tag == 10 then Some A1
    else if tag == 11 then Some A2
    else if tag == 12 then Some A3
    else if tag == 13 then Some A4
    else if tag == 14 then Some A5
    else if tag == 15 then Some A6
    else if tag == 16 then Some A7
    else if tag == 17 then Some B1
    else None

abbrev pub rule_numbered : ℕ → Option Rule
rule_numbered tag =
    if tag == 0 then Some L1
    else if tag == 1 then Some L2
    else if tag == 2 then Some L3
    else if tag == 3 then Some L4
    else if tag == 4 then Some L5
    else if tag == 5 then Some L6
    else if tag == 6 then Some L7
    else if tag == 7 then Some L8
    else if tag == 8 then Some L9
    else if tag == 9 then Some L10
    else work_rule_numbered tag

abbrev pub words_of_rule : Rule → List Word
words_of_rule rule = Tag (number_of_rule rule) ∷ []

abbrev pub read_rule : List ℕ → Read Rule
read_rule bytes = and_read (read_tag bytes) (λ tag rest. named bytes (rule_numbered tag) rest)

-- the address that a work-item asked for, where it asked for one
abbrev pub words_of_address : Option SegmentAddress → List Word
words_of_address None = Tag 0 ∷ []
words_of_address (Some (segment.Global address)) = Tag 1 ∷ Number 64 address ∷ []
words_of_address (Some (segment.Group address)) = Tag 2 ∷ Number 32 address ∷ []

abbrev pub read_global : List ℕ → Read (Option SegmentAddress)
read_global bytes = made (λ n. Some (segment.Global n)) (read_number 64 bytes)

abbrev pub read_group : List ℕ → Read (Option SegmentAddress)
read_group bytes = made (λ n. Some (segment.Group n)) (read_number 32 bytes)

abbrev pub read_address : List ℕ → Read (Option SegmentAddress)
read_address bytes =
    and_read (read_tag bytes) (λ tag rest.
    if tag == 0 then Ok (None, rest)
    else if tag == 1 then read_global rest
    else if tag == 2 then read_group rest
    else Err (wrong bytes))

-- where a kernel's work broke a rule: group, item, line and address; the whole packet, where it has no place
abbrev pub words_of_place : Option FaultPlace → List Word
words_of_place None = Tag 0 ∷ []
words_of_place (Some place) = Tag 1 ∷ Number 32 place.group ∷ Number 32 place.item ∷ Number 32 place.line ∷ words_of_address place.address

abbrev pub read_inside : List ℕ → Read (Option FaultPlace)
read_inside bytes =
    made (λ r. Some (record { group = r.0; item = r.1.0; line = r.1.1.0; address = r.1.1.1 }))
    (both (read_number 32) (both (read_number 32) (both (read_number 32) read_address)) bytes)

abbrev pub read_place : List ℕ → Read (Option FaultPlace)
read_place bytes =
    and_read (read_tag bytes) (λ tag rest.
    if tag == 0 then Ok (None, rest)
    else if tag == 1 then read_inside rest
    else Err (wrong bytes))

-- an error: whose it is, the rule, and where
abbrev pub words_of_error : QueueError → List Word
words_of_error error = words_of_packet (error.queue, error.packet) ++ (words_of_rule error.rule ++ words_of_place error.place)

abbrev pub read_error : List ℕ → Read QueueError
read_error bytes =
    made (λ r. record { queue = r.0.0; packet = r.0.1; rule = r.1.0; place = r.1.1 }) (both read_packet_named (both read_rule read_place) bytes)
