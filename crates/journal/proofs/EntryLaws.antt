-- What was written of an entry, of words that fit, is read as the same entry.
use Rattle.std.proofs.Common.{◌≡◌, Bool, true, List, [], ◌∷◌, ◌++◌, length, map, Option, Some, None, refl, ap, ◌∙◌, append_assoc}
use Rattle.std.specs.Prelude.{◌&&◌, codes, flat_map}
use Rattle.std.proofs.lemmas.List.{map-append}
use Rattle.aql_packet.specs.declared.ids.ClientId.{ClientId}
use Rattle.aql_packet.specs.declared.ids.QueueId.{QueueId}
use Rattle.aql_packet.specs.declared.ids.PacketId.{PacketId}
use Rattle.policy.specs.declared.object.Kind.{Kind}
use Rattle.policy.specs.declared.object.Kind.TheVariants as kind
use Rattle.policy.specs.declared.object.Object.{Object}
use Rattle.policy.specs.declared.object.Object.TheVariants as object
use Rattle.policy.specs.declared.rights.Rights.{Rights}
use Rattle.policy.specs.declared.row.Grantee.{Grantee}
use Rattle.policy.specs.declared.row.Grantee.TheVariants as grantee
use Rattle.policy.specs.declared.row.Target.{Target}
use Rattle.policy.specs.declared.row.Target.TheVariants as target
use Rattle.policy.specs.declared.row.RightsRow.{RightsRow}
use Rattle.policy.specs.declared.rows.PolicyRows.{PolicyRows}
use Rattle.policy.specs.KindNames.{name_of_kind}
use Rattle.queue_error.specs.declared.rule.Rule.{Rule}
use Rattle.queue_error.specs.declared.rule.Rule.TheVariants.{L1, L2, L3, L4, L5, L6, L7, L8, L9, L10, A1, A2, A3, A4, A5, A6, A7, B1}
use Rattle.queue_error.specs.declared.error.FaultPlace.{FaultPlace}
use Rattle.queue_error.specs.declared.error.SegmentAddress.{SegmentAddress}
use Rattle.queue_error.specs.declared.error.SegmentAddress.TheVariants as segment
use Rattle.queue_error.specs.declared.error.QueueError.{QueueError}
use Rattle.queue_error.specs.Texts.{text_of_rule}
use Rattle.signals.specs.declared.operation.SignalOp.{SignalOp}
use Rattle.signals.specs.declared.operation.SignalOp.TheVariants as op
use Rattle.core_model.specs.declared.outcome.WaitCause.{WaitCause}
use Rattle.core_model.specs.declared.outcome.WaitCause.TheVariants as cause
use Rattle.core_model.specs.declared.outcome.Taken.TheVariants as taken
use Rattle.core_model.specs.declared.outcome.Worked.TheVariants as worked
use Rattle.core_model.specs.declared.outcome.Polled.TheVariants as polled
use Rattle.core_model.specs.declared.outcome.Outcome.{Outcome}
use Rattle.core_model.specs.declared.outcome.Outcome.TheVariants as outcome
use Rattle.core_model.specs.declared.call.Call.TheVariants as call
use Rattle.core_model.specs.declared.event.Event.{Event}
use Rattle.core_model.specs.declared.event.Event.TheVariants as event
use Rattle.core_model.specs.declared.entry.Effect.{Effect}
use Rattle.core_model.specs.declared.entry.Effect.TheVariants as effect
use Rattle.core_model.specs.declared.entry.Entry.{Entry}
use Rattle.journal.specs.Words.{Text, Word, Name, Number, Signed, Bytes, Packet, Flags, Reading, text_of, fits, times}
use Rattle.journal.specs.Entries.{fit, words_of_object, words_of_rights_on, words_of_packet, words_of_operation, words_of_grantee, words_of_target, words_of_row, words_of_list, words_of_rows, words_of_event, words_of_address, words_of_place, words_of_error, name_of_cause, words_of_outcome, words_of_effect, words_of_entry}
use Rattle.journal.specs.Readings.{object_at, rights_on_at, grantee_at, kind_named, target_at, row_at, list_at, rows_at, packet_named_at, rule_named, address_at, place_at, error_at, operation_at, event_at, cause_named, outcome_at, effect_at, entry_at}
use Rattle.journal.proofs.WordLaws.{both_first, both_second, number_read, signed_read, bytes_read, packet_read, flags_read}
use Rattle.journal.proofs.Times.{times_none, times_step}

-- the texts of some words, and texts behind them
abbrev pub told : List Word → List Text → List Text
told words rest = map text_of words ++ rest

told_both : (ws vs : List Word) (rest : List Text) → told (ws ++ vs) rest ≡ told ws (told vs rest)
told_both ws vs rest = rw (map-append text_of ws vs) (append_assoc (map text_of ws) (map text_of vs) rest)

first : (w : Word) (ws : List Word) → fit (w ∷ ws) ≡ true → fits w ≡ true
first w ws f = both_first (fits w) (fit ws) f

behind : (w : Word) (ws : List Word) → fit (w ∷ ws) ≡ true → fit ws ≡ true
behind w ws f = both_second (fits w) (fit ws) f

front : (ws vs : List Word) → fit (ws ++ vs) ≡ true → fit ws ≡ true
front [] vs f = refl
front (w ∷ ws) vs f = joined (fits w) (fit ws) (first w (ws ++ vs) f) (front ws vs (behind w (ws ++ vs) f))
  where
    joined : (a b : Bool) → a ≡ true → b ≡ true → (a && b) ≡ true
    joined a b g h = rw g h

back : (ws vs : List Word) → fit (ws ++ vs) ≡ true → fit vs ≡ true
back [] vs f = f
back (w ∷ ws) vs f = back ws vs (behind w (ws ++ vs) f)

-- objects and rights
pub object_read : (x : Object) (rest : List Text) → fit (words_of_object x) ≡ true → object_at (told (words_of_object x) rest) ≡ Some (x, rest)
object_read (object.Agent h) rest f =
    let back0 : fit (Number 32 (h.0) ∷ ([])) ≡ true = behind (Name (codes "agent")) (Number 32 (h.0) ∷ ([])) f in
    let fits1 : fits (Number 32 (h.0)) ≡ true = first (Number 32 (h.0)) ([]) back0 in
    rw (number_read 32 (h.0) (fits1)) (refl)
object_read (object.Region h) rest f =
    let back0 : fit (Number 32 (h.0) ∷ ([])) ≡ true = behind (Name (codes "region")) (Number 32 (h.0) ∷ ([])) f in
    let fits1 : fits (Number 32 (h.0)) ≡ true = first (Number 32 (h.0)) ([]) back0 in
    rw (number_read 32 (h.0) (fits1)) (refl)
object_read (object.Signal h) rest f =
    let back0 : fit (Number 64 (h.0) ∷ ([])) ≡ true = behind (Name (codes "signal")) (Number 64 (h.0) ∷ ([])) f in
    let fits1 : fits (Number 64 (h.0)) ≡ true = first (Number 64 (h.0)) ([]) back0 in
    rw (number_read 64 (h.0) (fits1)) (refl)
object_read (object.Kernel h) rest f =
    let back0 : fit (Number 64 (h.0) ∷ ([])) ≡ true = behind (Name (codes "kernel")) (Number 64 (h.0) ∷ ([])) f in
    let fits1 : fits (Number 64 (h.0)) ≡ true = first (Number 64 (h.0)) ([]) back0 in
    rw (number_read 64 (h.0) (fits1)) (refl)

pub rights_on_read : (client : ClientId) (on : Object) (rights : Rights) (rest : List Text) → fit (words_of_rights_on client on rights) ≡ true →
    rights_on_at (told (words_of_rights_on client on rights) rest) ≡ Some ((client, on, rights), rest)
rights_on_read client on rights rest f =
    let fits0 : fits (Number 32 (client.0)) ≡ true = first (Number 32 (client.0)) (words_of_object on ++ (Number 8 (rights.0) ∷ ([]))) f in
    let back0 : fit (words_of_object on ++ (Number 8 (rights.0) ∷ ([]))) ≡ true = behind (Number 32 (client.0)) (words_of_object on ++ (Number 8 (rights.0) ∷ ([]))) f in
    let front1 : fit (words_of_object on) ≡ true = front (words_of_object on) (Number 8 (rights.0) ∷ ([])) back0 in
    let back1 : fit (Number 8 (rights.0) ∷ ([])) ≡ true = back (words_of_object on) (Number 8 (rights.0) ∷ ([])) back0 in
    let fits2 : fits (Number 8 (rights.0)) ≡ true = first (Number 8 (rights.0)) ([]) back1 in
    rw (number_read 32 (client.0) (fits0)) (rw (told_both (words_of_object on) (Number 8 (rights.0) ∷ ([])) (rest)) (rw (object_read on (told (Number 8 (rights.0) ∷ ([])) (rest)) front1) (rw (number_read 8 (rights.0) (fits2)) (refl))))

pub packet_named_read : (queue : QueueId) (packet : PacketId) (rest : List Text) → fit (words_of_packet queue packet) ≡ true →
    packet_named_at (told (words_of_packet queue packet) rest) ≡ Some ((queue, packet), rest)
packet_named_read queue packet rest f =
    let fits0 : fits (Number 64 (queue.0)) ≡ true = first (Number 64 (queue.0)) (Number 64 (packet.0) ∷ ([])) f in
    let back0 : fit (Number 64 (packet.0) ∷ ([])) ≡ true = behind (Number 64 (queue.0)) (Number 64 (packet.0) ∷ ([])) f in
    let fits1 : fits (Number 64 (packet.0)) ≡ true = first (Number 64 (packet.0)) ([]) back0 in
    rw (number_read 64 (queue.0) (fits0)) (rw (number_read 64 (packet.0) (fits1)) (refl))

-- the rows of a policy
pub grantee_read : (x : Grantee) (rest : List Text) → fit (words_of_grantee x) ≡ true → grantee_at (told (words_of_grantee x) rest) ≡ Some (x, rest)
grantee_read grantee.Any rest f = refl
grantee_read (grantee.One client) rest f =
    let back0 : fit (Number 32 (client.0) ∷ ([])) ≡ true = behind (Name (codes "client")) (Number 32 (client.0) ∷ ([])) f in
    let fits1 : fits (Number 32 (client.0)) ≡ true = first (Number 32 (client.0)) ([]) back0 in
    rw (number_read 32 (client.0) (fits1)) (refl)

kind_read : (k : Kind) → kind_named (name_of_kind k) ≡ Some k
kind_read kind.Agent = refl
kind_read kind.Region = refl
kind_read kind.Signal = refl
kind_read kind.Kernel = refl

pub target_read : (x : Target) (rest : List Text) → fit (words_of_target x) ≡ true → target_at (told (words_of_target x) rest) ≡ Some (x, rest)
target_read (target.Any k) rest f = rw (kind_read k) refl
target_read (target.One on) rest f =
    let back0 : fit (words_of_object on) ≡ true = behind (Name (codes "one")) (words_of_object on) f in
    rw (object_read on (rest) back0) (refl)

pub row_read : (x : RightsRow) (rest : List Text) → fit (words_of_row x) ≡ true → row_at (told (words_of_row x) rest) ≡ Some (x, rest)
row_read row rest f =
    let front0 : fit (words_of_grantee row.subject) ≡ true = front (words_of_grantee row.subject) (words_of_target row.target ++ (Number 8 (row.rights.0) ∷ ([]))) f in
    let back0 : fit (words_of_target row.target ++ (Number 8 (row.rights.0) ∷ ([]))) ≡ true = back (words_of_grantee row.subject) (words_of_target row.target ++ (Number 8 (row.rights.0) ∷ ([]))) f in
    let front1 : fit (words_of_target row.target) ≡ true = front (words_of_target row.target) (Number 8 (row.rights.0) ∷ ([])) back0 in
    let back1 : fit (Number 8 (row.rights.0) ∷ ([])) ≡ true = back (words_of_target row.target) (Number 8 (row.rights.0) ∷ ([])) back0 in
    let fits2 : fits (Number 8 (row.rights.0)) ≡ true = first (Number 8 (row.rights.0)) ([]) back1 in
    rw (told_both (words_of_grantee row.subject) (words_of_target row.target ++ (Number 8 (row.rights.0) ∷ ([]))) (rest)) (rw (grantee_read row.subject (told (words_of_target row.target ++ (Number 8 (row.rights.0) ∷ ([]))) (rest)) front0) (rw (told_both (words_of_target row.target) (Number 8 (row.rights.0) ∷ ([])) (rest)) (rw (target_read row.target (told (Number 8 (row.rights.0) ∷ ([])) (rest)) front1) (rw (number_read 8 (row.rights.0) (fits2)) (refl)))))

-- lists
pub times_read : {X : Type 0} (words : X → List Word) (one : List Text → Reading X) →
    ((x : X) (rest : List Text) → fit (words x) ≡ true → one (told (words x) rest) ≡ Some (x, rest)) →
    (xs : List X) (rest : List Text) → fit (flat_map words xs) ≡ true → times one (length xs) (told (flat_map words xs) rest) ≡ Some (xs, rest)
times_read words one h [] rest f = times_none one rest
times_read words one h (x ∷ xs) rest f =
    let this : fit (words x) ≡ true = front (words x) (flat_map words xs) f in
    let more : fit (flat_map words xs) ≡ true = back (words x) (flat_map words xs) f in
    times_step one (length xs) (told (words x ++ flat_map words xs) rest)
    ∙ rw (told_both (words x) (flat_map words xs) rest) (rw (h x (told (flat_map words xs) rest) this) (rw (times_read words one h xs rest more) refl))

pub list_read : {X : Type 0} (words : X → List Word) (one : List Text → Reading X) →
    ((x : X) (rest : List Text) → fit (words x) ≡ true → one (told (words x) rest) ≡ Some (x, rest)) →
    (xs : List X) (rest : List Text) → fit (words_of_list words xs) ≡ true → list_at one (told (words_of_list words xs) rest) ≡ Some (xs, rest)
list_read words one h xs rest f =
    let count : fits (Number 64 (length xs)) ≡ true = first (Number 64 (length xs)) (flat_map words xs) f in
    rw (number_read 64 (length xs) count) (times_read words one h xs rest (behind (Number 64 (length xs)) (flat_map words xs) f))

pub rows_read : (x : PolicyRows) (rest : List Text) → fit (words_of_rows x) ≡ true → rows_at (told (words_of_rows x) rest) ≡ Some (x, rest)
rows_read rows rest f =
    let front0 : fit (words_of_list words_of_row rows.allows) ≡ true = front (words_of_list words_of_row rows.allows) (words_of_list words_of_row rows.denies) f in
    let back0 : fit (words_of_list words_of_row rows.denies) ≡ true = back (words_of_list words_of_row rows.allows) (words_of_list words_of_row rows.denies) f in
    let split : told (words_of_rows rows) rest ≡ told (words_of_list words_of_row rows.allows) (told (words_of_list words_of_row rows.denies) rest) = told_both (words_of_list words_of_row rows.allows) (words_of_list words_of_row rows.denies) rest in
    ap rows_at split ∙ rw (list_read words_of_row row_at row_read rows.allows (told (words_of_list words_of_row rows.denies) rest) front0) (rw (list_read words_of_row row_at row_read rows.denies rest back0) refl)

-- calls
pub operation_read : (x : SignalOp) (rest : List Text) → fit (words_of_operation x) ≡ true → operation_at (told (words_of_operation x) rest) ≡ Some (x, rest)
operation_read (op.Store value) rest f =
    let back0 : fit (Signed (value) ∷ ([])) ≡ true = behind (Name (codes "store")) (Signed (value) ∷ ([])) f in
    let fits1 : fits (Signed (value)) ≡ true = first (Signed (value)) ([]) back0 in
    rw (signed_read (value) (fits1)) (refl)
operation_read (op.Add value) rest f =
    let back0 : fit (Signed (value) ∷ ([])) ≡ true = behind (Name (codes "add")) (Signed (value) ∷ ([])) f in
    let fits1 : fits (Signed (value)) ≡ true = first (Signed (value)) ([]) back0 in
    rw (signed_read (value) (fits1)) (refl)
operation_read (op.Subtract value) rest f =
    let back0 : fit (Signed (value) ∷ ([])) ≡ true = behind (Name (codes "subtract")) (Signed (value) ∷ ([])) f in
    let fits1 : fits (Signed (value)) ≡ true = first (Signed (value)) ([]) back0 in
    rw (signed_read (value) (fits1)) (refl)
operation_read (op.And value) rest f =
    let back0 : fit (Signed (value) ∷ ([])) ≡ true = behind (Name (codes "and")) (Signed (value) ∷ ([])) f in
    let fits1 : fits (Signed (value)) ≡ true = first (Signed (value)) ([]) back0 in
    rw (signed_read (value) (fits1)) (refl)
operation_read (op.Or value) rest f =
    let back0 : fit (Signed (value) ∷ ([])) ≡ true = behind (Name (codes "or")) (Signed (value) ∷ ([])) f in
    let fits1 : fits (Signed (value)) ≡ true = first (Signed (value)) ([]) back0 in
    rw (signed_read (value) (fits1)) (refl)
operation_read (op.Xor value) rest f =
    let back0 : fit (Signed (value) ∷ ([])) ≡ true = behind (Name (codes "xor")) (Signed (value) ∷ ([])) f in
    let fits1 : fits (Signed (value)) ≡ true = first (Signed (value)) ([]) back0 in
    rw (signed_read (value) (fits1)) (refl)
operation_read (op.Exchange value) rest f =
    let back0 : fit (Signed (value) ∷ ([])) ≡ true = behind (Name (codes "exchange")) (Signed (value) ∷ ([])) f in
    let fits1 : fits (Signed (value)) ≡ true = first (Signed (value)) ([]) back0 in
    rw (signed_read (value) (fits1)) (refl)
operation_read (op.Cas expected value) rest f =
    let back0 : fit (Signed (expected) ∷ (Signed (value) ∷ ([]))) ≡ true = behind (Name (codes "cas")) (Signed (expected) ∷ (Signed (value) ∷ ([]))) f in
    let fits1 : fits (Signed (expected)) ≡ true = first (Signed (expected)) (Signed (value) ∷ ([])) back0 in
    let back1 : fit (Signed (value) ∷ ([])) ≡ true = behind (Signed (expected)) (Signed (value) ∷ ([])) back0 in
    let fits2 : fits (Signed (value)) ≡ true = first (Signed (value)) ([]) back1 in
    rw (signed_read (expected) (fits1)) (rw (signed_read (value) (fits2)) (refl))

-- events
pub event_read : (x : Event) (rest : List Text) → fit (words_of_event x) ≡ true → event_at (told (words_of_event x) rest) ≡ Some (x, rest)
event_read (event.Open client agent size) rest f =
    let back0 : fit (Number 32 (client.0) ∷ (Number 32 (agent.0) ∷ (Number 64 (size) ∷ ([])))) ≡ true = behind (Name (codes "open")) (Number 32 (client.0) ∷ (Number 32 (agent.0) ∷ (Number 64 (size) ∷ ([])))) f in
    let fits1 : fits (Number 32 (client.0)) ≡ true = first (Number 32 (client.0)) (Number 32 (agent.0) ∷ (Number 64 (size) ∷ ([]))) back0 in
    let back1 : fit (Number 32 (agent.0) ∷ (Number 64 (size) ∷ ([]))) ≡ true = behind (Number 32 (client.0)) (Number 32 (agent.0) ∷ (Number 64 (size) ∷ ([]))) back0 in
    let fits2 : fits (Number 32 (agent.0)) ≡ true = first (Number 32 (agent.0)) (Number 64 (size) ∷ ([])) back1 in
    let back2 : fit (Number 64 (size) ∷ ([])) ≡ true = behind (Number 32 (agent.0)) (Number 64 (size) ∷ ([])) back1 in
    let fits3 : fits (Number 64 (size)) ≡ true = first (Number 64 (size)) ([]) back2 in
    rw (number_read 32 (client.0) (fits1)) (rw (number_read 32 (agent.0) (fits2)) (rw (number_read 64 (size) (fits3)) (refl)))
event_read (event.Take queue packet bytes) rest f =
    let back0 : fit (Number 64 (queue.0) ∷ (Number 64 (packet.0) ∷ (Packet (bytes) ∷ ([])))) ≡ true = behind (Name (codes "take")) (Number 64 (queue.0) ∷ (Number 64 (packet.0) ∷ (Packet (bytes) ∷ ([])))) f in
    let fits1 : fits (Number 64 (queue.0)) ≡ true = first (Number 64 (queue.0)) (Number 64 (packet.0) ∷ (Packet (bytes) ∷ ([]))) back0 in
    let back1 : fit (Number 64 (packet.0) ∷ (Packet (bytes) ∷ ([]))) ≡ true = behind (Number 64 (queue.0)) (Number 64 (packet.0) ∷ (Packet (bytes) ∷ ([]))) back0 in
    let fits2 : fits (Number 64 (packet.0)) ≡ true = first (Number 64 (packet.0)) (Packet (bytes) ∷ ([])) back1 in
    let back2 : fit (Packet (bytes) ∷ ([])) ≡ true = behind (Number 64 (packet.0)) (Packet (bytes) ∷ ([])) back1 in
    let fits3 : fits (Packet (bytes)) ≡ true = first (Packet (bytes)) ([]) back2 in
    rw (number_read 64 (queue.0) (fits1)) (rw (number_read 64 (packet.0) (fits2)) (rw (packet_read (bytes) (fits3)) (refl)))
event_read (event.Call (call.Grant client on rights)) rest f =
    let back0 : fit (words_of_rights_on client on rights) ≡ true = behind (Name (codes "grant")) (words_of_rights_on client on rights) f in
    rw (rights_on_read client on rights (rest) back0) (refl)
event_read (event.Call (call.Revoke client on rights)) rest f =
    let back0 : fit (words_of_rights_on client on rights) ≡ true = behind (Name (codes "revoke")) (words_of_rights_on client on rights) f in
    rw (rights_on_read client on rights (rest) back0) (refl)
event_read (event.Call (call.Stop queue)) rest f =
    let back0 : fit (Number 64 (queue.0) ∷ ([])) ≡ true = behind (Name (codes "stop")) (Number 64 (queue.0) ∷ ([])) f in
    let fits1 : fits (Number 64 (queue.0)) ≡ true = first (Number 64 (queue.0)) ([]) back0 in
    rw (number_read 64 (queue.0) (fits1)) (refl)
event_read (event.Call (call.Close queue)) rest f =
    let back0 : fit (Number 64 (queue.0) ∷ ([])) ≡ true = behind (Name (codes "close")) (Number 64 (queue.0) ∷ ([])) f in
    let fits1 : fits (Number 64 (queue.0)) ≡ true = first (Number 64 (queue.0)) ([]) back0 in
    rw (number_read 64 (queue.0) (fits1)) (refl)
event_read (event.Call (call.RunNext queue packet)) rest f =
    let back0 : fit (words_of_packet queue packet) ≡ true = behind (Name (codes "run")) (words_of_packet queue packet) f in
    rw (packet_named_read queue packet (rest) back0) (refl)
event_read (event.Call (call.Poll queue packet)) rest f =
    let back0 : fit (words_of_packet queue packet) ≡ true = behind (Name (codes "poll")) (words_of_packet queue packet) f in
    rw (packet_named_read queue packet (rest) back0) (refl)
event_read (event.Call (call.Finish queue packet)) rest f =
    let back0 : fit (words_of_packet queue packet) ≡ true = behind (Name (codes "finish")) (words_of_packet queue packet) f in
    rw (packet_named_read queue packet (rest) back0) (refl)
event_read (event.Call (call.HostWrite client address bytes)) rest f =
    let back0 : fit (Number 32 (client.0) ∷ (Number 64 (address.0) ∷ (Bytes (bytes) ∷ ([])))) ≡ true = behind (Name (codes "write")) (Number 32 (client.0) ∷ (Number 64 (address.0) ∷ (Bytes (bytes) ∷ ([])))) f in
    let fits1 : fits (Number 32 (client.0)) ≡ true = first (Number 32 (client.0)) (Number 64 (address.0) ∷ (Bytes (bytes) ∷ ([]))) back0 in
    let back1 : fit (Number 64 (address.0) ∷ (Bytes (bytes) ∷ ([]))) ≡ true = behind (Number 32 (client.0)) (Number 64 (address.0) ∷ (Bytes (bytes) ∷ ([]))) back0 in
    let fits2 : fits (Number 64 (address.0)) ≡ true = first (Number 64 (address.0)) (Bytes (bytes) ∷ ([])) back1 in
    let back2 : fit (Bytes (bytes) ∷ ([])) ≡ true = behind (Number 64 (address.0)) (Bytes (bytes) ∷ ([])) back1 in
    let fits3 : fits (Bytes (bytes)) ≡ true = first (Bytes (bytes)) ([]) back2 in
    rw (number_read 32 (client.0) (fits1)) (rw (number_read 64 (address.0) (fits2)) (rw (bytes_read (bytes) (fits3)) (refl)))
event_read (event.Call (call.ChangeSignal client signal operation)) rest f =
    let back0 : fit (Number 32 (client.0) ∷ (Number 64 (signal.0) ∷ (words_of_operation operation))) ≡ true = behind (Name (codes "signal")) (Number 32 (client.0) ∷ (Number 64 (signal.0) ∷ (words_of_operation operation))) f in
    let fits1 : fits (Number 32 (client.0)) ≡ true = first (Number 32 (client.0)) (Number 64 (signal.0) ∷ (words_of_operation operation)) back0 in
    let back1 : fit (Number 64 (signal.0) ∷ (words_of_operation operation)) ≡ true = behind (Number 32 (client.0)) (Number 64 (signal.0) ∷ (words_of_operation operation)) back0 in
    let fits2 : fits (Number 64 (signal.0)) ≡ true = first (Number 64 (signal.0)) (words_of_operation operation) back1 in
    let back2 : fit (words_of_operation operation) ≡ true = behind (Number 64 (signal.0)) (words_of_operation operation) back1 in
    rw (number_read 32 (client.0) (fits1)) (rw (number_read 64 (signal.0) (fits2)) (rw (operation_read operation (rest) back2) (refl)))
event_read (event.Reload rows) rest f =
    let back0 : fit (words_of_rows rows) ≡ true = behind (Name (codes "reload")) (words_of_rows rows) f in
    rw (rows_read rows (rest) back0) (refl)

-- errors
rule_read : (r : Rule) → rule_named (text_of_rule r) ≡ Some r
rule_read L1 = refl
rule_read L2 = refl
rule_read L3 = refl
rule_read L4 = refl
rule_read L5 = refl
rule_read L6 = refl
rule_read L7 = refl
rule_read L8 = refl
rule_read L9 = refl
rule_read L10 = refl
rule_read A1 = refl
rule_read A2 = refl
rule_read A3 = refl
rule_read A4 = refl
rule_read A5 = refl
rule_read A6 = refl
rule_read A7 = refl
rule_read B1 = refl

pub address_read : (x : Option SegmentAddress) (rest : List Text) → fit (words_of_address x) ≡ true → address_at (told (words_of_address x) rest) ≡ Some (x, rest)
address_read None rest f = refl
address_read (Some (segment.Global address)) rest f =
    let back0 : fit (Number 64 (address) ∷ ([])) ≡ true = behind (Name (codes "global")) (Number 64 (address) ∷ ([])) f in
    let fits1 : fits (Number 64 (address)) ≡ true = first (Number 64 (address)) ([]) back0 in
    rw (number_read 64 (address) (fits1)) (refl)
address_read (Some (segment.Group address)) rest f =
    let back0 : fit (Number 32 (address) ∷ ([])) ≡ true = behind (Name (codes "group")) (Number 32 (address) ∷ ([])) f in
    let fits1 : fits (Number 32 (address)) ≡ true = first (Number 32 (address)) ([]) back0 in
    rw (number_read 32 (address) (fits1)) (refl)

pub place_read : (x : Option FaultPlace) (rest : List Text) → fit (words_of_place x) ≡ true → place_at (told (words_of_place x) rest) ≡ Some (x, rest)
place_read None rest f = refl
place_read (Some place) rest f =
    let back0 : fit (Number 32 (place.group) ∷ (Number 32 (place.item) ∷ (Number 32 (place.line) ∷ (words_of_address place.address)))) ≡ true = behind (Name (codes "at")) (Number 32 (place.group) ∷ (Number 32 (place.item) ∷ (Number 32 (place.line) ∷ (words_of_address place.address)))) f in
    let fits1 : fits (Number 32 (place.group)) ≡ true = first (Number 32 (place.group)) (Number 32 (place.item) ∷ (Number 32 (place.line) ∷ (words_of_address place.address))) back0 in
    let back1 : fit (Number 32 (place.item) ∷ (Number 32 (place.line) ∷ (words_of_address place.address))) ≡ true = behind (Number 32 (place.group)) (Number 32 (place.item) ∷ (Number 32 (place.line) ∷ (words_of_address place.address))) back0 in
    let fits2 : fits (Number 32 (place.item)) ≡ true = first (Number 32 (place.item)) (Number 32 (place.line) ∷ (words_of_address place.address)) back1 in
    let back2 : fit (Number 32 (place.line) ∷ (words_of_address place.address)) ≡ true = behind (Number 32 (place.item)) (Number 32 (place.line) ∷ (words_of_address place.address)) back1 in
    let fits3 : fits (Number 32 (place.line)) ≡ true = first (Number 32 (place.line)) (words_of_address place.address) back2 in
    let back3 : fit (words_of_address place.address) ≡ true = behind (Number 32 (place.line)) (words_of_address place.address) back2 in
    rw (number_read 32 (place.group) (fits1)) (rw (number_read 32 (place.item) (fits2)) (rw (number_read 32 (place.line) (fits3)) (rw (address_read place.address (rest) back3) (refl))))

pub error_read : (x : QueueError) (rest : List Text) → fit (words_of_error x) ≡ true → error_at (told (words_of_error x) rest) ≡ Some (x, rest)
error_read error rest f =
    let fits0 : fits (Number 64 (error.queue.0)) ≡ true = first (Number 64 (error.queue.0)) (Number 64 (error.packet.0) ∷ (Name (text_of_rule error.rule) ∷ (words_of_place error.place))) f in
    let back0 : fit (Number 64 (error.packet.0) ∷ (Name (text_of_rule error.rule) ∷ (words_of_place error.place))) ≡ true = behind (Number 64 (error.queue.0)) (Number 64 (error.packet.0) ∷ (Name (text_of_rule error.rule) ∷ (words_of_place error.place))) f in
    let fits1 : fits (Number 64 (error.packet.0)) ≡ true = first (Number 64 (error.packet.0)) (Name (text_of_rule error.rule) ∷ (words_of_place error.place)) back0 in
    let back1 : fit (Name (text_of_rule error.rule) ∷ (words_of_place error.place)) ≡ true = behind (Number 64 (error.packet.0)) (Name (text_of_rule error.rule) ∷ (words_of_place error.place)) back0 in
    let back2 : fit (words_of_place error.place) ≡ true = behind (Name (text_of_rule error.rule)) (words_of_place error.place) back1 in
    rw (number_read 64 (error.queue.0) (fits0)) (rw (number_read 64 (error.packet.0) (fits1)) (rw (rule_read error.rule) (rw (place_read error.place (rest) back2) (refl))))

-- outcomes
cause_read : (why : WaitCause) → cause_named (name_of_cause why) ≡ Some why
cause_read cause.Barrier = refl
cause_read cause.Active = refl
cause_read cause.Slots = refl

pub outcome_read : (x : Outcome) (rest : List Text) → fit (words_of_outcome x) ≡ true → outcome_at (told (words_of_outcome x) rest) ≡ Some (x, rest)
outcome_read outcome.Accepted rest f = refl
outcome_read (outcome.Opened queue) rest f =
    let back0 : fit (Number 64 (queue.0) ∷ ([])) ≡ true = behind (Name (codes "opened")) (Number 64 (queue.0) ∷ ([])) f in
    let fits1 : fits (Number 64 (queue.0)) ≡ true = first (Number 64 (queue.0)) ([]) back0 in
    rw (number_read 64 (queue.0) (fits1)) (refl)
outcome_read (outcome.Taken taken.Launched) rest f = refl
outcome_read (outcome.Taken (taken.Denied error)) rest f =
    let back0 : fit (words_of_error error) ≡ true = behind (Name (codes "denied")) (words_of_error error) f in
    rw (error_read error (rest) back0) (refl)
outcome_read (outcome.Taken (taken.Waiting why)) rest f = rw (cause_read why) refl
outcome_read (outcome.Worked (worked.Ran group left)) rest f =
    let back0 : fit (Number 32 (group) ∷ (Number 32 (left) ∷ ([]))) ≡ true = behind (Name (codes "ran")) (Number 32 (group) ∷ (Number 32 (left) ∷ ([]))) f in
    let fits1 : fits (Number 32 (group)) ≡ true = first (Number 32 (group)) (Number 32 (left) ∷ ([])) back0 in
    let back1 : fit (Number 32 (left) ∷ ([])) ≡ true = behind (Number 32 (group)) (Number 32 (left) ∷ ([])) back0 in
    let fits2 : fits (Number 32 (left)) ≡ true = first (Number 32 (left)) ([]) back1 in
    rw (number_read 32 (group) (fits1)) (rw (number_read 32 (left) (fits2)) (refl))
outcome_read (outcome.Worked (worked.Faulted error)) rest f =
    let back0 : fit (words_of_error error) ≡ true = behind (Name (codes "faulted")) (words_of_error error) f in
    rw (error_read error (rest) back0) (refl)
outcome_read (outcome.Worked worked.Done) rest f = refl
outcome_read (outcome.Polled (polled.Pending seen)) rest f =
    let back0 : fit (Flags (seen.0) ∷ ([])) ≡ true = behind (Name (codes "pending")) (Flags (seen.0) ∷ ([])) f in
    let fits1 : fits (Flags (seen.0)) ≡ true = first (Flags (seen.0)) ([]) back0 in
    rw (flags_read (seen.0) (fits1)) (refl)
outcome_read (outcome.Polled (polled.Ready seen)) rest f =
    let back0 : fit (Flags (seen.0) ∷ ([])) ≡ true = behind (Name (codes "ready")) (Flags (seen.0) ∷ ([])) f in
    let fits1 : fits (Flags (seen.0)) ≡ true = first (Flags (seen.0)) ([]) back0 in
    rw (flags_read (seen.0) (fits1)) (refl)
outcome_read (outcome.Polled (polled.Failed error)) rest f =
    let back0 : fit (words_of_error error) ≡ true = behind (Name (codes "failed")) (words_of_error error) f in
    rw (error_read error (rest) back0) (refl)
outcome_read (outcome.Changed old) rest f =
    let back0 : fit (Signed (old) ∷ ([])) ≡ true = behind (Name (codes "changed")) (Signed (old) ∷ ([])) f in
    let fits1 : fits (Signed (old)) ≡ true = first (Signed (old)) ([]) back0 in
    rw (signed_read (old) (fits1)) (refl)

-- changes
pub effect_read : (x : Effect) (rest : List Text) → fit (words_of_effect x) ≡ true → effect_at (told (words_of_effect x) rest) ≡ Some (x, rest)
effect_read (effect.Write address bytes) rest f =
    let back0 : fit (Number 64 (address.0) ∷ (Bytes (bytes) ∷ ([]))) ≡ true = behind (Name (codes "write")) (Number 64 (address.0) ∷ (Bytes (bytes) ∷ ([]))) f in
    let fits1 : fits (Number 64 (address.0)) ≡ true = first (Number 64 (address.0)) (Bytes (bytes) ∷ ([])) back0 in
    let back1 : fit (Bytes (bytes) ∷ ([])) ≡ true = behind (Number 64 (address.0)) (Bytes (bytes) ∷ ([])) back0 in
    let fits2 : fits (Bytes (bytes)) ≡ true = first (Bytes (bytes)) ([]) back1 in
    rw (number_read 64 (address.0) (fits1)) (rw (bytes_read (bytes) (fits2)) (refl))
effect_read (effect.Signal signal old new) rest f =
    let back0 : fit (Number 64 (signal.0) ∷ (Signed (old) ∷ (Signed (new) ∷ ([])))) ≡ true = behind (Name (codes "signal")) (Number 64 (signal.0) ∷ (Signed (old) ∷ (Signed (new) ∷ ([])))) f in
    let fits1 : fits (Number 64 (signal.0)) ≡ true = first (Number 64 (signal.0)) (Signed (old) ∷ (Signed (new) ∷ ([]))) back0 in
    let back1 : fit (Signed (old) ∷ (Signed (new) ∷ ([]))) ≡ true = behind (Number 64 (signal.0)) (Signed (old) ∷ (Signed (new) ∷ ([]))) back0 in
    let fits2 : fits (Signed (old)) ≡ true = first (Signed (old)) (Signed (new) ∷ ([])) back1 in
    let back2 : fit (Signed (new) ∷ ([])) ≡ true = behind (Signed (old)) (Signed (new) ∷ ([])) back1 in
    let fits3 : fits (Signed (new)) ≡ true = first (Signed (new)) ([]) back2 in
    rw (number_read 64 (signal.0) (fits1)) (rw (signed_read (old) (fits2)) (rw (signed_read (new) (fits3)) (refl)))
effect_read (effect.Release queue packet) rest f =
    let back0 : fit (words_of_packet queue packet) ≡ true = behind (Name (codes "release")) (words_of_packet queue packet) f in
    rw (packet_named_read queue packet (rest) back0) (refl)

-- entries
pub entry_read : (x : Entry) (rest : List Text) → fit (words_of_entry x) ≡ true → entry_at (told (words_of_entry x) rest) ≡ Some (x, rest)
entry_read entry rest f =
    let front0 : fit (words_of_event entry.event) ≡ true = front (words_of_event entry.event) (words_of_outcome entry.outcome ++ (words_of_list words_of_effect entry.effects)) f in
    let back0 : fit (words_of_outcome entry.outcome ++ (words_of_list words_of_effect entry.effects)) ≡ true = back (words_of_event entry.event) (words_of_outcome entry.outcome ++ (words_of_list words_of_effect entry.effects)) f in
    let front1 : fit (words_of_outcome entry.outcome) ≡ true = front (words_of_outcome entry.outcome) (words_of_list words_of_effect entry.effects) back0 in
    let back1 : fit (words_of_list words_of_effect entry.effects) ≡ true = back (words_of_outcome entry.outcome) (words_of_list words_of_effect entry.effects) back0 in
    rw (told_both (words_of_event entry.event) (words_of_outcome entry.outcome ++ (words_of_list words_of_effect entry.effects)) (rest)) (rw (event_read entry.event (told (words_of_outcome entry.outcome ++ (words_of_list words_of_effect entry.effects)) (rest)) front0) (rw (told_both (words_of_outcome entry.outcome) (words_of_list words_of_effect entry.effects) (rest)) (rw (outcome_read entry.outcome (told (words_of_list words_of_effect entry.effects) (rest)) front1) (rw (list_read words_of_effect effect_at effect_read entry.effects (rest) back1) (refl)))))
