-- What entries are made of is read as it was written, and written as it was read.
use Rattle.std.proofs.Common.{◌≡◌, ℕ, Bool, true, false, List, [], ◌∷◌, ◌++◌, refl, sym, ap, ◌∙◌, subst, arith}
use Rattle.std.specs.Prelude.{◌==◌, nat_lt, ℤ, Option, Some, None, Ok, Err, if◌then◌else◌}
use Rattle.std.proofs.lemmas.Bool.Decides.{nat_tests}
use Rattle.aql_packet.specs.declared.ids.QueueId.{QueueId}
use Rattle.aql_packet.specs.declared.ids.PacketId.{PacketId}
use Rattle.policy.specs.declared.object.Kind.{Kind}
use Rattle.policy.specs.declared.object.Kind.TheVariants as kind
use Rattle.policy.specs.declared.object.Object.{Object}
use Rattle.policy.specs.declared.object.Object.TheVariants as object
use Rattle.policy.specs.declared.row.Grantee.{Grantee}
use Rattle.policy.specs.declared.row.Grantee.TheVariants as grantee
use Rattle.policy.specs.declared.row.Target.{Target}
use Rattle.policy.specs.declared.row.Target.TheVariants as target
use Rattle.queue_error.specs.declared.rule.Rule.{Rule}
use Rattle.queue_error.specs.declared.rule.Rule.TheVariants.{L1, L2, L3, L4, L5, L6, L7, L8, L9, L10, A1, A2, A3, A4, A5, A6, A7, B1}
use Rattle.queue_error.specs.declared.error.FaultPlace.{FaultPlace}
use Rattle.queue_error.specs.declared.error.SegmentAddress.{SegmentAddress}
use Rattle.queue_error.specs.declared.error.SegmentAddress.TheVariants as segment
use Rattle.signals.specs.declared.operation.SignalOp.{SignalOp}
use Rattle.signals.specs.declared.operation.SignalOp.TheVariants as op
use Rattle.packed_journal.specs.Words.{Word, Tag, Number, Signed}
use Rattle.packed_journal.specs.Readings.{Read, bytes_of, fit, wrong, made, both, read_number, read_signed, words_of_list, read_list}
use Rattle.packed_journal.specs.Parts.{words_of_client, read_client, words_of_packet, read_queue, read_packet_id, read_packet_named, words_of_object, read_object, words_of_rights, read_rights, words_of_rights_on, read_rights_on, words_of_grantee, read_grantee, number_of_kind, named, read_kind, words_of_target, read_target, words_of_row, read_row, words_of_rows, read_rows, words_of_operation, operation_of, read_one_operand, read_operation, words_of_rule, read_rule, words_of_address, read_address, words_of_place, read_place, words_of_error, read_error}
use Rattle.packed_journal.proofs.NumberLaws.{is_same}
use Rattle.packed_journal.proofs.Forms.{WrittenSo, IsForm, number_form, signed_form, then_words, both_form, made_form, arm_back, arm_tells, tag_if, named_if, list_form}

abbrev pub of_bits : ℕ → ℕ → List Word
of_bits bits n = Number bits n ∷ []

-- ---- numbers that name things

pub client_form : IsForm words_of_client read_client
client_form = made_form (of_bits 32) words_of_client (read_number 32) (λ n. record { 0 = n }) (λ client. client.0) (number_form 32) (λ client. refl) (λ n. refl)

abbrev pub words_of_queue : QueueId → List Word
words_of_queue queue = Number 64 queue.0 ∷ []

pub queue_form : IsForm words_of_queue read_queue
queue_form = made_form (of_bits 64) words_of_queue (read_number 64) (λ n. record { 0 = n }) (λ queue. queue.0) (number_form 64) (λ queue. refl) (λ n. refl)

abbrev pub words_of_id : PacketId → List Word
words_of_id packet = Number 64 packet.0 ∷ []

pub id_form : IsForm words_of_id read_packet_id
id_form = made_form (of_bits 64) words_of_id (read_number 64) (λ n. record { 0 = n }) (λ packet. packet.0) (number_form 64) (λ packet. refl) (λ n. refl)

pub packet_named_form : IsForm words_of_packet read_packet_named
packet_named_form = both_form words_of_queue words_of_id read_queue read_packet_id queue_form id_form

-- ---- objects and rights

object_back : (x : Object) (rest : List ℕ) → fit (words_of_object x) ≡ true → read_object (bytes_of (words_of_object x) ++ rest) ≡ Ok (x, rest)
object_back (object.Agent h) rest f = arm_back (of_bits 32) (read_number 32) (number_form 32) (λ n. object.Agent (record { 0 = n })) h.0 rest f
object_back (object.Region h) rest f = arm_back (of_bits 32) (read_number 32) (number_form 32) (λ n. object.Region (record { 0 = n })) h.0 rest f
object_back (object.Signal h) rest f = arm_back (of_bits 64) (read_number 64) (number_form 64) (λ n. object.Signal (record { 0 = n })) h.0 rest f
object_back (object.Kernel h) rest f = arm_back (of_bits 64) (read_number 64) (number_form 64) (λ n. object.Kernel (record { 0 = n })) h.0 rest f

object_tells : (bytes : List ℕ) → WrittenSo words_of_object bytes (read_object bytes)
object_tells [] = tt
object_tells (tag ∷ bytes) =
    tag_if words_of_object tag 0 bytes _ _ (arm_tells (of_bits 32) (read_number 32) (number_form 32) words_of_object 0 (λ n. object.Agent (record { 0 = n })) bytes (λ n. refl))
    (tag_if words_of_object tag 1 bytes _ _ (arm_tells (of_bits 32) (read_number 32) (number_form 32) words_of_object 1 (λ n. object.Region (record { 0 = n })) bytes (λ n. refl))
    (tag_if words_of_object tag 2 bytes _ _ (arm_tells (of_bits 64) (read_number 64) (number_form 64) words_of_object 2 (λ n. object.Signal (record { 0 = n })) bytes (λ n. refl))
    (tag_if words_of_object tag 3 bytes _ _ (arm_tells (of_bits 64) (read_number 64) (number_form 64) words_of_object 3 (λ n. object.Kernel (record { 0 = n })) bytes (λ n. refl))
    tt)))

pub object_form : IsForm words_of_object read_object
object_form = record { back = object_back; tells = object_tells }

pub rights_form : IsForm words_of_rights read_rights
rights_form = made_form (of_bits 6) words_of_rights (read_number 6) (λ n. record { 0 = n }) (λ rights. rights.0) (number_form 6) (λ rights. refl) (λ n. refl)

pub rights_on_form : IsForm words_of_rights_on read_rights_on
rights_on_form =
    both_form words_of_client (then_words words_of_object words_of_rights) read_client (both read_object read_rights) client_form
    (both_form words_of_object words_of_rights read_object read_rights object_form rights_form)

-- ---- the rows of a policy

grantee_back : (x : Grantee) (rest : List ℕ) → fit (words_of_grantee x) ≡ true → read_grantee (bytes_of (words_of_grantee x) ++ rest) ≡ Ok (x, rest)
grantee_back grantee.Any rest f = refl
grantee_back (grantee.One client) rest f = arm_back words_of_client read_client client_form grantee.One client rest f

grantee_tells : (bytes : List ℕ) → WrittenSo words_of_grantee bytes (read_grantee bytes)
grantee_tells [] = tt
grantee_tells (tag ∷ bytes) =
    tag_if words_of_grantee tag 0 bytes (Ok (grantee.Any, bytes)) _ refl
    (tag_if words_of_grantee tag 1 bytes _ _ (arm_tells words_of_client read_client client_form words_of_grantee 1 grantee.One bytes (λ client. refl))
    tt)

pub grantee_form : IsForm words_of_grantee read_grantee
grantee_form = record { back = grantee_back; tells = grantee_tells }

abbrev pub words_of_kind : Kind → List Word
words_of_kind k = Tag (number_of_kind k) ∷ []

kind_back : (k : Kind) (rest : List ℕ) → fit (words_of_kind k) ≡ true → read_kind (bytes_of (words_of_kind k) ++ rest) ≡ Ok (k, rest)
kind_back kind.Agent rest f = refl
kind_back kind.Region rest f = refl
kind_back kind.Signal rest f = refl
kind_back kind.Kernel rest f = refl

kind_tells : (bytes : List ℕ) → WrittenSo words_of_kind bytes (read_kind bytes)
kind_tells [] = tt
kind_tells (tag ∷ bytes) =
    named_if words_of_kind tag 0 (tag ∷ bytes) bytes kind.Agent _ refl
    (named_if words_of_kind tag 1 (tag ∷ bytes) bytes kind.Region _ refl
    (named_if words_of_kind tag 2 (tag ∷ bytes) bytes kind.Signal _ refl
    (named_if words_of_kind tag 3 (tag ∷ bytes) bytes kind.Kernel None refl tt)))

pub kind_form : IsForm words_of_kind read_kind
kind_form = record { back = kind_back; tells = kind_tells }

target_back : (x : Target) (rest : List ℕ) → fit (words_of_target x) ≡ true → read_target (bytes_of (words_of_target x) ++ rest) ≡ Ok (x, rest)
target_back (target.Any k) rest f = arm_back words_of_kind read_kind kind_form target.Any k rest f
target_back (target.One on) rest f = arm_back words_of_object read_object object_form target.One on rest f

target_tells : (bytes : List ℕ) → WrittenSo words_of_target bytes (read_target bytes)
target_tells [] = tt
target_tells (tag ∷ bytes) =
    tag_if words_of_target tag 0 bytes _ _ (arm_tells words_of_kind read_kind kind_form words_of_target 0 target.Any bytes (λ k. refl))
    (tag_if words_of_target tag 1 bytes _ _ (arm_tells words_of_object read_object object_form words_of_target 1 target.One bytes (λ on. refl))
    tt)

pub target_form : IsForm words_of_target read_target
target_form = record { back = target_back; tells = target_tells }

pub row_form : IsForm words_of_row read_row
row_form =
    made_form (then_words words_of_grantee (then_words words_of_target words_of_rights)) words_of_row (both read_grantee (both read_target read_rights))
    (λ r. record { subject = r.0; target = r.1.0; rights = r.1.1 }) (λ row. (row.subject, (row.target, row.rights)))
    (both_form words_of_grantee (then_words words_of_target words_of_rights) read_grantee (both read_target read_rights) grantee_form
    (both_form words_of_target words_of_rights read_target read_rights target_form rights_form))
    (λ row. refl) (λ r. refl)

pub rows_list_form : IsForm (words_of_list words_of_row) (read_list read_row)
rows_list_form = list_form words_of_row read_row row_form

pub rows_form : IsForm words_of_rows read_rows
rows_form =
    made_form (then_words (words_of_list words_of_row) (words_of_list words_of_row)) words_of_rows (both (read_list read_row) (read_list read_row))
    (λ r. record { allows = r.0; denies = r.1 }) (λ rows. (rows.allows, rows.denies))
    (both_form (words_of_list words_of_row) (words_of_list words_of_row) (read_list read_row) (read_list read_row) rows_list_form rows_list_form)
    (λ rows. refl) (λ r. refl)

-- ---- operations on signals

abbrev pub of_sign : ℤ → List Word
of_sign value = Signed value ∷ []

operation_back : (x : SignalOp) (rest : List ℕ) → fit (words_of_operation x) ≡ true → read_operation (bytes_of (words_of_operation x) ++ rest) ≡ Ok (x, rest)
operation_back (op.Store value) rest f = arm_back of_sign read_signed signed_form (operation_of 0) value rest f
operation_back (op.Add value) rest f = arm_back of_sign read_signed signed_form (operation_of 1) value rest f
operation_back (op.Subtract value) rest f = arm_back of_sign read_signed signed_form (operation_of 2) value rest f
operation_back (op.And value) rest f = arm_back of_sign read_signed signed_form (operation_of 3) value rest f
operation_back (op.Or value) rest f = arm_back of_sign read_signed signed_form (operation_of 4) value rest f
operation_back (op.Xor value) rest f = arm_back of_sign read_signed signed_form (operation_of 5) value rest f
operation_back (op.Exchange value) rest f = arm_back of_sign read_signed signed_form (operation_of 6) value rest f
operation_back (op.Cas expected value) rest f =
    arm_back (then_words of_sign of_sign) (both read_signed read_signed) (both_form of_sign of_sign read_signed read_signed signed_form signed_form)
    (λ r. op.Cas r.0 r.1) (expected, value) rest f

-- an operation of this tag, or of another
operation_if : (tag n : ℕ) (value : ℤ) (x other : SignalOp) → words_of_operation x ≡ Tag n ∷ of_sign value →
    ((tag == n) ≡ false → words_of_operation other ≡ Tag tag ∷ of_sign value) → words_of_operation (if tag == n then x else other) ≡ Tag tag ∷ of_sign value
operation_if tag n value x other this that = by_test (tag == n) refl
  where
    by_test : (test : Bool) → (tag == n) ≡ test → words_of_operation (if test then x else other) ≡ Tag tag ∷ of_sign value
    by_test true h = this ∙ ap (λ k. Tag k ∷ of_sign value) (sym (is_same tag n h))
    by_test false h = that h

of_six : (tag : ℕ) → nat_lt 7 tag ≡ false → (tag == 7) ≡ false → (tag == 0) ≡ false → (tag == 1) ≡ false → (tag == 2) ≡ false → (tag == 3) ≡ false → (tag == 4) ≡ false → (tag == 5) ≡ false → tag ≡ 6
of_six tag h7 g7 g0 g1 g2 g3 g4 g5 = grind (arith, nat_tests)

operation_words : (tag : ℕ) (value : ℤ) → nat_lt 7 tag ≡ false → (tag == 7) ≡ false → words_of_operation (operation_of tag value) ≡ Tag tag ∷ of_sign value
operation_words tag value h7 g7 =
    operation_if tag 0 value (op.Store value) _ refl (λ g0. operation_if tag 1 value (op.Add value) _ refl (λ g1. operation_if tag 2 value (op.Subtract value) _ refl
    (λ g2. operation_if tag 3 value (op.And value) _ refl (λ g3. operation_if tag 4 value (op.Or value) _ refl (λ g4. operation_if tag 5 value (op.Xor value) (op.Exchange value) refl
    (λ g5. ap (λ k. Tag k ∷ of_sign value) (sym (of_six tag h7 g7 g0 g1 g2 g3 g4 g5))))))))

operation_tells : (bytes : List ℕ) → WrittenSo words_of_operation bytes (read_operation bytes)
operation_tells [] = tt
operation_tells (tag ∷ bytes) = by_size (nat_lt 7 tag) refl
  where
    by_tag : nat_lt 7 tag ≡ false → (cas : Bool) → (tag == 7) ≡ cas →
        WrittenSo words_of_operation (tag ∷ bytes) (if cas then made (λ r. op.Cas r.0 r.1) (both read_signed read_signed bytes) else read_one_operand tag bytes)
    by_tag h true g =
        ap_tag (is_same tag 7 g)
        (arm_tells (then_words of_sign of_sign) (both read_signed read_signed) (both_form of_sign of_sign read_signed read_signed signed_form signed_form)
        words_of_operation 7 (λ r. op.Cas r.0 r.1) bytes (λ r. refl))
      where
        ap_tag : tag ≡ 7 → WrittenSo words_of_operation (7 ∷ bytes) (made (λ r. op.Cas r.0 r.1) (both read_signed read_signed bytes)) →
            WrittenSo words_of_operation (tag ∷ bytes) (made (λ r. op.Cas r.0 r.1) (both read_signed read_signed bytes))
        ap_tag e t = subst (λ k. WrittenSo words_of_operation (k ∷ bytes) (made (λ r. op.Cas r.0 r.1) (both read_signed read_signed bytes))) (sym e) t
    by_tag h false g = arm_tells of_sign read_signed signed_form words_of_operation tag (operation_of tag) bytes (λ value. operation_words tag value h g)

    by_size : (large : Bool) → nat_lt 7 tag ≡ large →
        WrittenSo words_of_operation (tag ∷ bytes) (if large then Err (wrong (tag ∷ bytes)) else if tag == 7 then made (λ r. op.Cas r.0 r.1) (both read_signed read_signed bytes) else read_one_operand tag bytes)
    by_size true h = tt
    by_size false h = by_tag h (tag == 7) refl

pub operation_form : IsForm words_of_operation read_operation
operation_form = record { back = operation_back; tells = operation_tells }

-- ---- errors

rule_back : (x : Rule) (rest : List ℕ) → fit (words_of_rule x) ≡ true → read_rule (bytes_of (words_of_rule x) ++ rest) ≡ Ok (x, rest)
rule_back L1 rest f = refl
rule_back L2 rest f = refl
rule_back L3 rest f = refl
rule_back L4 rest f = refl
rule_back L5 rest f = refl
rule_back L6 rest f = refl
rule_back L7 rest f = refl
rule_back L8 rest f = refl
rule_back L9 rest f = refl
rule_back L10 rest f = refl
rule_back A1 rest f = refl
rule_back A2 rest f = refl
rule_back A3 rest f = refl
rule_back A4 rest f = refl
rule_back A5 rest f = refl
rule_back A6 rest f = refl
rule_back A7 rest f = refl
rule_back B1 rest f = refl

abbrev pub rule_if : (tag n : ℕ) (bytes : List ℕ) (x : Rule) (other : Option Rule) → words_of_rule x ≡ Tag n ∷ [] →
    WrittenSo words_of_rule (tag ∷ bytes) (named (tag ∷ bytes) other bytes) → WrittenSo words_of_rule (tag ∷ bytes) (named (tag ∷ bytes) (if tag == n then Some x else other) bytes)
rule_if tag n bytes x other same that = named_if words_of_rule tag n (tag ∷ bytes) bytes x other same that

rule_tells : (bytes : List ℕ) → WrittenSo words_of_rule bytes (read_rule bytes)
rule_tells [] = tt
rule_tells (tag ∷ bytes) =
    rule_if tag 0 bytes L1 _ refl (rule_if tag 1 bytes L2 _ refl (rule_if tag 2 bytes L3 _ refl (rule_if tag 3 bytes L4 _ refl (rule_if tag 4 bytes L5 _ refl
    (rule_if tag 5 bytes L6 _ refl (rule_if tag 6 bytes L7 _ refl (rule_if tag 7 bytes L8 _ refl (rule_if tag 8 bytes L9 _ refl (rule_if tag 9 bytes L10 _ refl
    (rule_if tag 10 bytes A1 _ refl (rule_if tag 11 bytes A2 _ refl (rule_if tag 12 bytes A3 _ refl (rule_if tag 13 bytes A4 _ refl (rule_if tag 14 bytes A5 _ refl
    (rule_if tag 15 bytes A6 _ refl (rule_if tag 16 bytes A7 _ refl (rule_if tag 17 bytes B1 None refl tt)))))))))))))))))

pub rule_form : IsForm words_of_rule read_rule
rule_form = record { back = rule_back; tells = rule_tells }

address_back : (x : Option SegmentAddress) (rest : List ℕ) → fit (words_of_address x) ≡ true → read_address (bytes_of (words_of_address x) ++ rest) ≡ Ok (x, rest)
address_back None rest f = refl
address_back (Some (segment.Global address)) rest f = arm_back (of_bits 64) (read_number 64) (number_form 64) (λ n. Some (segment.Global n)) address rest f
address_back (Some (segment.Group address)) rest f = arm_back (of_bits 32) (read_number 32) (number_form 32) (λ n. Some (segment.Group n)) address rest f

address_tells : (bytes : List ℕ) → WrittenSo words_of_address bytes (read_address bytes)
address_tells [] = tt
address_tells (tag ∷ bytes) =
    tag_if words_of_address tag 0 bytes (Ok (None, bytes)) _ refl
    (tag_if words_of_address tag 1 bytes _ _ (arm_tells (of_bits 64) (read_number 64) (number_form 64) words_of_address 1 (λ n. Some (segment.Global n)) bytes (λ n. refl))
    (tag_if words_of_address tag 2 bytes _ _ (arm_tells (of_bits 32) (read_number 32) (number_form 32) words_of_address 2 (λ n. Some (segment.Group n)) bytes (λ n. refl))
    tt))

pub address_form : IsForm words_of_address read_address
address_form = record { back = address_back; tells = address_tells }

abbrev pub words_inside : ℕ × (ℕ × (ℕ × Option SegmentAddress)) → List Word
words_inside r = then_words (of_bits 32) (then_words (of_bits 32) (then_words (of_bits 32) words_of_address)) r

abbrev pub read_within : List ℕ → Read (ℕ × (ℕ × (ℕ × Option SegmentAddress)))
read_within bytes = both (read_number 32) (both (read_number 32) (both (read_number 32) read_address)) bytes

pub inside_form : IsForm words_inside read_within
inside_form =
    both_form (of_bits 32) (then_words (of_bits 32) (then_words (of_bits 32) words_of_address)) (read_number 32) (both (read_number 32) (both (read_number 32) read_address)) (number_form 32)
    (both_form (of_bits 32) (then_words (of_bits 32) words_of_address) (read_number 32) (both (read_number 32) read_address) (number_form 32)
    (both_form (of_bits 32) words_of_address (read_number 32) read_address (number_form 32) address_form))

abbrev pub place_of : ℕ × (ℕ × (ℕ × Option SegmentAddress)) → Option FaultPlace
place_of r = Some (record { group = r.0; item = r.1.0; line = r.1.1.0; address = r.1.1.1 })

place_back : (x : Option FaultPlace) (rest : List ℕ) → fit (words_of_place x) ≡ true → read_place (bytes_of (words_of_place x) ++ rest) ≡ Ok (x, rest)
place_back None rest f = refl
place_back (Some place) rest f = arm_back words_inside read_within inside_form place_of (place.group, (place.item, (place.line, place.address))) rest f

place_tells : (bytes : List ℕ) → WrittenSo words_of_place bytes (read_place bytes)
place_tells [] = tt
place_tells (tag ∷ bytes) =
    tag_if words_of_place tag 0 bytes (Ok (None, bytes)) _ refl
    (tag_if words_of_place tag 1 bytes _ _ (arm_tells words_inside read_within inside_form words_of_place 1 place_of bytes (λ r. refl))
    tt)

pub place_form : IsForm words_of_place read_place
place_form = record { back = place_back; tells = place_tells }

pub error_form : IsForm words_of_error read_error
error_form =
    made_form (then_words words_of_packet (then_words words_of_rule words_of_place)) words_of_error (both read_packet_named (both read_rule read_place))
    (λ r. record { queue = r.0.0; packet = r.0.1; rule = r.1.0; place = r.1.1 }) (λ error. ((error.queue, error.packet), (error.rule, error.place)))
    (both_form words_of_packet (then_words words_of_rule words_of_place) read_packet_named (both read_rule read_place) packet_named_form
    (both_form words_of_rule words_of_place read_rule read_place rule_form place_form))
    (λ error. refl) (λ r. refl)
