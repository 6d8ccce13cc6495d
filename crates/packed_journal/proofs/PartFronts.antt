-- Bytes that end within what entries are made of are read as ended.
use Rattle.std.proofs.Common.{refl}
use Rattle.std.specs.Prelude.{Some, None}
use Rattle.policy.specs.declared.object.Kind.TheVariants as kind
use Rattle.policy.specs.declared.object.Object.TheVariants as object
use Rattle.policy.specs.declared.row.Grantee.TheVariants as grantee
use Rattle.policy.specs.declared.row.Target.TheVariants as target
use Rattle.queue_error.specs.declared.rule.Rule.TheVariants.{L1, L2, L3, L4, L5, L6, L7, L8, L9, L10, A1, A2, A3, A4, A5, A6, A7, B1}
use Rattle.queue_error.specs.declared.error.SegmentAddress.TheVariants as segment
use Rattle.signals.specs.declared.operation.SignalOp.TheVariants as op
use Rattle.packed_journal.specs.Readings.{both, read_number, read_signed, words_of_list, read_list}
use Rattle.packed_journal.specs.Parts.{words_of_client, read_client, words_of_packet, read_queue, read_packet_id, read_packet_named, words_of_object, read_object, words_of_rights, read_rights, words_of_rights_on, read_rights_on, words_of_grantee, read_grantee, read_kind, words_of_target, read_target, words_of_row, read_row, words_of_rows, read_rows, words_of_operation, operation_of, read_operation, words_of_rule, read_rule, words_of_address, read_address, words_of_place, read_place, words_of_error, read_error}
use Rattle.packed_journal.proofs.Forms.{number_form, signed_form, then_words}
use Rattle.packed_journal.proofs.PartForms.{of_bits, of_sign, client_form, words_of_queue, queue_form, words_of_id, packet_named_form, object_form, grantee_form, words_of_kind, target_form, row_form, rows_list_form, rule_form, words_inside, read_within, place_of}
use Rattle.packed_journal.proofs.Fronts.{FormEnds, arm_ends, both_ends, list_ends, made_ends, number_ends, signed_ends, tag_ends}

pub client_ends : FormEnds words_of_client read_client
client_ends = made_ends (of_bits 32) words_of_client (read_number 32) (λ n. record { 0 = n }) (λ client. client.0) (number_ends 32) (λ client. refl)

pub queue_ends : FormEnds words_of_queue read_queue
queue_ends = made_ends (of_bits 64) words_of_queue (read_number 64) (λ n. record { 0 = n }) (λ queue. queue.0) (number_ends 64) (λ queue. refl)

id_ends : FormEnds words_of_id read_packet_id
id_ends = made_ends (of_bits 64) words_of_id (read_number 64) (λ n. record { 0 = n }) (λ packet. packet.0) (number_ends 64) (λ packet. refl)

pub packet_named_ends : FormEnds words_of_packet read_packet_named
packet_named_ends = both_ends words_of_queue words_of_id read_queue read_packet_id queue_form queue_ends id_ends

object_ends : FormEnds words_of_object read_object
object_ends (object.Agent h) f = arm_ends (of_bits 32) (read_number 32) (number_ends 32) read_object 0 (λ n. object.Agent (record { 0 = n })) refl (λ bytes. refl) h.0 f
object_ends (object.Region h) f = arm_ends (of_bits 32) (read_number 32) (number_ends 32) read_object 1 (λ n. object.Region (record { 0 = n })) refl (λ bytes. refl) h.0 f
object_ends (object.Signal h) f = arm_ends (of_bits 64) (read_number 64) (number_ends 64) read_object 2 (λ n. object.Signal (record { 0 = n })) refl (λ bytes. refl) h.0 f
object_ends (object.Kernel h) f = arm_ends (of_bits 64) (read_number 64) (number_ends 64) read_object 3 (λ n. object.Kernel (record { 0 = n })) refl (λ bytes. refl) h.0 f

rights_ends : FormEnds words_of_rights read_rights
rights_ends = made_ends (of_bits 6) words_of_rights (read_number 6) (λ n. record { 0 = n }) (λ rights. rights.0) (number_ends 6) (λ rights. refl)

pub rights_on_ends : FormEnds words_of_rights_on read_rights_on
rights_on_ends =
    both_ends words_of_client (then_words words_of_object words_of_rights) read_client (both read_object read_rights) client_form client_ends
    (both_ends words_of_object words_of_rights read_object read_rights object_form object_ends rights_ends)

grantee_ends : FormEnds words_of_grantee read_grantee
grantee_ends grantee.Any f = tag_ends read_grantee 0 refl
grantee_ends (grantee.One client) f = arm_ends words_of_client read_client client_ends read_grantee 1 grantee.One refl (λ bytes. refl) client f

kind_ends : FormEnds words_of_kind read_kind
kind_ends kind.Agent f = tag_ends read_kind 0 refl
kind_ends kind.Region f = tag_ends read_kind 1 refl
kind_ends kind.Signal f = tag_ends read_kind 2 refl
kind_ends kind.Kernel f = tag_ends read_kind 3 refl

target_ends : FormEnds words_of_target read_target
target_ends (target.Any k) f = arm_ends words_of_kind read_kind kind_ends read_target 0 target.Any refl (λ bytes. refl) k f
target_ends (target.One on) f = arm_ends words_of_object read_object object_ends read_target 1 target.One refl (λ bytes. refl) on f

row_ends : FormEnds words_of_row read_row
row_ends =
    made_ends (then_words words_of_grantee (then_words words_of_target words_of_rights)) words_of_row (both read_grantee (both read_target read_rights))
    (λ r. record { subject = r.0; target = r.1.0; rights = r.1.1 }) (λ row. (row.subject, (row.target, row.rights)))
    (both_ends words_of_grantee (then_words words_of_target words_of_rights) read_grantee (both read_target read_rights) grantee_form grantee_ends
    (both_ends words_of_target words_of_rights read_target read_rights target_form target_ends rights_ends))
    (λ row. refl)

rows_list_ends : FormEnds (words_of_list words_of_row) (read_list read_row)
rows_list_ends = list_ends words_of_row read_row row_form row_ends

pub rows_ends : FormEnds words_of_rows read_rows
rows_ends =
    made_ends (then_words (words_of_list words_of_row) (words_of_list words_of_row)) words_of_rows (both (read_list read_row) (read_list read_row))
    (λ r. record { allows = r.0; denies = r.1 }) (λ rows. (rows.allows, rows.denies))
    (both_ends (words_of_list words_of_row) (words_of_list words_of_row) (read_list read_row) (read_list read_row) rows_list_form rows_list_ends rows_list_ends)
    (λ rows. refl)

pub operation_ends : FormEnds words_of_operation read_operation
operation_ends (op.Store value) f = arm_ends of_sign read_signed signed_ends read_operation 0 (operation_of 0) refl (λ bytes. refl) value f
operation_ends (op.Add value) f = arm_ends of_sign read_signed signed_ends read_operation 1 (operation_of 1) refl (λ bytes. refl) value f
operation_ends (op.Subtract value) f = arm_ends of_sign read_signed signed_ends read_operation 2 (operation_of 2) refl (λ bytes. refl) value f
operation_ends (op.And value) f = arm_ends of_sign read_signed signed_ends read_operation 3 (operation_of 3) refl (λ bytes. refl) value f
operation_ends (op.Or value) f = arm_ends of_sign read_signed signed_ends read_operation 4 (operation_of 4) refl (λ bytes. refl) value f
operation_ends (op.Xor value) f = arm_ends of_sign read_signed signed_ends read_operation 5 (operation_of 5) refl (λ bytes. refl) value f
operation_ends (op.Exchange value) f = arm_ends of_sign read_signed signed_ends read_operation 6 (operation_of 6) refl (λ bytes. refl) value f
operation_ends (op.Cas expected value) f =
    arm_ends (then_words of_sign of_sign) (both read_signed read_signed) (both_ends of_sign of_sign read_signed read_signed signed_form signed_ends signed_ends) read_operation 7
    (λ r. op.Cas r.0 r.1) refl (λ bytes. refl) (expected, value) f

rule_ends : FormEnds words_of_rule read_rule
rule_ends L1 f = tag_ends read_rule 0 refl
rule_ends L2 f = tag_ends read_rule 1 refl
rule_ends L3 f = tag_ends read_rule 2 refl
rule_ends L4 f = tag_ends read_rule 3 refl
rule_ends L5 f = tag_ends read_rule 4 refl
rule_ends L6 f = tag_ends read_rule 5 refl
rule_ends L7 f = tag_ends read_rule 6 refl
rule_ends L8 f = tag_ends read_rule 7 refl
rule_ends L9 f = tag_ends read_rule 8 refl
rule_ends L10 f = tag_ends read_rule 9 refl
rule_ends A1 f = tag_ends read_rule 10 refl
rule_ends A2 f = tag_ends read_rule 11 refl
rule_ends A3 f = tag_ends read_rule 12 refl
rule_ends A4 f = tag_ends read_rule 13 refl
rule_ends A5 f = tag_ends read_rule 14 refl
rule_ends A6 f = tag_ends read_rule 15 refl
rule_ends A7 f = tag_ends read_rule 16 refl
rule_ends B1 f = tag_ends read_rule 17 refl

address_ends : FormEnds words_of_address read_address
address_ends None f = tag_ends read_address 0 refl
address_ends (Some (segment.Global address)) f = arm_ends (of_bits 64) (read_number 64) (number_ends 64) read_address 1 (λ n. Some (segment.Global n)) refl (λ bytes. refl) address f
address_ends (Some (segment.Group address)) f = arm_ends (of_bits 32) (read_number 32) (number_ends 32) read_address 2 (λ n. Some (segment.Group n)) refl (λ bytes. refl) address f

inside_ends : FormEnds words_inside read_within
inside_ends =
    both_ends (of_bits 32) (then_words (of_bits 32) (then_words (of_bits 32) words_of_address)) (read_number 32) (both (read_number 32) (both (read_number 32) read_address)) (number_form 32) (number_ends 32)
    (both_ends (of_bits 32) (then_words (of_bits 32) words_of_address) (read_number 32) (both (read_number 32) read_address) (number_form 32) (number_ends 32)
    (both_ends (of_bits 32) words_of_address (read_number 32) read_address (number_form 32) (number_ends 32) address_ends))

place_ends : FormEnds words_of_place read_place
place_ends None f = tag_ends read_place 0 refl
place_ends (Some place) f = arm_ends words_inside read_within inside_ends read_place 1 place_of refl (λ bytes. refl) (place.group, (place.item, (place.line, place.address))) f

pub error_ends : FormEnds words_of_error read_error
error_ends =
    made_ends (then_words words_of_packet (then_words words_of_rule words_of_place)) words_of_error (both read_packet_named (both read_rule read_place))
    (λ r. record { queue = r.0.0; packet = r.0.1; rule = r.1.0; place = r.1.1 }) (λ error. ((error.queue, error.packet), (error.rule, error.place)))
    (both_ends words_of_packet (then_words words_of_rule words_of_place) read_packet_named (both read_rule read_place) packet_named_form packet_named_ends
    (both_ends words_of_rule words_of_place read_rule read_place rule_form rule_ends place_ends))
    (λ error. refl)
