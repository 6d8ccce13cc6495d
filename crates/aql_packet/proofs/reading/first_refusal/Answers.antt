use Rattle.std.proofs.Common.{rules, ◌≡◌, ℕ, ◌<◌, length, slice_index, true, false, refl, sym, ap, ◌∙◌}
use Rattle.aql_packet.specs.Reading.{is_known, is_plain_header, packet_type, reserved_is_zero}
use Rattle.aql_packet.proofs.ReadingLemmas.{refused_by}
use Rattle.aql_packet.proofs.reading.first_refusal.Goals as goal

pub returns-then-not-has_plain_header : goal.returns-then-not-has_plain_header
returns-then-not-has_plain_header c =
    let count : length c.args.bytes.now ≡ 64 = search rules in
    let below : (place : ℕ) → slice_index c.args.bytes.now place < 256 = λ place. search rules in
    let known : is_known (packet_type c.args.bytes.now) ≡ true = ap is_known (sym c.type_of-kind.ensures) ∙ sym c.is_run.ensures ∙ c.if-not-is_run.false in
    let plain : is_plain_header c.args.bytes.now ≡ false = sym c.has_plain_header.ensures ∙ c.if-not-has_plain_header.true in
    rw (refused_by c.args.bytes.now count below, known, plain) refl

pub returns-then-not-has_zero_reserved : goal.returns-then-not-has_zero_reserved
returns-then-not-has_zero_reserved c =
    let count : length c.args.bytes.now ≡ 64 = search rules in
    let below : (place : ℕ) → slice_index c.args.bytes.now place < 256 = λ place. search rules in
    let known : is_known (packet_type c.args.bytes.now) ≡ true = ap is_known (sym c.type_of-kind.ensures) ∙ sym c.is_run.ensures ∙ c.if-not-is_run.false in
    let plain : is_plain_header c.args.bytes.now ≡ true = sym c.has_plain_header.ensures ∙ c.if-not-has_plain_header.false in
    let zero : reserved_is_zero (packet_type c.args.bytes.now) c.args.bytes.now ≡ false = ap (λ kind. reserved_is_zero kind c.args.bytes.now) (sym c.type_of-kind.ensures) ∙ sym c.has_zero_reserved.ensures ∙ c.if-not-has_zero_reserved.true in
    rw (refused_by c.args.bytes.now count below, known, plain, zero) refl

pub returns : goal.returns
returns c =
    let count : length c.args.bytes.now ≡ 64 = search rules in
    let below : (place : ℕ) → slice_index c.args.bytes.now place < 256 = λ place. search rules in
    let known : is_known (packet_type c.args.bytes.now) ≡ true = ap is_known (sym c.type_of-kind.ensures) ∙ sym c.is_run.ensures ∙ c.if-not-is_run.false in
    let plain : is_plain_header c.args.bytes.now ≡ true = sym c.has_plain_header.ensures ∙ c.if-not-has_plain_header.false in
    let zero : reserved_is_zero (packet_type c.args.bytes.now) c.args.bytes.now ≡ true = ap (λ kind. reserved_is_zero kind c.args.bytes.now) (sym c.type_of-kind.ensures) ∙ sym c.has_zero_reserved.ensures ∙ c.if-not-has_zero_reserved.false in
    rw (refused_by c.args.bytes.now count below, known, plain, zero) refl
