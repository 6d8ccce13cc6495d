-- A packet has one spelling: bytes that lay out the same packet are the same.
use Rattle.std.proofs.Common.{◌≡◌, ℕ, zero, suc, ◌+◌, ◌*◌, ◌<◌, ◌≤◌, List, take, slice_index, get_or, Some, refl, sym, ap, ◌∙◌, arith}
use Rattle.std.proofs.lemmas.List.{take_more_same}
use Rattle.std.proofs.Math.Seq.{take-length}
use Rattle.aql_packet.specs.declared.ids.SignalHandle.{SignalHandle}
use Rattle.aql_packet.specs.declared.packet.Header.{Header}
use Rattle.aql_packet.specs.declared.packet.KernelDispatch.{KernelDispatch}
use Rattle.aql_packet.specs.declared.packet.AgentDispatch.{AgentDispatch}
use Rattle.aql_packet.specs.declared.packet.Barrier.{Barrier}
use Rattle.aql_packet.specs.declared.packet.Packet.{Packet}
use Rattle.aql_packet.specs.declared.packet.Packet.TheVariants.{Kernel, Agent, BarrierAnd, BarrierOr}
use Rattle.aql_packet.specs.Numbers.{number_at, bits}
use Rattle.aql_packet.specs.Layout.{Are64Bytes, IsHeader, LaysKernel, LaysAgent, LaysBarrier, PacketOf}
use Rattle.aql_packet.specs.Reading.{decoded}
use Rattle.aql_packet.proofs.ReadingLemmas.{decoded_is, laid_is_read}

-- Bytes that agree up to a place and in a number there agree past it.
next : (one two : List ℕ) (place size : ℕ) → Are64Bytes one → Are64Bytes two → place + size ≤ 64
    → take place one ≡ take place two → number_at one place size ≡ number_at two place size → take (place + size) one ≡ take (place + size) two
unfolding number_at
next one two place zero a b room before field =
    let here : place + 0 ≡ place = omega arith in
    rw here before
next one two place (suc size) a b room before field =
    let low : slice_index one place ≡ slice_index two place = omega (arith, field, a.below place, b.below place) in
    let high : number_at one (suc place) size ≡ number_at two (suc place) size = omega (arith, field, a.below place, b.below place) in
    let more = take_more_same one two place 0 (omega (arith, a.count, room)) (omega (arith, b.count, room)) before low in
    let step : place + 1 ≡ suc place = omega arith in
    let there : suc place + size ≡ place + suc size = omega arith in
    let rest = next one two (suc place) size a b (omega (arith, room)) (rw step at more) high in
    rw there at rest

-- 64 bytes that agree up to 64 are the same.
whole : (one two : List ℕ) → Are64Bytes one → Are64Bytes two → take 64 one ≡ take 64 two → one ≡ two
whole one two a b same =
    let first = take-length {A = ℕ} one in
    let second = take-length {A = ℕ} two in
    sym (rw a.count at first) ∙ same ∙ rw b.count at second

-- A 16-bit number by its bits, in the header and in the setup.
by_header_bits : (number : ℕ) → number < 65536
    → number ≡ bits number 7 0 + 256 * bits number 8 8 + 512 * bits number 10 9 + 2048 * bits number 12 11 + 8192 * bits number 15 13
by_header_bits number small = omega (arith, small)

by_setup_bits : (number : ℕ) → number < 65536 → number ≡ bits number 1 0 + 4 * bits number 15 2
by_setup_bits number small = omega (arith, small)

two_bytes : (bytes : List ℕ) (place : ℕ) → Are64Bytes bytes → number_at bytes place 2 < 65536
unfolding number_at
two_bytes bytes place are = omega (arith, are.below place, are.below (suc place))

header_same : (one two type : ℕ) (header : Header) → one < 65536 → two < 65536 → IsHeader one type header → IsHeader two type header → one ≡ two
header_same one two type header small_one small_two is_one is_two =
    omega (arith, by_header_bits one small_one, by_header_bits two small_two, is_one.packet_type, is_one.barrier, is_one.acquire, is_one.release, is_one.reserved, is_two.packet_type, is_two.barrier, is_two.acquire, is_two.release, is_two.reserved)

setup_same : (one two dimensions : ℕ) → one < 65536 → two < 65536 → bits one 1 0 ≡ dimensions → bits two 1 0 ≡ dimensions → bits one 15 2 ≡ 0 → bits two 15 2 ≡ 0 → one ≡ two
setup_same one two dimensions small_one small_two is_one is_two rest_one rest_two =
    omega (arith, by_setup_bits one small_one, by_setup_bits two small_two, is_one, is_two, rest_one, rest_two)

-- Field by field, the parts that a kind has cover the 64 bytes.
kernel_same : (one two : List ℕ) (packet : KernelDispatch) → Are64Bytes one → Are64Bytes two → LaysKernel one packet → LaysKernel two packet → one ≡ two
kernel_same one two packet a b x y =
    let to_2 : take 2 one ≡ take 2 two = next one two 0 2 a b (omega arith) refl (header_same (number_at one 0 2) (number_at two 0 2) 2 packet.header (two_bytes one 0 a) (two_bytes two 0 b) x.header y.header) in
    let to_4 : take 4 one ≡ take 4 two = next one two 2 2 a b (omega arith) to_2 (setup_same (number_at one 2 2) (number_at two 2 2) packet.dimensions (two_bytes one 2 a) (two_bytes two 2 b) x.setup_dimensions y.setup_dimensions x.setup_reserved y.setup_reserved) in
    let to_6 : take 6 one ≡ take 6 two = next one two 4 2 a b (omega arith) to_4 (x.workgroup_size_x ∙ sym y.workgroup_size_x) in
    let to_8 : take 8 one ≡ take 8 two = next one two 6 2 a b (omega arith) to_6 (x.workgroup_size_y ∙ sym y.workgroup_size_y) in
    let to_10 : take 10 one ≡ take 10 two = next one two 8 2 a b (omega arith) to_8 (x.workgroup_size_z ∙ sym y.workgroup_size_z) in
    let to_12 : take 12 one ≡ take 12 two = next one two 10 2 a b (omega arith) to_10 (x.reserved_10 ∙ sym y.reserved_10) in
    let to_16 : take 16 one ≡ take 16 two = next one two 12 4 a b (omega arith) to_12 (x.grid_size_x ∙ sym y.grid_size_x) in
    let to_20 : take 20 one ≡ take 20 two = next one two 16 4 a b (omega arith) to_16 (x.grid_size_y ∙ sym y.grid_size_y) in
    let to_24 : take 24 one ≡ take 24 two = next one two 20 4 a b (omega arith) to_20 (x.grid_size_z ∙ sym y.grid_size_z) in
    let to_28 : take 28 one ≡ take 28 two = next one two 24 4 a b (omega arith) to_24 (x.private_segment_size ∙ sym y.private_segment_size) in
    let to_32 : take 32 one ≡ take 32 two = next one two 28 4 a b (omega arith) to_28 (x.group_segment_size ∙ sym y.group_segment_size) in
    let to_40 : take 40 one ≡ take 40 two = next one two 32 8 a b (omega arith) to_32 (x.kernel_object ∙ sym y.kernel_object) in
    let to_48 : take 48 one ≡ take 48 two = next one two 40 8 a b (omega arith) to_40 (x.kernarg_address ∙ sym y.kernarg_address) in
    let to_56 : take 56 one ≡ take 56 two = next one two 48 8 a b (omega arith) to_48 (x.reserved_48 ∙ sym y.reserved_48) in
    let to_64 : take 64 one ≡ take 64 two = next one two 56 8 a b (omega arith) to_56 (x.completion_signal ∙ sym y.completion_signal) in
    whole one two a b to_64

agent_same : (one two : List ℕ) (packet : AgentDispatch) → Are64Bytes one → Are64Bytes two → LaysAgent one packet → LaysAgent two packet → one ≡ two
agent_same one two packet a b x y =
    let to_2 : take 2 one ≡ take 2 two = next one two 0 2 a b (omega arith) refl (header_same (number_at one 0 2) (number_at two 0 2) 4 packet.header (two_bytes one 0 a) (two_bytes two 0 b) x.header y.header) in
    let to_4 : take 4 one ≡ take 4 two = next one two 2 2 a b (omega arith) to_2 (x.function ∙ sym y.function) in
    let to_8 : take 8 one ≡ take 8 two = next one two 4 4 a b (omega arith) to_4 (x.reserved_4 ∙ sym y.reserved_4) in
    let to_16 : take 16 one ≡ take 16 two = next one two 8 8 a b (omega arith) to_8 (x.return_address ∙ sym y.return_address) in
    let to_24 : take 24 one ≡ take 24 two = next one two 16 8 a b (omega arith) to_16 (ap (λ (xs : List ℕ). slice_index xs 0) (x.arguments ∙ sym y.arguments)) in
    let to_32 : take 32 one ≡ take 32 two = next one two 24 8 a b (omega arith) to_24 (ap (λ (xs : List ℕ). slice_index xs 1) (x.arguments ∙ sym y.arguments)) in
    let to_40 : take 40 one ≡ take 40 two = next one two 32 8 a b (omega arith) to_32 (ap (λ (xs : List ℕ). slice_index xs 2) (x.arguments ∙ sym y.arguments)) in
    let to_48 : take 48 one ≡ take 48 two = next one two 40 8 a b (omega arith) to_40 (ap (λ (xs : List ℕ). slice_index xs 3) (x.arguments ∙ sym y.arguments)) in
    let to_56 : take 56 one ≡ take 56 two = next one two 48 8 a b (omega arith) to_48 (x.reserved_48 ∙ sym y.reserved_48) in
    let to_64 : take 64 one ≡ take 64 two = next one two 56 8 a b (omega arith) to_56 (x.completion_signal ∙ sym y.completion_signal) in
    whole one two a b to_64

abbrev none : SignalHandle
none = record { 0 = 0 }

barrier_same : (one two : List ℕ) (type : ℕ) (packet : Barrier) → Are64Bytes one → Are64Bytes two → LaysBarrier one type packet → LaysBarrier two type packet → one ≡ two
barrier_same one two type packet a b x y =
    let to_2 : take 2 one ≡ take 2 two = next one two 0 2 a b (omega arith) refl (header_same (number_at one 0 2) (number_at two 0 2) type packet.header (two_bytes one 0 a) (two_bytes two 0 b) x.header y.header) in
    let to_8 : take 8 one ≡ take 8 two = next one two 2 6 a b (omega arith) to_2 (x.reserved_2 ∙ sym y.reserved_2) in
    let to_16 : take 16 one ≡ take 16 two = next one two 8 8 a b (omega arith) to_8 (ap (λ (xs : List SignalHandle). (get_or xs 0 none).0) (x.dependencies ∙ sym y.dependencies)) in
    let to_24 : take 24 one ≡ take 24 two = next one two 16 8 a b (omega arith) to_16 (ap (λ (xs : List SignalHandle). (get_or xs 1 none).0) (x.dependencies ∙ sym y.dependencies)) in
    let to_32 : take 32 one ≡ take 32 two = next one two 24 8 a b (omega arith) to_24 (ap (λ (xs : List SignalHandle). (get_or xs 2 none).0) (x.dependencies ∙ sym y.dependencies)) in
    let to_40 : take 40 one ≡ take 40 two = next one two 32 8 a b (omega arith) to_32 (ap (λ (xs : List SignalHandle). (get_or xs 3 none).0) (x.dependencies ∙ sym y.dependencies)) in
    let to_48 : take 48 one ≡ take 48 two = next one two 40 8 a b (omega arith) to_40 (ap (λ (xs : List SignalHandle). (get_or xs 4 none).0) (x.dependencies ∙ sym y.dependencies)) in
    let to_56 : take 56 one ≡ take 56 two = next one two 48 8 a b (omega arith) to_48 (x.reserved_48 ∙ sym y.reserved_48) in
    let to_64 : take 64 one ≡ take 64 two = next one two 56 8 a b (omega arith) to_56 (x.completion_signal ∙ sym y.completion_signal) in
    whole one two a b to_64

pub law_one_spelling : (one two : List ℕ) (packet : Packet) → PacketOf one packet → PacketOf two packet → one ≡ two
law_one_spelling one two (Kernel packet) a b = kernel_same one two packet a.are_bytes b.are_bytes a.layout b.layout
law_one_spelling one two (Agent packet) a b = agent_same one two packet a.are_bytes b.are_bytes a.layout b.layout
law_one_spelling one two (BarrierAnd packet) a b = barrier_same one two 3 packet a.are_bytes b.are_bytes a.layout b.layout
law_one_spelling one two (BarrierOr packet) a b = barrier_same one two 5 packet a.are_bytes b.are_bytes a.layout b.layout

-- What is laid out is decoded.
pub laid_is_decoded : (bytes : List ℕ) (packet : Packet) → PacketOf bytes packet → decoded bytes ≡ Some packet
laid_is_decoded bytes packet laid =
    let read = laid_is_read bytes packet laid in
    decoded_is bytes read.0 ∙ ap (λ found. Some found) read.1
