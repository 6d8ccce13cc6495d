-- The reading of bytes as functions agrees with the layout.
use Rattle.std.proofs.Common.{◌≡◌, ℕ, zero, suc, ◌/◌, ◌^◌, if◌then◌else◌, ◌<◌, ◌≤◌, List, Bool, true, false, cond, not, ◌&&◌, ◌||◌, ◌==◌, ◌⊎◌, inl, inr, Option, Some, None, is_none, IsTrue, refl, arith, subst, sym}
use Rattle.std.proofs.Math.Nat.{mod-lt}
use Rattle.std.proofs.lemmas.Bool.{cases_lt, eqb-true, le-leb, lt-ltb, ltb-true}
use Rattle.std.proofs.lemmas.Grind.{get_or_default_zero}
use Rattle.std.proofs.lemmas.List.Sums.{AllPass-from_list_all, list_all-from_AllPass}
use Rattle.std.proofs.Math.ListN.{get_or, get_or-eq_default}
use Rattle.std.specs.List.{list_all}
use Rattle.std.specs.Prelude.{length, nat_lt, slice_index}
use Rattle.aql_packet.specs.declared.packet.Scope.{Scope}
use Rattle.aql_packet.specs.declared.packet.Scope.TheVariants as scopes
use Rattle.aql_packet.specs.declared.packet.Header.{Header}
use Rattle.aql_packet.specs.declared.packet.KernelDispatch.{KernelDispatch}
use Rattle.aql_packet.specs.declared.packet.AgentDispatch.{AgentDispatch}
use Rattle.aql_packet.specs.declared.packet.Barrier.{Barrier}
use Rattle.aql_packet.specs.declared.packet.Packet.{Packet}
use Rattle.aql_packet.specs.declared.packet.Packet.TheVariants.{Kernel, Agent, BarrierAnd, BarrierOr}
use Rattle.aql_packet.specs.declared.packet.CodecRule.{CodecRule}
use Rattle.aql_packet.specs.declared.packet.CodecRule.TheVariants.{L1, L2, L3}
use Rattle.aql_packet.specs.Numbers.{number_at, bits, bit_of}
use Rattle.aql_packet.specs.Layout.{Are64Bytes, are_64_bytes, IsHeader, LaysKernel, LaysAgent, LaysBarrier, Lays, PacketOf, is_well_formed, scope_number}
use Rattle.aql_packet.specs.Reading.{packet_type, acquire_bits, release_bits, is_known, is_plain_header, kernel_reserved_is_zero, agent_reserved_is_zero, barrier_reserved_is_zero, reserved_is_zero, passes, refusal, scope_of, header_at, kernel_at, agent_at, barrier_at, packet_at, decoded}

-- ---- scopes and flags

scope_again : (scope : Scope) → scope_of (scope_number scope) ≡ scope
scope_again scopes.None = refl
scope_again scopes.Agent = refl
scope_again scopes.System = refl

scope_is_plain : (scope : Scope) → not (scope_number scope == 3) ≡ true
scope_is_plain scopes.None = refl
scope_is_plain scopes.Agent = refl
scope_is_plain scopes.System = refl

flag_again : (flag : Bool) → (bit_of flag == 1) ≡ flag
flag_again true = refl
flag_again false = refl

flag_back : (bit : ℕ) → bit < 2 → bit ≡ bit_of (bit == 1)
flag_back zero lt = refl
flag_back (suc zero) lt = refl
flag_back (suc (suc bit)) lt = absurd (omega arith)

scope_back : (number : ℕ) → number < 4 → not (number == 3) ≡ true → number ≡ scope_number (scope_of number)
scope_back zero lt plain = refl
scope_back (suc zero) lt plain = refl
scope_back (suc (suc zero)) lt plain = refl
scope_back (suc (suc (suc zero))) lt plain = absurd cc
scope_back (suc (suc (suc (suc number)))) lt plain = absurd (omega arith)

-- ---- what is laid out is read

header_read : (bytes : List ℕ) (type : ℕ) (header : Header) → IsHeader (number_at bytes 0 2) type header → header_at bytes ≡ header
unfolding header_at
header_read bytes type header lays =
    rw (lays.barrier, lays.acquire, lays.release, flag_again header.barrier, scope_again header.acquire, scope_again header.release) refl

header_is_plain : (bytes : List ℕ) (type : ℕ) (header : Header) → IsHeader (number_at bytes 0 2) type header → is_plain_header bytes ≡ true
header_is_plain bytes type header lays =
    rw (lays.reserved, lays.acquire, lays.release, scope_is_plain header.acquire, scope_is_plain header.release) refl

kernel_read : (bytes : List ℕ) (packet : KernelDispatch) → LaysKernel bytes packet → kernel_at bytes ≡ packet
unfolding kernel_at
kernel_read bytes packet lays =
    rw (header_read bytes 2 packet.header lays.header, lays.setup_dimensions, lays.workgroup_size_x, lays.workgroup_size_y, lays.workgroup_size_z, lays.grid_size_x, lays.grid_size_y, lays.grid_size_z, lays.private_segment_size, lays.group_segment_size, lays.kernel_object, lays.kernarg_address, lays.completion_signal) refl

agent_read : (bytes : List ℕ) (packet : AgentDispatch) → LaysAgent bytes packet → agent_at bytes ≡ packet
unfolding agent_at
agent_read bytes packet lays =
    rw (header_read bytes 4 packet.header lays.header, lays.function, lays.return_address, lays.arguments, lays.completion_signal) refl

barrier_read : (bytes : List ℕ) (type : ℕ) (packet : Barrier) → LaysBarrier bytes type packet → barrier_at bytes ≡ packet
unfolding barrier_at
barrier_read bytes type packet lays =
    rw (header_read bytes type packet.header lays.header, lays.dependencies, lays.completion_signal) refl

kernel_passes : (bytes : List ℕ) (packet : KernelDispatch) → LaysKernel bytes packet → kernel_reserved_is_zero bytes ≡ true
kernel_passes bytes packet lays = rw (lays.setup_reserved, lays.reserved_10, lays.reserved_48) refl

agent_passes : (bytes : List ℕ) (packet : AgentDispatch) → LaysAgent bytes packet → agent_reserved_is_zero bytes ≡ true
agent_passes bytes packet lays = rw (lays.reserved_4, lays.reserved_48) refl

barrier_passes : (bytes : List ℕ) (type : ℕ) (packet : Barrier) → LaysBarrier bytes type packet → barrier_reserved_is_zero bytes ≡ true
barrier_passes bytes type packet lays = rw (lays.reserved_2, lays.reserved_48) refl

-- ---- 64 bytes

-- Both sides of a test that holds.
and_holds : (first second : Bool) → (first && second) ≡ true → (first ≡ true) × (second ≡ true)
and_holds true second holds = (refl, holds)
and_holds false second holds = absurd cc

pub are_64 : (bytes : List ℕ) → Are64Bytes bytes → are_64_bytes bytes ≡ true
are_64 bytes are =
    let all : list_all (λ byte. nat_lt byte 256) bytes ≡ true = list_all-from_AllPass (λ byte. nat_lt byte 256) bytes
    (λ k d lt. lt-ltb (get_or bytes k d) 256 (subst (λ n. n < 256) (sym (get_or_default_zero bytes k d lt)) (are.below k))) in
    rw (are.count, all) refl

pub are_64_back : (bytes : List ℕ) → are_64_bytes bytes ≡ true → Are64Bytes bytes
are_64_back bytes is =
    let both = and_holds (length bytes == 64) (list_all (λ byte. nat_lt byte 256) bytes) is in
    record {
      count = eqb-true (length bytes) 64 both.0;
      below = λ place. by_place place (cases_lt place (length bytes));
    }
  where
    by_place : (place : ℕ) → place < length bytes ⊎ length bytes ≤ place → slice_index bytes place < 256
    by_place place (inl lt) = ltb-true _ 256 (AllPass-from_list_all (λ byte. nat_lt byte 256) bytes (and_holds (length bytes == 64) (list_all (λ byte. nat_lt byte 256) bytes) is).1 place 0 lt)
    by_place place (inr past) = subst (λ n. n < 256) (sym (get_or-eq_default bytes 0 past)) (omega arith)

-- Which rule 64 bytes break first.
pub refused_by : (bytes : List ℕ) → length bytes ≡ 64 → ((place : ℕ) → slice_index bytes place < 256)
    → refusal bytes ≡ (if not (is_known (packet_type bytes)) then Some L1 else if not (is_plain_header bytes) then Some L2 else if not (reserved_is_zero (packet_type bytes) bytes) then Some L3 else None)
unfolding refusal passes
refused_by bytes count below = rw (are_64 bytes (record { count = count; below = below })) refl

-- What is laid out breaks no rule, and is the packet that is read.
pub laid_is_read : (bytes : List ℕ) (packet : Packet) → PacketOf bytes packet → (refusal bytes ≡ None) × (packet_at (packet_type bytes) bytes ≡ packet)
unfolding refusal passes packet_at
laid_is_read bytes packet laid = by_kind packet laid.layout
  where
    by_kind : (packet : Packet) → Lays bytes packet → (refusal bytes ≡ None) × (packet_at (packet_type bytes) bytes ≡ packet)
    by_kind (Kernel packet) lays =
        (rw (are_64 bytes laid.are_bytes, lays.header.packet_type, header_is_plain bytes 2 packet.header lays.header, kernel_passes bytes packet lays) refl, rw (lays.header.packet_type, kernel_read bytes packet lays) refl)
    by_kind (Agent packet) lays =
        (rw (are_64 bytes laid.are_bytes, lays.header.packet_type, header_is_plain bytes 4 packet.header lays.header, agent_passes bytes packet lays) refl, rw (lays.header.packet_type, agent_read bytes packet lays) refl)
    by_kind (BarrierAnd packet) lays =
        (rw (are_64 bytes laid.are_bytes, lays.header.packet_type, header_is_plain bytes 3 packet.header lays.header, barrier_passes bytes 3 packet lays) refl, rw (lays.header.packet_type, barrier_read bytes 3 packet lays) refl)
    by_kind (BarrierOr packet) lays =
        (rw (are_64 bytes laid.are_bytes, lays.header.packet_type, header_is_plain bytes 5 packet.header lays.header, barrier_passes bytes 5 packet lays) refl, rw (lays.header.packet_type, barrier_read bytes 5 packet lays) refl)

-- ---- what is read is laid out

zero_holds : (number : ℕ) → (number == 0) ≡ true → number ≡ 0
zero_holds number holds = eqb-true number 0 holds

header_laid : (bytes : List ℕ) (type : ℕ) → packet_type bytes ≡ type → is_plain_header bytes ≡ true → IsHeader (number_at bytes 0 2) type (header_at bytes)
unfolding header_at
header_laid bytes type kind plain =
    let scopes_plain = and_holds (bits (number_at bytes 0 2) 15 13 == 0 && not (acquire_bits bytes == 3)) (not (release_bits bytes == 3)) plain in
    let first_plain = and_holds (bits (number_at bytes 0 2) 15 13 == 0) (not (acquire_bits bytes == 3)) scopes_plain.0 in
    record {
      packet_type = kind;
      barrier = flag_back (bits (number_at bytes 0 2) 8 8) (mod-lt (number_at bytes 0 2 / 2 ^ 8) (omega arith));
      acquire = scope_back (acquire_bits bytes) (mod-lt (number_at bytes 0 2 / 2 ^ 9) (omega arith)) first_plain.1;
      release = scope_back (release_bits bytes) (mod-lt (number_at bytes 0 2 / 2 ^ 11) (omega arith)) scopes_plain.1;
      reserved = zero_holds (bits (number_at bytes 0 2) 15 13) first_plain.0;
    }

kernel_laid : (bytes : List ℕ) → packet_type bytes ≡ 2 → is_plain_header bytes ≡ true → kernel_reserved_is_zero bytes ≡ true → LaysKernel bytes (kernel_at bytes)
unfolding kernel_at
kernel_laid bytes kind plain zero_parts =
    let last = and_holds (bits (number_at bytes 2 2) 15 2 == 0 && number_at bytes 10 2 == 0) (number_at bytes 48 8 == 0) zero_parts in
    let first = and_holds (bits (number_at bytes 2 2) 15 2 == 0) (number_at bytes 10 2 == 0) last.0 in
    record {
      header = header_laid bytes 2 kind plain;
      setup_dimensions = refl;
      setup_reserved = zero_holds (bits (number_at bytes 2 2) 15 2) first.0;
      workgroup_size_x = refl;
      workgroup_size_y = refl;
      workgroup_size_z = refl;
      reserved_10 = zero_holds (number_at bytes 10 2) first.1;
      grid_size_x = refl;
      grid_size_y = refl;
      grid_size_z = refl;
      private_segment_size = refl;
      group_segment_size = refl;
      kernel_object = refl;
      kernarg_address = refl;
      reserved_48 = zero_holds (number_at bytes 48 8) last.1;
      completion_signal = refl;
    }

agent_laid : (bytes : List ℕ) → packet_type bytes ≡ 4 → is_plain_header bytes ≡ true → agent_reserved_is_zero bytes ≡ true → LaysAgent bytes (agent_at bytes)
unfolding agent_at
agent_laid bytes kind plain zero_parts =
    let both = and_holds (number_at bytes 4 4 == 0) (number_at bytes 48 8 == 0) zero_parts in
    record {
      header = header_laid bytes 4 kind plain;
      function = refl;
      reserved_4 = zero_holds (number_at bytes 4 4) both.0;
      return_address = refl;
      arguments = refl;
      reserved_48 = zero_holds (number_at bytes 48 8) both.1;
      completion_signal = refl;
    }

barrier_laid : (bytes : List ℕ) (type : ℕ) → packet_type bytes ≡ type → is_plain_header bytes ≡ true → barrier_reserved_is_zero bytes ≡ true → LaysBarrier bytes type (barrier_at bytes)
unfolding barrier_at
barrier_laid bytes type kind plain zero_parts =
    let both = and_holds (number_at bytes 2 6 == 0) (number_at bytes 48 8 == 0) zero_parts in
    record {
      header = header_laid bytes type kind plain;
      reserved_2 = zero_holds (number_at bytes 2 6) both.0;
      dependencies = refl;
      reserved_48 = zero_holds (number_at bytes 48 8) both.1;
      completion_signal = refl;
    }

-- No rule fails: each holds.
none_fails : (one two three : Bool) → cond (not one) (Some L1) (cond (not two) (Some L2) (cond (not three) (Some L3) None)) ≡ None → (one ≡ true) × (two ≡ true) × (three ≡ true)
none_fails true true true none = (refl, refl, refl)
none_fails true true false none = absurd cc
none_fails true false three none = absurd cc
none_fails false two three none = absurd cc

-- One side of an alternative that holds.
or_holds : (first second : Bool) → (first || second) ≡ true → (first ≡ true) ⊎ (second ≡ true)
or_holds true second holds = inl refl
or_holds false second holds = inr holds

-- A known type is one of four.
known_is : (type : ℕ) → is_known type ≡ true → (type ≡ 2) ⊎ ((type ≡ 4) ⊎ ((type ≡ 3) ⊎ (type ≡ 5)))
known_is type known = elim (or_holds (type == 2 || type == 3 || type == 4) (type == 5) known) [
  | inr five ↦ inr (inr (inr (eqb-true type 5 five)))
  | inl others ↦ elim (or_holds (type == 2 || type == 3) (type == 4) others) [
    | inr four ↦ inr (inl (eqb-true type 4 four))
    | inl fewer ↦ elim (or_holds (type == 2) (type == 3) fewer) [
      | inr three ↦ inr (inr (inl (eqb-true type 3 three)))
      | inl two ↦ inl (eqb-true type 2 two)
    ]
  ]
]

-- What breaks no rule is laid out.
pub read_is_laid : (bytes : List ℕ) → refusal bytes ≡ None → PacketOf bytes (packet_at (packet_type bytes) bytes)
unfolding refusal passes packet_at
read_is_laid bytes none =
    let all = none_fails (are_64_bytes bytes && is_known (packet_type bytes)) (is_plain_header bytes) (reserved_is_zero (packet_type bytes) bytes) none in
    let first = and_holds (are_64_bytes bytes) (is_known (packet_type bytes)) all.0 in
    record {
      are_bytes = are_64_back bytes first.0;
      layout = elim (known_is (packet_type bytes) first.1) [
        | inl two ↦ rw two (kernel_laid bytes two all.1 (rw two at all.2))
        | inr (inl four) ↦ rw four (agent_laid bytes four all.1 (rw four at all.2))
        | inr (inr (inl three)) ↦ rw three (barrier_laid bytes 3 three all.1 (rw three at all.2))
        | inr (inr (inr five)) ↦ rw five (barrier_laid bytes 5 five all.1 (rw five at all.2))
      ];
    }

-- The packet that the bytes lay out is the one that the reading has.
pub decoded_is : (bytes : List ℕ) → refusal bytes ≡ None → decoded bytes ≡ Some (packet_at (packet_type bytes) bytes)
unfolding decoded
decoded_is bytes none = rw none refl

-- What is refused is not laid out.
pub refused_not_laid : (bytes : List ℕ) (rule : CodecRule) (packet : Packet) → refusal bytes ≡ Some rule → PacketOf bytes packet → ⊥
refused_not_laid bytes rule packet refused laid =
    let none = (laid_is_read bytes packet laid).0 in
    absurd cc

-- What the bytes are decoded to is laid out.
pub decoded_is_laid : (bytes : List ℕ) (packet : Packet) → decoded bytes ≡ Some packet → PacketOf bytes packet
unfolding decoded
decoded_is_laid bytes packet found =
    let chosen = some_where (is_none (refusal bytes)) (packet_at (packet_type bytes) bytes) packet found in
    let none : refusal bytes ≡ None = none_is (refusal bytes) chosen.0 in
    subst (PacketOf bytes) chosen.1 (read_is_laid bytes none)
  where
    some_where : (test : Bool) (one two : Packet) → cond test (Some one) None ≡ Some two → (test ≡ true) × (one ≡ two)
    some_where true one two same = (refl, cc)
    some_where false one two same = absurd cc

    none_is : (rule : Option CodecRule) → is_none rule ≡ true → rule ≡ None
    none_is None holds = refl
    none_is (Some rule) holds = absurd cc

-- What is laid out can be spelled.
pub laid_is_well_formed : (bytes : List ℕ) (packet : Packet) → Lays bytes packet → IsTrue (is_well_formed packet)
laid_is_well_formed bytes (Kernel packet) lays =
    let few : packet.dimensions ≤ 3 = omega (arith, lays.setup_dimensions) in
    le-leb packet.dimensions 3 few
laid_is_well_formed bytes (Agent packet) lays = refl
laid_is_well_formed bytes (BarrierAnd packet) lays = refl
laid_is_well_formed bytes (BarrierOr packet) lays = refl
