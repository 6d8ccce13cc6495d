-- What each kind of packet puts into zeros lays it out.
use Rattle.std.proofs.Common.{◌≡◌, ℕ, ◌≤◌, List, [], ◌∷◌, length, slice_index, get_or, refl, arith}
use Rattle.aql_packet.specs.declared.ids.SignalHandle.{SignalHandle}
use Rattle.aql_packet.specs.declared.packet.KernelDispatch.{KernelDispatch}
use Rattle.aql_packet.specs.declared.packet.AgentDispatch.{AgentDispatch}
use Rattle.aql_packet.specs.declared.packet.Barrier.{Barrier}
use Rattle.aql_packet.specs.Numbers.{number_at}
use Rattle.aql_packet.specs.Layout.{IsHeader, LaysKernel, LaysAgent, LaysBarrier}
use Rattle.aql_packet.proofs.WritingLemmas.{Put, put, after, AllFit, reads_back}

-- What is put, the newest first, with the header as a number.
abbrev pub kernel_puts : ℕ → KernelDispatch → List Put
kernel_puts header packet =
    put 56 8 packet.completion_signal.0 ∷ put 40 8 packet.kernarg_address.0 ∷ put 32 8 packet.kernel_object.0 ∷ put 28 4 packet.group_segment_size
    ∷ put 24 4 packet.private_segment_size ∷ put 20 4 packet.grid_size_z ∷ put 16 4 packet.grid_size_y ∷ put 12 4 packet.grid_size_x
    ∷ put 8 2 packet.workgroup_size_z ∷ put 6 2 packet.workgroup_size_y ∷ put 4 2 packet.workgroup_size_x ∷ put 2 2 packet.dimensions ∷ put 0 2 header ∷ []

pub kernel_is_laid : (header : ℕ) (packet : KernelDispatch) → AllFit (kernel_puts header packet) → IsHeader header 2 packet.header → packet.dimensions ≤ 3
    → LaysKernel (after (kernel_puts header packet)) packet
kernel_is_laid header packet fit is_header few =
    let puts = kernel_puts header packet in
    let setup : number_at (after puts) 2 2 ≡ packet.dimensions = reads_back puts 2 2 packet.dimensions fit refl refl in
    record {
      header = rw (reads_back puts 0 2 header fit refl refl) is_header;
      setup_dimensions = rw setup (omega arith);
      setup_reserved = rw setup (omega arith);
      workgroup_size_x = reads_back puts 4 2 packet.workgroup_size_x fit refl refl;
      workgroup_size_y = reads_back puts 6 2 packet.workgroup_size_y fit refl refl;
      workgroup_size_z = reads_back puts 8 2 packet.workgroup_size_z fit refl refl;
      reserved_10 = reads_back puts 10 2 0 fit refl refl;
      grid_size_x = reads_back puts 12 4 packet.grid_size_x fit refl refl;
      grid_size_y = reads_back puts 16 4 packet.grid_size_y fit refl refl;
      grid_size_z = reads_back puts 20 4 packet.grid_size_z fit refl refl;
      private_segment_size = reads_back puts 24 4 packet.private_segment_size fit refl refl;
      group_segment_size = reads_back puts 28 4 packet.group_segment_size fit refl refl;
      kernel_object = reads_back puts 32 8 packet.kernel_object.0 fit refl refl;
      kernarg_address = reads_back puts 40 8 packet.kernarg_address.0 fit refl refl;
      reserved_48 = reads_back puts 48 8 0 fit refl refl;
      completion_signal = reads_back puts 56 8 packet.completion_signal.0 fit refl refl;
    }

abbrev pub agent_puts : ℕ → AgentDispatch → List Put
agent_puts header packet =
    put 56 8 packet.completion_signal.0 ∷ put 40 8 (slice_index packet.arguments 3) ∷ put 32 8 (slice_index packet.arguments 2)
    ∷ put 24 8 (slice_index packet.arguments 1) ∷ put 16 8 (slice_index packet.arguments 0) ∷ put 8 8 packet.return_address.0
    ∷ put 2 2 packet.function ∷ put 0 2 header ∷ []

-- A list of four, or of five, by its items.
four : (xs : List ℕ) → length xs ≡ 4 → slice_index xs 0 ∷ slice_index xs 1 ∷ slice_index xs 2 ∷ slice_index xs 3 ∷ [] ≡ xs
four [] count = absurd (omega (arith, count))
four (a ∷ []) count = absurd (omega (arith, count))
four (a ∷ b ∷ []) count = absurd (omega (arith, count))
four (a ∷ b ∷ c ∷ []) count = absurd (omega (arith, count))
four (a ∷ b ∷ c ∷ d ∷ []) count = refl
four (a ∷ b ∷ c ∷ d ∷ e ∷ xs) count = absurd (omega (arith, count))

abbrev none : SignalHandle
none = record { 0 = 0 }

five : (xs : List SignalHandle) → length xs ≡ 5
    → get_or xs 0 none ∷ get_or xs 1 none ∷ get_or xs 2 none ∷ get_or xs 3 none ∷ get_or xs 4 none ∷ [] ≡ xs
five [] count = absurd (omega (arith, count))
five (a ∷ []) count = absurd (omega (arith, count))
five (a ∷ b ∷ []) count = absurd (omega (arith, count))
five (a ∷ b ∷ c ∷ []) count = absurd (omega (arith, count))
five (a ∷ b ∷ c ∷ d ∷ []) count = absurd (omega (arith, count))
five (a ∷ b ∷ c ∷ d ∷ e ∷ []) count = refl
five (a ∷ b ∷ c ∷ d ∷ e ∷ f ∷ xs) count = absurd (omega (arith, count))

pub agent_is_laid : (header : ℕ) (packet : AgentDispatch) → AllFit (agent_puts header packet) → IsHeader header 4 packet.header → length packet.arguments ≡ 4
    → LaysAgent (after (agent_puts header packet)) packet
agent_is_laid header packet fit is_header count =
    let puts = agent_puts header packet in
    let first : number_at (after puts) 16 8 ≡ slice_index packet.arguments 0 = reads_back puts 16 8 (slice_index packet.arguments 0) fit refl refl in
    let second : number_at (after puts) 24 8 ≡ slice_index packet.arguments 1 = reads_back puts 24 8 (slice_index packet.arguments 1) fit refl refl in
    let third : number_at (after puts) 32 8 ≡ slice_index packet.arguments 2 = reads_back puts 32 8 (slice_index packet.arguments 2) fit refl refl in
    let fourth : number_at (after puts) 40 8 ≡ slice_index packet.arguments 3 = reads_back puts 40 8 (slice_index packet.arguments 3) fit refl refl in
    record {
      header = rw (reads_back puts 0 2 header fit refl refl) is_header;
      function = reads_back puts 2 2 packet.function fit refl refl;
      reserved_4 = reads_back puts 4 4 0 fit refl refl;
      return_address = reads_back puts 8 8 packet.return_address.0 fit refl refl;
      arguments = rw (first, second, third, fourth) (four packet.arguments count);
      reserved_48 = reads_back puts 48 8 0 fit refl refl;
      completion_signal = reads_back puts 56 8 packet.completion_signal.0 fit refl refl;
    }

abbrev pub signal_number : Barrier → ℕ → ℕ
signal_number packet at = (get_or packet.dependencies at none).0

abbrev pub barrier_puts : ℕ → Barrier → List Put
barrier_puts header packet =
    put 56 8 packet.completion_signal.0 ∷ put 40 8 (signal_number packet 4) ∷ put 32 8 (signal_number packet 3) ∷ put 24 8 (signal_number packet 2)
    ∷ put 16 8 (signal_number packet 1) ∷ put 8 8 (signal_number packet 0) ∷ put 0 2 header ∷ []

pub barrier_is_laid : (header type : ℕ) (packet : Barrier) → AllFit (barrier_puts header packet) → IsHeader header type packet.header → length packet.dependencies ≡ 5
    → LaysBarrier (after (barrier_puts header packet)) type packet
barrier_is_laid header type packet fit is_header count =
    let puts = barrier_puts header packet in
    let first : number_at (after puts) 8 8 ≡ signal_number packet 0 = reads_back puts 8 8 (signal_number packet 0) fit refl refl in
    let second : number_at (after puts) 16 8 ≡ signal_number packet 1 = reads_back puts 16 8 (signal_number packet 1) fit refl refl in
    let third : number_at (after puts) 24 8 ≡ signal_number packet 2 = reads_back puts 24 8 (signal_number packet 2) fit refl refl in
    let fourth : number_at (after puts) 32 8 ≡ signal_number packet 3 = reads_back puts 32 8 (signal_number packet 3) fit refl refl in
    let fifth : number_at (after puts) 40 8 ≡ signal_number packet 4 = reads_back puts 40 8 (signal_number packet 4) fit refl refl in
    record {
      header = rw (reads_back puts 0 2 header fit refl refl) is_header;
      reserved_2 = reads_back puts 2 6 0 fit refl refl;
      dependencies = rw (first, second, third, fourth, fifth) (five packet.dependencies count);
      reserved_48 = reads_back puts 48 8 0 fit refl refl;
      completion_signal = reads_back puts 56 8 packet.completion_signal.0 fit refl refl;
    }
