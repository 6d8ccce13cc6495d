-- Which bytes lay out no barrier packet.
use Rattle.std.proofs.Common.{◌≡◌, ℕ, List, Bool, true, false, refl}
use Rattle.std.specs.Prelude.{◌==◌, ◌&&◌, ◌||◌, not, Some, None, is_none, if◌then◌else◌}
use Rattle.aql_packet.specs.Kinds.{kernel_type, barrier_and_type, agent_type, barrier_or_type}
use Rattle.aql_packet.specs.Layout.{are_64_bytes}
use Rattle.aql_packet.specs.Reading.{agent_at, barrier_at, decoded, is_plain_header, kernel_at, packet_at, packet_type, passes, refusal, reserved_is_zero}
use Rattle.aql_packet.specs.declared.packet.AgentDispatch.{AgentDispatch}
use Rattle.aql_packet.specs.declared.packet.Barrier.{Barrier}
use Rattle.aql_packet.specs.declared.packet.CodecRule.TheVariants.{L1, L2, L3}
use Rattle.aql_packet.specs.declared.packet.KernelDispatch.{KernelDispatch}
use Rattle.aql_packet.specs.declared.packet.Packet.TheVariants.{Kernel, Agent, BarrierAnd, BarrierOr}
use Rattle.client_threads.specs.Advancing.{has_barrier_type, is_some_barrier}

module _ (k : KernelDispatch) (a : AgentDispatch) (x y : Barrier) where
  no_kernel : (found : Bool) → is_some_barrier (if found then Some (Kernel k) else None) ≡ false
  no_kernel true = refl
  no_kernel false = refl

  no_agent : (found : Bool) → is_some_barrier (if found then Some (Agent a) else None) ≡ false
  no_agent true = refl
  no_agent false = refl

  -- by the tests that decoding makes: of the four types, of 64 bytes, of the header and of the reserved parts
  by_tests : (kernel agent all any bytes plain zero : Bool) → (all || any) ≡ false
      → is_some_barrier (if is_none (if not (bytes && (kernel || all || agent || any)) then Some L1 else if not plain then Some L2 else if not zero then Some L3 else None)
      then Some (if kernel then Kernel k else if agent then Agent a else if all then BarrierAnd x else BarrierOr y) else None) ≡ false
  by_tests true agent all any bytes plain zero other = no_kernel _
  by_tests false true all any bytes plain zero other = no_agent _
  by_tests false false true any bytes plain zero other = absurd cc
  by_tests false false false true bytes plain zero other = absurd cc
  by_tests false false false false true plain zero other = refl
  by_tests false false false false false plain zero other = refl

-- what has another type is no barrier packet
pub other_type : (bytes : List ℕ) → has_barrier_type bytes ≡ false → is_some_barrier (decoded bytes) ≡ false
unfolding decoded refusal passes packet_at
other_type bytes other =
    let type = packet_type bytes in
    by_tests (kernel_at bytes) (agent_at bytes) (barrier_at bytes) (barrier_at bytes) (type == kernel_type) (type == agent_type) (type == barrier_and_type) (type == barrier_or_type) (are_64_bytes bytes) (is_plain_header bytes) (reserved_is_zero type bytes) other
