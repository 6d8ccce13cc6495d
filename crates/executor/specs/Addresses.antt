-- Addresses of memory, as registers and instructions give them (PRM, Address Expressions).
use Rattle.std.specs.Prelude.{ℕ, ◌+◌, ◌%◌, ◌^◌, slice_index, Option, Some, None}
use Rattle.executor.specs.declared.registers.Registers.{Registers}
use Rattle.kernel_check.specs.declared.step.GroupPointer.{GroupPointer}
use Rattle.kernel_check.specs.declared.step.Pointer.{Pointer}

-- an address of global memory: what the register has and the offset, wrapping (PRM, Address Expressions)
abbrev pub address_at : Registers → Option ℕ → ℕ → ℕ
address_at r None offset = offset
address_at r (Some s) offset = (slice_index r.double s + offset) % 2 ^ 64

abbrev pub address_of : Registers → Pointer → ℕ
address_of r p = address_at r p.base p.offset

-- an address of group memory, which has 32 bits (PRM, Address Expressions)
abbrev pub group_address_at : Registers → Option ℕ → ℕ → ℕ
group_address_at r None offset = offset
group_address_at r (Some s) offset = (slice_index r.single s + offset) % 2 ^ 32

abbrev pub group_address_of : Registers → GroupPointer → ℕ
group_address_of r p = group_address_at r p.base p.offset
