-- Kernels: which one a dispatch names, the grid that it asks for, and its argument block.
use Rattle.std.specs.Prelude.{ℕ, List, [], map, take, drop}
use Rattle.std.specs.Int.{w64, from_le_bytes}
use Rattle.std.specs.Option.{unwrap_or}
use Rattle.aql_packet.specs.declared.packet.KernelDispatch.{KernelDispatch}
use Rattle.executor.specs.declared.location.Extent.{Extent}
use Rattle.kernel_check.specs.Programs.{Program, group_bytes_of}
use Rattle.policy.specs.Policy.{numbered}
use Rattle.core_model.specs.declared.entry.Entry.{Entry}
use Rattle.core_model.specs.declared.kernel.KernelSegments.{KernelSegments}
use Rattle.core_model.specs.History.{Start}
use Rattle.core_model.specs.Memory.{memory_from}

-- how large a kernel's segments are
abbrev pub segments_of : Program → KernelSegments
segments_of kernel = record { kernarg = kernel.argument_bytes; group = group_bytes_of kernel }

-- a kernel without arguments and steps, where there is none of a number
abbrev pub no_kernel : Program
no_kernel = record { name = []; argument_bytes = 0; group_bytes = 0; wide = []; steps = []; lines = [] }

-- the kernel that a dispatch names (PSA, Kernel Dispatch Packet; that a kernel object is a number is own)
abbrev pub kernel_of : Start → KernelDispatch → Program
kernel_of start d = unwrap_or (numbered start.kernels d.kernel_object.0) no_kernel

-- the size of a dispatch's work-groups, and that of its grid, in each dimension (PSA, Kernel Dispatch Packet)
abbrev pub group_size : KernelDispatch → Extent
group_size d = record { x = d.workgroup_size_x; y = d.workgroup_size_y; z = d.workgroup_size_z }

abbrev pub grid_size : KernelDispatch → Extent
grid_size d = record { x = d.grid_size_x; y = d.grid_size_y; z = d.grid_size_z }

-- the bytes of a dispatch's argument block (PRM, Kernarg Segment)
abbrev pub argument_block : Start → List Entry → KernelDispatch → List ℕ
argument_block start entries d = memory_from start entries d.kernarg_address.0 (kernel_of start d).argument_bytes

-- the arguments of 64 bits at these offsets of an argument block, as numbers
abbrev pub wide_arguments : List ℕ → List ℕ → List ℕ
wide_arguments offsets block = map (λ offset. from_le_bytes w64 (take 8 (drop offset block))) offsets
