-- When a core is opened.
use Rattle.std.specs.Prelude.{ℕ, ◌+◌, ◌==◌, ◌≡◌, ◌&&◌, Bool, false, not, nat_le, nat_lt, List, length, map, position, slice_get, Option, Some, None, Result, Ok, Err, if◌then◌else◌}
use Rattle.std.specs.Option.{unwrap_or}
use Rattle.kernel_check.specs.Programs.{Program}
use Rattle.policy.specs.Policy.{Declared, numbered}
use Rattle.core_model.specs.Limits.{most_entries}
use Rattle.core_model.specs.Kernels.{no_kernel}
use Rattle.core_model.specs.Legal.{IsOpening}
use Rattle.access_core.specs.Cores.{Core}
use Rattle.access_core.specs.declared.access.OpenFault.{OpenFault}
use Rattle.access_core.specs.declared.access.OpenFault.TheVariants as fault
use Rattle.access_core.specs.declared.kernel.Kernel.{Kernel}

-- whether an index is there, and is that of one of these checked kernels
abbrev pub is_index : List Program → Option ℕ → Bool
is_index checked None = false
is_index checked (Some index) = nat_lt index (length checked)

-- whether a kernel has an index, and it is that of one of its checked kernels (own)
abbrev pub has_entry : Kernel → Bool
has_entry kernel = is_index kernel.checked kernel.entry

-- the checked kernel at an index
abbrev pub program_in : List Program → Option ℕ → Program
program_in checked None = no_kernel
program_in checked (Some index) = unwrap_or (slice_get checked index) no_kernel

-- the checked kernel at a kernel's index
abbrev pub program_of : Kernel → Program
program_of kernel = program_in kernel.checked kernel.entry

-- a number, which counts from 1, is that of one of these kernels
abbrev pub IsNumber : List Kernel → ℕ → Type 0
IsNumber kernels number = (kernel : Kernel) × (numbered kernels number ≡ Some kernel)

-- the place of the first kernel that has no index, or one that is no checked kernel's, if there is one
abbrev pub first_missing : List Kernel → Option ℕ
first_missing kernels = position (λ kernel. not (has_entry kernel)) kernels

-- how many entries an audit may have place for: at least 1 (own)
abbrev pub is_capacity : ℕ → Bool
is_capacity capacity = nat_le 1 capacity && nat_le capacity most_entries

-- what else is wrong, once the kernels are there
abbrev pub fault_behind : ℕ → Option ℕ → Option OpenFault
fault_behind capacity (Some index) = Some (fault.NoEntry (record { 0 = index + 1 }))
fault_behind capacity None = if is_capacity capacity then None else Some fault.BadCapacity

-- why a core can't be opened: by the first of these that stands, there isn't one kernel for each kernel of the policy; one has no index,
-- or one that is no checked kernel's, of which the least is named; the audit's capacity is none (own)
abbrev pub open_fault : Declared → List Kernel → ℕ → Option OpenFault
open_fault policy kernels capacity =
    if length kernels == length policy.kernels then fault_behind capacity (first_missing kernels) else Some fault.KernelCount

-- a core is opened just where there is no fault, unless memory is wanted (own)
abbrev pub Opens : Declared → List Kernel → ℕ → Result Core OpenFault → Type 0
Opens policy kernels capacity (Ok core) =
    (open_fault policy kernels capacity ≡ None) × IsOpening core.history policy (map program_of kernels) capacity
Opens policy kernels capacity (Err fault.OutOfMemory) = open_fault policy kernels capacity ≡ None
Opens policy kernels capacity (Err why) = open_fault policy kernels capacity ≡ Some why
