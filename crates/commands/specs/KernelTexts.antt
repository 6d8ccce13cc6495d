-- How a kernel's fault is told, in bytes (own).
use Rattle.std.specs.Prelude.{ℕ, List, ◌++◌, codes}
use Rattle.std.specs.Fmt.{decimal}
use Rattle.hsail_reader.specs.Faults.{cause_number as number_of_reading}
use Rattle.kernel_check.specs.Faults.{cause_number as number_of_checking}
use Rattle.commands.specs.declared.kernel_judging.KernelCause.{KernelCause}
use Rattle.commands.specs.declared.kernel_judging.KernelCause.TheVariants.{Read, Check}
use Rattle.commands.specs.declared.kernel_judging.KernelFault.{KernelFault}

-- the pass that refuses the kernel, its cause's number, and the place
abbrev pub text_of_cause : KernelCause → List ℕ
text_of_cause (Read fault) =
    codes "read " ++ decimal (number_of_reading fault.cause) ++ codes " line " ++ decimal fault.line
    ++ codes " column " ++ decimal fault.column
text_of_cause (Check fault) =
    codes "check " ++ decimal (number_of_checking fault.cause) ++ codes " line " ++ decimal fault.line

-- `kernel N: `, and what refuses it
abbrev pub text_of_kernel_fault : KernelFault → List ℕ
text_of_kernel_fault fault = codes "kernel " ++ decimal fault.kernel ++ codes ": " ++ text_of_cause fault.cause
