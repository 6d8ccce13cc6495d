-- Why a command fails: its text on standard error, and the status that it ends with (own).
use Rattle.std.specs.Prelude.{ℕ, ◌≡◌, ◌⊎◌, Bool, true, false, List, [], ◌∷◌, ◌++◌, codes, Option, Some, None}
use Rattle.std.specs.Fmt.{decimal}
use Rattle.std.specs.Io.KnownBytes.{Appends}
use Rattle.policy.specs.declared.fault.ReadPolicyError.{ReadPolicyError}
use Rattle.policy.specs.declared.fault.ReadPolicyError.TheVariants as reading
use Rattle.policy.specs.FaultTexts.{text_of_fault}
use Rattle.access_core.specs.declared.access.OpenFault.{OpenFault}
use Rattle.access_core.specs.declared.access.OpenFault.TheVariants as opening
use Rattle.script.specs.Streams.{AppendsBeginning}
use Rattle.script.specs.declared.fault.ScriptFault.{ScriptFault}
use Rattle.script.specs.declared.fault.ScriptFault.TheVariants as script
use Rattle.commands.specs.declared.failure.Failure.{Failure}
use Rattle.commands.specs.declared.failure.Failure.TheVariants.{OutOfMemory, Policy, Kernel, KernelCount, NoEntry, Capacity, Line, Read, Write}
use Rattle.commands.specs.declared.kernel_judging.KernelError.{KernelError}
use Rattle.commands.specs.declared.kernel_judging.KernelError.TheVariants as kernels
use Rattle.commands.specs.declared.status.Status.{Status}
use Rattle.commands.specs.declared.status.Status.TheVariants.{Refused, Failed}
use Rattle.commands.specs.KernelTexts.{text_of_kernel_fault}

-- the text of a failure
abbrev pub text_of_failure : Failure → List ℕ
text_of_failure OutOfMemory = codes "no memory"
text_of_failure (Policy fault) = codes "policy: " ++ text_of_fault fault
text_of_failure (Kernel fault) = text_of_kernel_fault fault
text_of_failure KernelCount = codes "kernels: one for each kernel of the policy"
text_of_failure (NoEntry kernel) = codes "kernel " ++ decimal kernel.0 ++ codes ": no entry"
text_of_failure Capacity = codes "audit: 1 to 1048576 entries"
text_of_failure (Line number) = codes "line " ++ decimal number ++ codes ": bad request"
text_of_failure Read = codes "read fault"
text_of_failure Write = codes "write fault"

-- what was handed in is refused, or reading, writing or memory failed
abbrev pub status_of : Failure → Status
status_of OutOfMemory = Failed
status_of (Policy fault) = Refused
status_of (Kernel fault) = Refused
status_of KernelCount = Refused
status_of (NoEntry kernel) = Refused
status_of Capacity = Refused
status_of (Line number) = Refused
status_of Read = Failed
status_of Write = Failed

-- whether a failure's text has a number in it, so that memory is wanted for its line
abbrev pub has_number : Failure → Bool
has_number OutOfMemory = false
has_number (Policy fault) = true
has_number (Kernel fault) = true
has_number KernelCount = false
has_number (NoEntry kernel) = true
has_number Capacity = false
has_number (Line number) = true
has_number Read = false
has_number Write = false

-- a failure's line
abbrev pub line_of_failure : Failure → List ℕ
line_of_failure failure = text_of_failure failure ++ 10 ∷ []

-- what is known of a reader or of a writer: the bytes that are left, or that it holds, where it tells them; and whether it has failed
pub record Stream : Type 0 where
  pub bytes : Option (List ℕ)
  pub failed : Bool

abbrev pub stream : Option (List ℕ) → Bool → Stream
stream bytes failed = record { bytes = bytes; failed = failed }

-- a text is written: all of it; or the writer failed behind a beginning
abbrev pub IsWritten : List ℕ → Stream → Stream → Type 0
IsWritten text before after = Appends before.bytes after.bytes text × (after.failed ≡ before.failed)

abbrev pub IsBegun : List ℕ → Stream → Stream → Type 0
IsBegun text before after = AppendsBeginning before.bytes after.bytes text × (after.failed ≡ true)

-- a line is written, and the command ends with a status; or the writer failed, and so did the command
abbrev pub TellsLine : List ℕ → Status → Stream → Stream → Status → Type 0
TellsLine line ending before after status =
    (IsWritten line before after × (status ≡ ending)) ⊎ (IsBegun line before after × (status ≡ Failed))

-- a failure is named in a line, and its status answered; or memory was wanted for a line with a number, and that is named
abbrev pub NamesFailure : Failure → Stream → Stream → Status → Type 0
NamesFailure failure before after status =
    TellsLine (line_of_failure failure) (status_of failure) before after status
    ⊎ ((has_number failure ≡ true) × TellsLine (line_of_failure OutOfMemory) (status_of OutOfMemory) before after status)

-- the failure of the reading of a policy
abbrev pub failure_of_reading : ReadPolicyError → Failure
failure_of_reading reading.OutOfMemory = OutOfMemory
failure_of_reading (reading.Fault fault) = Policy fault

-- the failure of the check of its kernels
abbrev pub failure_of_kernels : KernelError → Failure
failure_of_kernels kernels.OutOfMemory = OutOfMemory
failure_of_kernels (kernels.Fault fault) = Kernel fault

-- the failure of the opening of its core
abbrev pub failure_of_opening : OpenFault → Failure
failure_of_opening opening.OutOfMemory = OutOfMemory
failure_of_opening opening.KernelCount = KernelCount
failure_of_opening (opening.NoEntry kernel) = NoEntry kernel
failure_of_opening opening.BadCapacity = Capacity

-- the failure of the run of a script
abbrev pub failure_of_script : ScriptFault → Failure
failure_of_script script.OutOfMemory = OutOfMemory
failure_of_script (script.BadLine number) = Line number
failure_of_script script.Read = Read
failure_of_script script.Write = Write
