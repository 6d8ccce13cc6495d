-- Which kernels of a policy are let pass, what packets may then launch, and which is the first that isn't let pass (own).
use Rattle.std.specs.Prelude.{ℕ, ◌≡◌, ◌<◌, ◌≤◌, List, [], length, map, position, Option, Some, None, option_map, Result, Ok, Err, ⊤}
use Rattle.std.specs.Result.{result_err, result_unwrap_or}
use Rattle.std.specs.Str.{bytes_eq}
use Rattle.access_core.specs.declared.kernel.Kernel.{Kernel}
use Rattle.hsail_reader.specs.declared.module.Module.{Module}
use Rattle.hsail_reader.specs.declared.fault.ReadFault.{ReadFault}
use Rattle.hsail_reader.specs.Syntax.{reading}
use Rattle.kernel_check.specs.declared.fault.CheckFault.{CheckFault}
use Rattle.kernel_check.specs.Checks.{checking}
use Rattle.kernel_check.specs.Programs.{Program}
use Rattle.policy.specs.Names.{Name}
use Rattle.policy.specs.Policy.{Source, row_of}
use Rattle.hobbydresser_c.specs.declared.kernels.KernelCause.{KernelCause}
use Rattle.hobbydresser_c.specs.declared.kernels.KernelCause.TheVariants.{Read, Check}
use Rattle.hobbydresser_c.specs.declared.kernels.KernelError.{KernelError}
use Rattle.hobbydresser_c.specs.declared.kernels.KernelError.TheVariants as error
use Rattle.hobbydresser_c.specs.declared.kernels.KernelFault.{KernelFault}

-- the checked kernels of a module, or what is wrong with it
abbrev pub checked_or_cause : Result (List Program) CheckFault → Result (List Program) KernelCause
checked_or_cause (Ok programs) = Ok programs
checked_or_cause (Err fault) = Err (Check fault)

abbrev pub checked_reading : Result Module ReadFault → Result (List Program) KernelCause
checked_reading (Ok source) = checked_or_cause (checking source)
checked_reading (Err fault) = Err (Read fault)

-- the checked kernels of a kernel's text; or what is wrong with it: it is no module, or its module is refused
unfoldable pub checked_text : List ℕ → Result (List Program) KernelCause
checked_text text = checked_reading (reading text)

-- the checked kernels of a kernel's text, none where something is wrong with it
abbrev pub programs_in : List ℕ → List Program
programs_in text = result_unwrap_or (checked_text text) []

-- what is wrong with a kernel's text, if anything is
abbrev pub cause_of : List ℕ → Option KernelCause
cause_of text = result_err (checked_text text)

-- the index among checked kernels of the one that an entry names, if one has the name
abbrev pub entry_in : List Program → List ℕ → Option ℕ
entry_in programs entry = position (λ kernel. bytes_eq entry kernel.name) programs

-- what packets may launch by a source: the kernel of its module that its entry names
abbrev pub kernel_of : Source → Kernel
kernel_of source = record {
  checked = programs_in source.text;
  entry = entry_in (programs_in source.text) source.entry;
}

-- nothing is wrong with the kernel of a number, if there is one
abbrev pub Passes : List (Name × Source) → ℕ → Type 0
Passes kernels number = (source : Source) → row_of kernels number ≡ Some source → cause_of source.text ≡ None

-- the kernel of a fault's number has its cause
abbrev pub IsRefused : List (Name × Source) → KernelFault → Type 0
IsRefused kernels fault =
    (source : Source) × (row_of kernels fault.kernel ≡ Some source) × (cause_of source.text ≡ Some fault.cause)

-- each kernel is let pass
abbrev pub ArePassed : List (Name × Source) → Type 0
ArePassed kernels = (number : ℕ) → number ≤ length kernels → Passes kernels number

-- the fault is that of the first kernel that isn't
pub record IsFirstRefused (kernels : List (Name × Source)) (fault : KernelFault) : Type 0 where
  pub refused : IsRefused kernels fault
  pub earlier : (number : ℕ) → number < fault.kernel → Passes kernels number

-- what the check of a kernel's text comes to, by what is due: its checked kernels, or what is wrong, under the kernel's number
abbrev pub ChecksText : Result (List Program) KernelCause → ℕ → Result (List Program) KernelError → Type 0
ChecksText due number (Ok programs) = due ≡ Ok programs
ChecksText due number (Err error.OutOfMemory) = ⊤
ChecksText due number (Err (error.Fault fault)) = (fault.kernel ≡ number) × (due ≡ Err fault.cause)

-- what the check of a source comes to
abbrev pub ChecksSource : Source → ℕ → Result Kernel KernelError → Type 0
ChecksSource source number (Ok kernel) = (cause_of source.text ≡ None) × (kernel ≡ kernel_of source)
ChecksSource source number (Err error.OutOfMemory) = ⊤
ChecksSource source number (Err (error.Fault fault)) = (fault.kernel ≡ number) × (cause_of source.text ≡ Some fault.cause)

-- what the check of one kernel comes to
abbrev pub JudgesKernel : List (Name × Source) → ℕ → Result Kernel KernelError → Type 0
JudgesKernel kernels number (Ok kernel) = Passes kernels number × (option_map kernel_of (row_of kernels number) ≡ Some kernel)
JudgesKernel kernels number (Err error.OutOfMemory) = ⊤
JudgesKernel kernels number (Err (error.Fault fault)) = (fault.kernel ≡ number) × IsRefused kernels fault

-- all kernels are let pass, and these are what packets may launch by them, in order
abbrev pub AreLaunchable : List (Name × Source) → List Kernel → Type 0
AreLaunchable kernels launchable = ArePassed kernels × (launchable ≡ map (λ row. kernel_of row.1) kernels)

-- memory was wanted for a kernel, after so many others that are let pass
abbrev pub IsWantedAt : List (Name × Source) → Type 0
IsWantedAt kernels = (before : ℕ) × (before < length kernels) × ((number : ℕ) → number ≤ before → Passes kernels number)

-- why they aren't: memory was wanted for one, or one is refused, and this is the first
abbrev pub AreRefused : List (Name × Source) → KernelError → Type 0
AreRefused kernels error.OutOfMemory = IsWantedAt kernels
AreRefused kernels (error.Fault fault) = IsFirstRefused kernels fault
