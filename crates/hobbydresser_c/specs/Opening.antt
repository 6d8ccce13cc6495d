-- What the opening of a broker comes to (own).
use Rattle.std.specs.Prelude.{ℕ, ◌≡◌, List, Option, Some, None, Result, Ok, Err, ⊤, true}
use Rattle.access_core.specs.Cores.{Core}
use Rattle.access_core.specs.Opening.{Opens}
use Rattle.sha2.specs.Sha256.{sha256}
use Rattle.access_core.specs.declared.access.OpenFault.{OpenFault}
use Rattle.access_core.specs.declared.access.OpenFault.TheVariants as opening
use Rattle.access_core.specs.declared.kernel.Kernel.{Kernel}
use Rattle.policy.specs.Policy.{Declared}
use Rattle.policy.specs.Format.{Declares, HasFault}
use Rattle.policy.specs.declared.fault.PolicyFault.{PolicyFault}
use Rattle.policy.specs.declared.fault.Section.{Section}
use Rattle.policy.specs.declared.fault.Section.TheVariants as section
use Rattle.hobbydresser_c.specs.declared.broker.Broker.{Broker}
use Rattle.hobbydresser_c.specs.declared.kernels.KernelCause.{KernelCause}
use Rattle.hobbydresser_c.specs.declared.kernels.KernelCause.TheVariants.{Read, Check}
use Rattle.hobbydresser_c.specs.declared.kernels.KernelFault.{KernelFault}
use Rattle.hobbydresser_c.specs.declared.opening.Failure.{Failure}
use Rattle.hobbydresser_c.specs.declared.opening.Failure.TheVariants as failure
use Rattle.hobbydresser_c.specs.declared.opening.FaultRecord.{FaultRecord}
use Rattle.hobbydresser_c.specs.declared.session.Session.{Session}
use Rattle.hobbydresser_c.specs.Kernels.{AreLaunchable, IsFirstRefused}
use Rattle.hobbydresser_c.specs.Statuses.{ok, out_of_memory, no_entry, bad_places, other_kernels, status_of_cause, status_of_check, status_of_read}
use Rattle.hobbydresser_c.specs.Calls.{IsSame, is_open, session_of}
use Rattle.hobbydresser_c.specs.LastCalls.{no_call}

-- the core that was opened, or why it was not
abbrev pub core_in : Result Session OpenFault → Result Core OpenFault
core_in (Ok session) = Ok session.core
core_in (Err why) = Err why

-- what is kept beside the core that was opened: the digest of the policy's text, and that no call was made
abbrev pub IsKept : List ℕ → Result Session OpenFault → Type 0
IsKept text (Ok session) = (session.digest ≡ sha256 text) × (session.last ≡ no_call)
IsKept text (Err why) = ⊤

-- a core's opening over a text: the text declares a policy, all of its kernels are let pass, and a core over both is opened, or refused
pub record OpensOver (text : List ℕ) (places : ℕ) (opened : Result Session OpenFault) : Type 0 where
  pub policy : Declared
  pub kernels : List Kernel
  pub declares : Declares text policy
  pub launchable : AreLaunchable policy.kernels kernels
  pub opens : Opens policy kernels places (core_in opened)
  pub kept : IsKept text opened

-- the first kernel of the policy that a text declares is refused
pub record RefusesKernel (text : List ℕ) (fault : KernelFault) : Type 0 where
  pub policy : Declared
  pub declares : Declares text policy
  pub refused : IsFirstRefused policy.kernels fault

-- what an opening over a text, with so many places for the audit, comes to
abbrev pub Judges : List ℕ → ℕ → Result Session Failure → Type 0
Judges text places (Ok session) = OpensOver text places (Ok session)
Judges text places (Err failure.OutOfMemory) = ⊤
Judges text places (Err (failure.Policy fault)) = HasFault text fault
Judges text places (Err (failure.Kernel fault)) = RefusesKernel text fault
Judges text places (Err (failure.Opening why)) = OpensOver text places (Err why)

-- ---- how it is told

-- nothing is told
abbrev pub no_fault : FaultRecord
no_fault = record { section = 0; row = 0; kernel = 0; line = 0; column = 0 }

-- the array of a policy: 1 for the clients to 7 for the deny rows, 0 for none
abbrev pub number_of_section : Option Section → ℕ
number_of_section None = 0
number_of_section (Some section.Client) = 1
number_of_section (Some section.Agent) = 2
number_of_section (Some section.Region) = 3
number_of_section (Some section.Signal) = 4
number_of_section (Some section.Kernel) = 5
number_of_section (Some section.Allow) = 6
number_of_section (Some section.Deny) = 7

-- what is wrong with a kernel
abbrev pub status_of_kernel : KernelCause → ℕ
status_of_kernel (Read fault) = status_of_read fault.cause
status_of_kernel (Check fault) = status_of_check fault.cause

-- where it is
abbrev pub kernel_told : ℕ → KernelCause → FaultRecord
kernel_told kernel (Read fault) = record no_fault { kernel = kernel; line = fault.line; column = fault.column }
kernel_told kernel (Check fault) = record no_fault { kernel = kernel; line = fault.line }

-- why a core isn't opened
abbrev pub status_of_opening : OpenFault → ℕ
status_of_opening opening.OutOfMemory = out_of_memory
status_of_opening opening.KernelCount = other_kernels
status_of_opening (opening.NoEntry kernel) = no_entry
status_of_opening opening.BadCapacity = bad_places

-- where that is, after what stood there before
abbrev pub opening_told : FaultRecord → OpenFault → FaultRecord
opening_told before (opening.NoEntry kernel) = record no_fault { kernel = kernel.0 }
opening_told before _ = before

-- where a policy's text has its fault
abbrev pub policy_fault_told : PolicyFault → FaultRecord
policy_fault_told fault = record no_fault { section = number_of_section fault.kind; row = fault.row }

-- the status of an opening that failed
abbrev pub status_of_failure : Failure → ℕ
status_of_failure failure.OutOfMemory = out_of_memory
status_of_failure (failure.Policy fault) = status_of_cause fault.cause
status_of_failure (failure.Kernel fault) = status_of_kernel fault.cause
status_of_failure (failure.Opening why) = status_of_opening why

-- what is told beside it
abbrev pub failure_told : FaultRecord → Failure → FaultRecord
failure_told before failure.OutOfMemory = before
failure_told before (failure.Policy fault) = policy_fault_told fault
failure_told before (failure.Kernel fault) = kernel_told fault.kernel fault.cause
failure_told before (failure.Opening why) = opening_told before why

-- an opening was told: the broker is open and stands for its session, or it failed, which the status and the record of the fault tell,
-- and the broker is as it was
abbrev pub TellsOpening : Broker → Broker → ℕ → FaultRecord → FaultRecord → Result Session Failure → Type 0
TellsOpening old new status before after (Ok session) =
    (status ≡ ok) × (after ≡ before) × (is_open new ≡ true) × (session_of new ≡ session)
TellsOpening old new status before after (Err why) =
    (status ≡ status_of_failure why) × (after ≡ failure_told before why) × IsSame old new

-- what an opening comes to was told
abbrev pub Opened : List ℕ → ℕ → Broker → Broker → ℕ → FaultRecord → FaultRecord → Type 0
Opened text places old new status before after =
    (came : Result Session Failure) × Judges text places came × TellsOpening old new status before after came
