-- Why an item of a module is refused.
use Rattle.std.specs.Prelude.{◌≡◌, ℕ, List, [], ◌∷◌, ◌++◌, codes, Bool, if◌then◌else◌, Option, Some, None, Result, Ok, Err}
use Rattle.std.specs.Fmt.{decimal}
use Rattle.kernel_check.specs.declared.fault.CheckCause.{CheckCause}
use Rattle.kernel_check.specs.declared.fault.CheckCause.TheVariants.{UnknownLabel, DoubleName, WrongRegister, WrongType, UnknownArgument, TooLarge, BadAddress}
use Rattle.kernel_check.specs.declared.fault.CheckError.{CheckError}
use Rattle.kernel_check.specs.declared.fault.CheckError.TheVariants as error
use Rattle.kernel_check.specs.declared.fault.CheckFault.{CheckFault}

-- the numbers of the causes (own)
abbrev pub cause_number : CheckCause → ℕ
cause_number UnknownLabel = 1
cause_number DoubleName = 2
cause_number WrongRegister = 3
cause_number WrongType = 4
cause_number UnknownArgument = 5
cause_number TooLarge = 6
cause_number BadAddress = 7

-- the number of a refusal: 0 for want of memory, else its cause's (own)
abbrev pub error_number : CheckError → ℕ
error_number error.OutOfMemory = 0
error_number (error.Fault f) = cause_number f.cause

abbrev pub cause_name : CheckCause → List ℕ
cause_name UnknownLabel = codes "UnknownLabel"
cause_name DoubleName = codes "DoubleName"
cause_name WrongRegister = codes "WrongRegister"
cause_name WrongType = codes "WrongType"
cause_name UnknownArgument = codes "UnknownArgument"
cause_name TooLarge = codes "TooLarge"
cause_name BadAddress = codes "BadAddress"

-- how a fault is told, by its line and its cause's name
abbrev pub text_of_fault : CheckFault → List ℕ
text_of_fault f = codes "line " ++ decimal f.line ++ codes ": " ++ cause_name f.cause

abbrev pub text_of_error : CheckError → List ℕ
text_of_error error.OutOfMemory = codes "out of memory"
text_of_error (error.Fault f) = text_of_fault f

-- the causes by number
abbrev pub causes : List CheckCause
causes =
    UnknownLabel ∷ DoubleName ∷ WrongRegister ∷ WrongType ∷ UnknownArgument ∷ TooLarge ∷ BadAddress ∷ []

-- the first of some causes by which an item fails
abbrev pub first_cause : (CheckCause → Bool) → List CheckCause → Option CheckCause
first_cause fails [] = None
first_cause fails (cause ∷ others) = if fails cause then Some cause else first_cause fails others

-- the cause of least number by which an item fails
abbrev pub least_cause : (CheckCause → Bool) → Option CheckCause
least_cause fails = first_cause fails causes

-- an item of the text, by its line, with the least cause by which it fails
pub record Checkpoint : Type 0 where
  pub line : ℕ
  pub cause : Option CheckCause

abbrev pub checkpoint : ℕ → (CheckCause → Bool) → Checkpoint
checkpoint line fails = record { line = line; cause = least_cause fails }

abbrev pub fault : ℕ → CheckCause → CheckFault
fault line cause = record { line = line; cause = cause }

-- the fault at an item, else another
abbrev pub fault_or : ℕ → Option CheckCause → Option CheckFault → Option CheckFault
fault_or line None other = other
fault_or line (Some cause) other = Some (fault line cause)

-- the fault at an item
abbrev pub fault_at : Checkpoint → Option CheckFault
fault_at c = fault_or c.line c.cause None

-- the fault of the first item that fails
abbrev pub first_fault : List Checkpoint → Option CheckFault
first_fault [] = None
first_fault (c ∷ later) = fault_or c.line c.cause (first_fault later)

-- what there is where nothing fails
abbrev pub unless : {X : Type 0} → Option CheckFault → X → Result X CheckFault
unless None x = Ok x
unless (Some f) x = Err f

-- what a function returned is this result, unless memory ran out
abbrev pub FailsAs : {Y : Type 0} → CheckError → Result Y CheckFault → Type 0
FailsAs error.OutOfMemory r = Unit {0}
FailsAs (error.Fault f) r = r ≡ Err f

abbrev pub Gives : {X Y : Type 0} → (X → Y) → Result X CheckError → Result Y CheckFault → Type 0
Gives view (Ok x) r = r ≡ Ok (view x)
Gives view (Err e) r = FailsAs e r
