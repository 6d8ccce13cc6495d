-- Readings that end at their first fault.
use Rattle.std.specs.Prelude.{ℕ, ◌≡◌, Option, Some, None, Result, Ok, Err, Bool, true, false}
use Rattle.policy.specs.declared.fault.PolicyCause.{PolicyCause}
use Rattle.policy.specs.declared.fault.PolicyCause.TheVariants.{BadValue, TooMany}
use Rattle.policy.specs.declared.fault.PolicyFault.{PolicyFault}
use Rattle.policy.specs.declared.fault.RowFault.{RowFault}
use Rattle.policy.specs.declared.fault.Section.{Section}
use Rattle.policy.specs.declared.fault.Section.TheVariants.{Region}
use Rattle.policy.specs.declared.fault.RowError.{RowError}
use Rattle.policy.specs.declared.fault.RowError.TheVariants as in_row
use Rattle.policy.specs.declared.fault.ReadPolicyError.{ReadPolicyError}
use Rattle.policy.specs.declared.fault.ReadPolicyError.TheVariants as file
use Rattle.policy.specs.declared.key.Key.{Key}
use Rattle.policy.specs.declared.key.Key.TheVariants.{Version, Length}

infixl 10 ◌>>=◌
-- one step after another, where the first is without fault
abbrev pub ◌>>=◌ : {A B E : Type 0} → Result A E → (A → Result B E) → Result B E
(Ok x) >>= f = f x
(Err e) >>= f = Err e

-- the value, where there is one, and else the fault
abbrev pub or_fault : {A E : Type 0} → E → Option A → Result A E
or_fault e None = Err e
or_fault e (Some x) = Ok x

-- the fault, unless the test passes
abbrev pub unless : {E : Type 0} → Bool → E → Result (Unit {0}) E
unless true e = Ok tt
unless false e = Err e

-- a fault of a row at one of its keys
abbrev pub fault_at : Key → PolicyCause → RowFault
fault_at at cause = record { cause = cause; key = Some at }

-- a fault of a row at none of the keys that its array has
abbrev pub fault_at_none : PolicyCause → RowFault
fault_at_none cause = record { cause = cause; key = None }

-- a fault before the arrays: of the file as a whole, and at its version
abbrev pub fault_of_file : PolicyCause → PolicyFault
fault_of_file cause = record { cause = cause; kind = None; row = 0; key = None }

abbrev pub fault_of_version : PolicyFault
fault_of_version = record (fault_of_file BadValue) { key = Some Version }

-- a fault of an array as a whole
abbrev pub fault_of_array : Section → PolicyCause → PolicyFault
fault_of_array section cause = record { cause = cause; kind = Some section; row = 0; key = None }

-- the regions, each of a right length, are too long together
abbrev pub fault_of_lengths : PolicyFault
fault_of_lengths = record (fault_of_array Region TooMany) { key = Some Length }

-- a fault in a row of an array
abbrev pub fault_in : Section → ℕ → RowFault → PolicyFault
fault_in section row fault = record { cause = fault.cause; kind = Some section; row = row; key = fault.key }

-- what a function returned, seen by a view, is what the reading of a row gives, unless memory ran out
abbrev pub RowFails : {B : Type 0} → RowError → Result B RowFault → Type 0
RowFails in_row.OutOfMemory reading = Unit {0}
RowFails (in_row.Fault fault) reading = reading ≡ Err fault

abbrev pub RowGives : {A B : Type 0} → (A → B) → Result A RowError → Result B RowFault → Type 0
RowGives view (Ok x) reading = reading ≡ Ok (view x)
RowGives view (Err e) reading = RowFails e reading

-- the same of the reading of a file
abbrev pub FileFails : {B : Type 0} → ReadPolicyError → Result B PolicyFault → Type 0
FileFails file.OutOfMemory reading = Unit {0}
FileFails (file.Fault fault) reading = reading ≡ Err fault

abbrev pub FileGives : {A : Type 0} → Result A ReadPolicyError → Result A PolicyFault → Type 0
FileGives (Ok x) reading = reading ≡ Ok x
FileGives (Err e) reading = FileFails e reading

-- what a row's reading comes to in its place: a fault is one of that row
abbrev pub placed : {A : Type 0} → Section → ℕ → Result A RowError → Result A ReadPolicyError
placed section row (Ok x) = Ok x
placed section row (Err in_row.OutOfMemory) = Err file.OutOfMemory
placed section row (Err (in_row.Fault fault)) = Err (file.Fault (fault_in section row fault))
