-- The first fault of items that stand behind others.
use Rattle.std.proofs.Common.{◌≡◌, ℕ, List, [], ◌∷◌, ◌++◌, Option, Some, None, refl, sym, ap, ◌∙◌}
use Rattle.kernel_check.specs.Faults.{Checkpoint, first_fault, fault_or, unless, FailsAs}
use Rattle.kernel_check.specs.inner.Judged.{Stops}
use Rattle.kernel_check.specs.inner.Bound.{or_else}
use Rattle.kernel_check.specs.declared.fault.CheckCause.{CheckCause}
use Rattle.kernel_check.specs.declared.fault.CheckError.{CheckError}
use Rattle.kernel_check.specs.declared.fault.CheckError.TheVariants as error
use Rattle.kernel_check.specs.declared.fault.CheckFault.{CheckFault}

fault_or-else : (line : ℕ) (cause : Option CheckCause) (x y : Option CheckFault) → fault_or line cause (or_else x y) ≡ or_else (fault_or line cause x) y
fault_or-else line None x y = refl
fault_or-else line (Some cause) x y = refl

pub first_fault-append : (a b : List Checkpoint) → first_fault (a ++ b) ≡ or_else (first_fault a) (first_fault b)
first_fault-append [] b = refl
first_fault-append (c ∷ a) b =
    ap (fault_or c.line c.cause) (first_fault-append a b) ∙ fault_or-else c.line c.cause (first_fault a) (first_fault b)

-- items without a fault are passed over
pub passed : (a b : List Checkpoint) → first_fault a ≡ None → first_fault (a ++ b) ≡ first_fault b
passed a b none = first_fault-append a b ∙ ap (λ f. or_else f (first_fault b)) none

-- what was told of some items is the fault of the whole
pub stopped : {Y : Type 0} (e : CheckError) (a b : List Checkpoint) (whole : Option CheckFault) (y : Y) → Stops e a
    → first_fault (a ++ b) ≡ whole → FailsAs e (unless whole y)
stopped error.OutOfMemory a b whole y stops is = tt
stopped (error.Fault f) a b whole y stops is =
    ap (λ w. unless w y) (sym is ∙ first_fault-append a b ∙ ap (λ g. or_else g (first_fault b)) stops)
