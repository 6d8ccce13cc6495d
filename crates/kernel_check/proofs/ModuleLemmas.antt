-- One kernel more.
use Rattle.std.proofs.Common.{◌≡◌, ℕ, ◌+◌, List, [], ◌∷◌, ◌++◌, length, length-append, map, Option, None, append_assoc, sym, ap, ◌∙◌}
use Rattle.hsail_reader.specs.declared.module.Kernel.{Kernel}
use Rattle.kernel_check.specs.Checks.{kernel_checks, module_checks, program_of}
use Rattle.kernel_check.specs.Faults.{first_fault}
use Rattle.kernel_check.specs.Names.{Known}
use Rattle.kernel_check.specs.Programs.{Program}
use Rattle.kernel_check.specs.declared.fault.CheckFault.{CheckFault}
use Rattle.kernel_check.proofs.CheckLemmas.{passed}

pub kernel_faults_more : (whole : Option CheckFault) (before new : Known ℕ) (k : Kernel) (rest tail : List Kernel)
    → rest ≡ k ∷ tail → new ≡ before ++ (k.name, length before) ∷ [] → first_fault (kernel_checks before k) ≡ None
    → first_fault (module_checks before rest) ≡ whole → first_fault (module_checks new tail) ≡ whole
kernel_faults_more whole before new k rest tail at is none old =
    ap (λ ns. first_fault (module_checks ns tail)) is
    ∙ sym (passed (kernel_checks before k) (module_checks (before ++ (k.name, length before) ∷ []) tail) none)
    ∙ ap (λ r. first_fault (module_checks before r)) (sym at) ∙ old

pub programs_more : (whole programs new : List Program) (k : Kernel) (rest tail : List Kernel)
    → rest ≡ k ∷ tail → new ≡ programs ++ program_of k ∷ []
    → programs ++ map program_of rest ≡ whole → new ++ map program_of tail ≡ whole
programs_more whole programs new k rest tail at is old =
    ap (λ ps. ps ++ map program_of tail) is
    ∙ append_assoc programs (program_of k ∷ []) (map program_of tail)
    ∙ ap (λ r. programs ++ map program_of r) (sym at) ∙ old

pub length_push : {X : Type 0} (xs ys : List X) (x : X) → ys ≡ xs ++ x ∷ [] → length ys ≡ length xs + 1
length_push xs ys x is = ap length is ∙ simp length-append
