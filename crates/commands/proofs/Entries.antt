-- The entry of a source is that of a kernel just where its module has one of the name.
use Rattle.std.proofs.Common.{◌≡◌, ℕ, ◌==◌, List, map, length, refl, ap, ◌∙◌, true, not, Option, Some, None, arith, eq-eqb}
use Rattle.std.proofs.lemmas.Bool.Decides.{nat_tests}
use Rattle.std.specs.Prelude.{position, is_some}
use Rattle.std.specs.Str.{bytes_eq}
use Rattle.std.proofs.lemmas.List.{length-map}
use Rattle.std.proofs.lemmas.List.Quantifiers.{position-Some}
use Rattle.access_core.specs.Opening.{fault_behind, first_missing, has_entry, is_index, open_fault}
use Rattle.core_model.specs.Kernels.{no_kernel}
use Rattle.kernel_check.specs.Programs.{Program}
use Rattle.policy.specs.Policy.{Declared, Name, Source}
use Rattle.policy.proofs.NameLemmas.{position-map}
use Rattle.commands.specs.Kernels.{entry_in, first_without_entry, has_its_entry, kernel_of, programs_in}

entry-there : (programs : List Program) (entry : List ℕ) → is_index programs (entry_in programs entry) ≡ is_some (entry_in programs entry)
entry-there programs entry = by_place (entry_in programs entry) refl
  where
    by_place : (o : Option ℕ) → entry_in programs entry ≡ o → is_index programs o ≡ is_some o
    by_place None none = refl
    by_place (Some i) found = let below = (position-Some (λ kernel. bytes_eq entry kernel.name) programs i no_kernel found).0 in grind (arith, nat_tests, below)

-- a source's kernel has an entry just where its module has one of the name
has-entry : (source : Source) → has_entry (kernel_of source) ≡ has_its_entry source
has-entry source = entry-there (programs_in source.text) source.entry

first-missing : (rows : List (Name × Source)) → first_missing (map (λ row. kernel_of row.1) rows) ≡ first_without_entry rows
first-missing rows =
    position-map (λ kernel. not (has_entry kernel)) (λ (row : Name × Source). kernel_of row.1) rows
    ∙ ap (λ test. position test rows) (let same : (λ (row : Name × Source). not (has_entry (kernel_of row.1))) ≡ (λ row. not (has_its_entry row.1)) = λ i. λ row. not (has-entry row.1 i) in same)

pub opening-fault : (policy : Declared) (capacity : ℕ) → open_fault policy (map (λ row. kernel_of row.1) policy.kernels) capacity ≡ fault_behind capacity (first_without_entry policy.kernels)
opening-fault policy capacity = by_count refl
  where
    same_count : length (map (λ (row : Name × Source). kernel_of row.1) policy.kernels) ≡ length policy.kernels
    same_count = length-map policy.kernels (λ (row : Name × Source). kernel_of row.1)

    by_count : length policy.kernels ≡ length policy.kernels → open_fault policy (map (λ row. kernel_of row.1) policy.kernels) capacity ≡ fault_behind capacity (first_without_entry policy.kernels)
    by_count _ =
        let one : (length (map (λ (row : Name × Source). kernel_of row.1) policy.kernels) == length policy.kernels) ≡ true = eq-eqb (length (map (λ (row : Name × Source). kernel_of row.1) policy.kernels)) (length policy.kernels) same_count in
        rw one (ap (fault_behind capacity) (first-missing policy.kernels))
