-- One item more in its place.
use Rattle.std.proofs.Common.{◌≡◌, ℕ, List, [], ◌∷◌, ◌++◌, Option, None, append_assoc, sym, ap, ◌∙◌}
use Rattle.hsail_reader.specs.declared.module.Item.{Item}
use Rattle.kernel_check.specs.Checks.{Before, behind, behind_all, item_check, item_checks, step_at, steps_from}
use Rattle.kernel_check.specs.Faults.{first_fault}
use Rattle.kernel_check.specs.declared.fault.CheckFault.{CheckFault}
use Rattle.kernel_check.specs.declared.step.LinedStep.{LinedStep}
use Rattle.kernel_check.proofs.CheckLemmas.{passed}

module _ (labels : List ℕ → Option ℕ) (b now : Before) (x : Item) (rest tail : List Item) (at : rest ≡ x ∷ tail) (is : now ≡ behind b x) where
  pub item_faults_more : (whole : Option CheckFault) → first_fault (item_check labels b x ∷ []) ≡ None
      → first_fault (item_checks labels b rest) ≡ whole → first_fault (item_checks labels now tail) ≡ whole
  item_faults_more whole none old =
      ap (λ n. first_fault (item_checks labels n tail)) is
      ∙ sym (passed (item_check labels b x ∷ []) (item_checks labels (behind b x) tail) none)
      ∙ ap (λ r. first_fault (item_checks labels b r)) (sym at) ∙ old

  pub steps_more : (whole steps new : List LinedStep) → new ≡ steps ++ step_at labels b x
      → steps ++ steps_from labels b rest ≡ whole → new ++ steps_from labels now tail ≡ whole
  steps_more whole steps new added old =
      ap (λ ns. ns ++ steps_from labels now tail) added
      ∙ ap (λ n. (steps ++ step_at labels b x) ++ steps_from labels n tail) is
      ∙ append_assoc steps (step_at labels b x) (steps_from labels (behind b x) tail)
      ∙ ap (λ r. steps ++ steps_from labels b r) (sym at) ∙ old

  pub last_more : (whole : Before) → behind_all b rest ≡ whole → behind_all now tail ≡ whole
  last_more whole old = ap (λ n. behind_all n tail) is ∙ ap (behind_all b) (sym at) ∙ old
