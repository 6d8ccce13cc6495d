-- What a kernel comes to, from what its arguments and items come to.
use Rattle.std.proofs.Common.{◌≡◌, ℕ, List, [], Option, Some, None, Ok, Err, ◌≤◌, length, arith, subst, refl, sym, ap, ◌∙◌}
use Rattle.std.specs.List.{All}
use Rattle.hsail_reader.specs.declared.module.Kernel.{Kernel}
use Rattle.kernel_check.specs.Checks.{Before, Worked, argument_checks, before_of, first_before, item_checks, labels_of, body_checks, program_of, worked}
use Rattle.kernel_check.specs.Faults.{first_fault, unless, FailsAs}
use Rattle.kernel_check.specs.inner.Laid.{Laid, laid_out}
use Rattle.kernel_check.specs.Programs.{HasItsClasses, Program, IsSound, program}
use Rattle.kernel_check.specs.declared.fault.CheckError.{CheckError}
use Rattle.kernel_check.specs.declared.fault.CheckError.TheVariants as error
use Rattle.kernel_check.specs.declared.fault.CheckFault.{CheckFault}
use Rattle.kernel_check.proofs.CheckLemmas.{passed, stopped}
use Rattle.kernel_check.proofs.SoundLemmas.{sound}

pub went_well : {X : Type 0} (f : Option CheckFault) (x y : X) → unless f x ≡ Ok y → (f ≡ None) × (x ≡ y)
went_well None x y e = (refl, cc)
went_well (Some f) x y e = cc

pub went_wrong : {X : Type 0} (w : Option CheckFault) (x : X) (f : CheckFault) → unless w x ≡ Err f → w ≡ Some f
went_wrong None x f e = cc
went_wrong (Some g) x f e = cc

-- a fault in the arguments is the kernel's
pub arguments_failed : (k : Kernel) (e : CheckError) (y : Program)
    → FailsAs e (unless (first_fault (argument_checks [] 0 k.arguments)) (laid_out k.arguments))
    → FailsAs e (unless (first_fault (body_checks k)) y)
arguments_failed k error.OutOfMemory y fails = tt
arguments_failed k (error.Fault f) y fails =
    stopped (error.Fault f) (argument_checks [] 0 k.arguments) (item_checks (labels_of k) (before_of k) k.items)
    (first_fault (body_checks k)) y (went_wrong (first_fault (argument_checks [] 0 k.arguments)) (laid_out k.arguments) f fails) refl

module _ (k : Kernel) (b : Before) (labels : List ℕ → Option ℕ) (same_before : b ≡ before_of k) (same_labels : labels ≡ labels_of k)
    (none : first_fault (argument_checks [] 0 k.arguments) ≡ None) where
  -- behind arguments without a fault the items decide
  pub items_decide : first_fault (body_checks k) ≡ first_fault (item_checks labels b k.items)
  items_decide =
      passed (argument_checks [] 0 k.arguments) (item_checks (labels_of k) (before_of k) k.items) none
      ∙ ap (λ l. first_fault (item_checks l (before_of k) k.items)) (sym same_labels)
      ∙ ap (λ c. first_fault (item_checks labels c k.items)) (sym same_before)

  pub items_failed : (e : CheckError) (y : Program)
      → FailsAs e (unless (first_fault (item_checks labels b k.items)) (worked labels b k.items))
      → FailsAs e (unless (first_fault (body_checks k)) y)
  items_failed error.OutOfMemory y fails = tt
  items_failed (error.Fault f) y fails =
      ap (λ w. unless w y) (items_decide ∙ went_wrong (first_fault (item_checks labels b k.items)) (worked labels b k.items) f fails)

  pub same_work : (w : Worked) → unless (first_fault (item_checks labels b k.items)) (worked labels b k.items) ≡ Ok w
      → w ≡ worked (labels_of k) (before_of k) k.items
  same_work w is =
      sym (went_well (first_fault (item_checks labels b k.items)) (worked labels b k.items) w is).1
      ∙ ap (λ l. worked l b k.items) same_labels ∙ ap (λ c. worked (labels_of k) c k.items) same_before

  pub none_failed : (w : Worked) → unless (first_fault (item_checks labels b k.items)) (worked labels b k.items) ≡ Ok w
      → first_fault (body_checks k) ≡ None
  none_failed w is =
      items_decide ∙ (went_well (first_fault (item_checks labels b k.items)) (worked labels b k.items) w is).0

-- the parts of a kernel are those of its program
pub same_program : (k : Kernel) (laid : Laid) (name : List ℕ) (w : Worked) → name ≡ k.name → laid_out k.arguments ≡ laid
    → w ≡ worked (labels_of k) (before_of k) k.items → program name laid.end w.group_bytes laid.wide w.steps ≡ program_of k
same_program k laid name w n l s =
    ap (λ x. program x laid.end w.group_bytes laid.wide w.steps) n
    ∙ ap (λ (x : Laid). program k.name x.end w.group_bytes x.wide w.steps) (sym l)
    ∙ ap (λ (x : Worked). program k.name (laid_out k.arguments).end x.group_bytes (laid_out k.arguments).wide x.steps) s

module _ (k : Kernel) (laid : Laid) (labels : List ℕ → Option ℕ) (w : Worked) (name : List ℕ)
    (arguments_well : unless (first_fault (argument_checks [] 0 k.arguments)) (laid_out k.arguments) ≡ Ok laid)
    (same_labels : labels ≡ labels_of k)
    (items_well : unless (first_fault (item_checks labels (first_before laid.names) k.items)) (worked labels (first_before laid.names) k.items) ≡ Ok w)
    (same_name : name ≡ k.name) where
  arguments_none : (first_fault (argument_checks [] 0 k.arguments) ≡ None) × (laid_out k.arguments ≡ laid)
  arguments_none = went_well (first_fault (argument_checks [] 0 k.arguments)) (laid_out k.arguments) laid arguments_well

  same_before : first_before laid.names ≡ before_of k
  same_before = ap (λ (l : Laid). first_before l.names) (sym arguments_none.1)

  same_items : w ≡ worked (labels_of k) (before_of k) k.items
  same_items = same_work k (first_before laid.names) labels same_before same_labels arguments_none.0 w items_well

  parts_are : program name laid.end w.group_bytes laid.wide w.steps ≡ program_of k
  parts_are = same_program k laid name w same_name arguments_none.1 same_items

  nothing_fails : first_fault (body_checks k) ≡ None
  nothing_fails = none_failed k (first_before laid.names) labels same_before same_labels arguments_none.0 w items_well

  -- the parts that were found are those of a kernel in which nothing fails
  pub done : unless (first_fault (body_checks k)) (program_of k) ≡ Ok (program name laid.end w.group_bytes laid.wide w.steps)
  done = ap (λ f. unless f (program_of k)) nothing_fails ∙ ap Ok (sym parts_are)

  -- and they are sound
  pub sound_parts : laid.end ≤ 4096 → w.group_bytes ≤ 65536 → length w.steps ≤ 4096 → All (λ s. HasItsClasses s.step) w.steps
      → IsSound (program name laid.end w.group_bytes laid.wide w.steps)
  sound_parts few_bytes few_group_bytes few_steps classes =
      subst IsSound (sym parts_are)
      (sound k (sym (items_decide k (before_of k) (labels_of k) refl refl arguments_none.0) ∙ nothing_fails)
      (omega (arith, ap (λ (l : Laid). l.end) arguments_none.1))
      (omega (arith, ap (λ (x : Worked). x.group_bytes) same_items))
      (omega (arith, ap (λ (x : Worked). length x.steps) same_items))
      (subst (λ (x : Worked). All (λ s. HasItsClasses s.step) x.steps) same_items classes))
