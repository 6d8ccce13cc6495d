use Rattle.std.proofs.Common.{◌≡◌, [], ◌∷◌, ◌+◌, drop, length, arith, ◌∙◌, ap, sym}
use Rattle.std.proofs.lemmas.List.Elements.{All-append}
use Rattle.std.proofs.lemmas.Result.{err_from_is_err_and}
use Rattle.kernel_check.specs.Checks.{before, behind, behind_all, first_before, item_check, item_checks, step_at, steps_from, worked}
use Rattle.kernel_check.specs.Faults.{first_fault}
use Rattle.kernel_check.specs.Names.{find}
use Rattle.kernel_check.specs.Programs.{HasItsClasses}
use Rattle.kernel_check.specs.declared.step.LinedStep.{LinedStep}
use Rattle.kernel_check.proofs.BodyLemmas.{item_faults_more, steps_more, last_more}
use Rattle.kernel_check.proofs.CheckLemmas.{stopped}
use Rattle.kernel_check.proofs.Walks.{at_index}
use Rattle.kernel_check.proofs.body.checked_items.Goals as goal

pub returns-in_err-group_end-clause-value : goal.returns-in_err-group_end-clause-value
returns-in_err-group_end-clause-value c =
    let p = err_from_is_err_and c.from_residual.result c.from_residual.ensures.1 in
    let items = c.args.items.now in
    let i = c.items.item-index in
    let x = c.item-item.result in
    let b = before c.items.variables c.items.group_end c.items.known (length c.items.steps.items) in
    let start = first_before c.args.variables.now in
    let labels = find c.args.labels.now in
    let at : drop i items ≡ x ∷ drop (i + 1) items = at_index items i x (omega arith) c.item-item.is in
    rw (p.1, p.2)
    (stopped c.in_err-group_end.field-0.0 (item_check labels b x ∷ []) (item_checks labels (behind b x) (drop (i + 1) items))
    (first_fault (item_checks labels start items)) (worked labels start items) c.in_err-group_end.ensures.judged
    (ap (λ r. first_fault (item_checks labels b r)) (sym at) ∙ c.items.invariant.faults))

pub items-preserved : goal.items-preserved
items-preserved c =
    let items = c.args.items.now in
    let i = c.items.item-index in
    let x = c.item-item.result in
    let b = before c.items.variables c.items.group_end c.items.known (length c.items.steps.items) in
    let next = before c.judge_item.new.variables c.in_ok-group_end.group_end c.judge_item.new.known (length c.judge_item.new.steps.items) in
    let start = first_before c.args.variables.now in
    let labels = find c.args.labels.now in
    let tail = drop (i + 1) items in
    let at : drop i items ≡ x ∷ tail = at_index items i x (omega arith) c.item-item.is in
    let now = c.in_ok-group_end.ensures in
    let old = c.items.invariant in
    record {
      faults = item_faults_more labels b next x (drop i items) tail at now.behind (first_fault (item_checks labels start items)) now.judged old.faults;
      steps =
          steps_more labels b next x (drop i items) tail at now.behind (steps_from labels start items) c.items.steps.items
          c.judge_item.new.steps.items now.steps old.steps;
      last = last_more labels b next x (drop i items) tail at now.behind (behind_all start items) old.last;
      classes = rw now.steps (All-append (λ (s : LinedStep). HasItsClasses s.step) c.items.steps.items (step_at labels b x) old.classes now.classes);
      room = now.room;
      bound = now.bound;
    }
