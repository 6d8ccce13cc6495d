use Rattle.std.proofs.Common.{◌≡◌, List, [], Ok, sym, ap, subst, ◌∙◌}
use Rattle.std.proofs.lemmas.Result.{err_from_is_err_and}
use Rattle.hsail_reader.specs.declared.module.Argument.{Argument}
use Rattle.hsail_reader.specs.declared.module.Item.{Item}
use Rattle.kernel_check.specs.Checks.{argument_checks, first_before, item_checks, labels_from, program_of, worked}
use Rattle.kernel_check.specs.inner.Bodies.{body_worked}
use Rattle.kernel_check.specs.Faults.{first_fault, unless, FailsAs}
use Rattle.kernel_check.specs.inner.Laid.{Laid, laid_out, kernarg_laid}
use Rattle.kernel_check.specs.Names.{find}
use Rattle.kernel_check.specs.Programs.{IsSound, program}
use Rattle.kernel_check.specs.declared.step.LinedStep.{LinedStep}
use Rattle.kernel_check.proofs.DoneLemmas.{went_well, arguments_failed, items_failed, sound_parts, done}
use Rattle.kernel_check.proofs.checking.checked_body.Goals as goal

pub returns-in_err-block : goal.returns-in_err-block
returns-in_err-block c =
    let p = err_from_is_err_and c.from_residual.result c.from_residual.ensures.1 in
    let e = c.in_err-block.field-0.0 in
    let k = c.args.kernel.now in
    rw (p.1, p.2)
    (arguments_failed k e (program_of k)
    (subst (λ (args : List Argument). FailsAs e (unless (first_fault (argument_checks [] 0 args)) (laid_out args))) c.as_slice-arguments.ensures
    c.in_err-block.ensures.value))

pub returns-in_err-body : goal.returns-in_err-body
returns-in_err-body c =
    let p = err_from_is_err_and c.from_residual-in_err-body.result c.from_residual-in_err-body.ensures.1 in
    let k = c.args.kernel.now in
    let e = c.in_err-body.field-0.0 in
    let b = first_before c.in_ok-block.block.names in
    let labels = find c.in_ok-labels.labels in
    let laid = subst (λ (args : List Argument). unless (first_fault (argument_checks [] 0 args)) (laid_out args) ≡ Ok (kernarg_laid c.in_ok-block.block))
    c.as_slice-arguments.ensures c.in_ok-block.ensures.value in
    let w = went_well (first_fault (argument_checks [] 0 k.arguments)) (laid_out k.arguments) (kernarg_laid c.in_ok-block.block) laid in
    rw (p.1, p.2)
    (items_failed k b labels (ap (λ (l : Laid). first_before l.names) (sym w.1))
    (subst (λ (items : List Item). labels ≡ find (labels_from 0 items)) c.as_slice-items.ensures c.in_ok-labels.ensures) w.0 e (program_of k)
    (subst (λ (items : List Item). FailsAs e (unless (first_fault (item_checks labels b items)) (worked labels b items)))
    c.as_slice-items.ensures c.in_err-body.ensures.value))

pub new-requires : goal.new-requires
new-requires c =
    let k = c.args.kernel.now in
    let b = first_before c.in_ok-block.block.names in
    let labels = find c.in_ok-labels.labels in
    let body = body_worked c.in_ok-body.body in
    subst (λ (xs : List LinedStep). IsSound (program c.in_ok-name.name c.in_ok-block.block.end c.in_ok-body.body.group_bytes c.in_ok-block.block.wide.items xs))
    (sym c.as_slice-lined.ensures.value)
    (sound_parts k (kernarg_laid c.in_ok-block.block) labels body c.in_ok-name.name
    (subst (λ (args : List Argument). unless (first_fault (argument_checks [] 0 args)) (laid_out args) ≡ Ok (kernarg_laid c.in_ok-block.block))
    c.as_slice-arguments.ensures c.in_ok-block.ensures.value)
    (subst (λ (items : List Item). labels ≡ find (labels_from 0 items)) c.as_slice-items.ensures c.in_ok-labels.ensures)
    (subst (λ (items : List Item). unless (first_fault (item_checks labels b items)) (worked labels b items) ≡ Ok body)
    c.as_slice-items.ensures c.in_ok-body.ensures.value)
    c.in_ok-name.ensures c.in_ok-block.ensures.bound c.in_ok-body.ensures.bound c.in_ok-body.ensures.room c.in_ok-body.ensures.classes)

pub returns : goal.returns
returns c =
    let k = c.args.kernel.now in
    let b = first_before c.in_ok-block.block.names in
    let labels = find c.in_ok-labels.labels in
    let body = body_worked c.in_ok-body.body in
    done k (kernarg_laid c.in_ok-block.block) labels body c.in_ok-name.name
    (subst (λ (args : List Argument). unless (first_fault (argument_checks [] 0 args)) (laid_out args) ≡ Ok (kernarg_laid c.in_ok-block.block))
    c.as_slice-arguments.ensures c.in_ok-block.ensures.value)
    (subst (λ (items : List Item). labels ≡ find (labels_from 0 items)) c.as_slice-items.ensures c.in_ok-labels.ensures)
    (subst (λ (items : List Item). unless (first_fault (item_checks labels b items)) (worked labels b items) ≡ Ok body)
    c.as_slice-items.ensures c.in_ok-body.ensures.value)
    c.in_ok-name.ensures
    ∙ ap (λ (xs : List LinedStep). Ok (program c.in_ok-name.name c.in_ok-block.block.end c.in_ok-body.body.group_bytes c.in_ok-block.block.wide.items xs))
    (sym c.as_slice-lined.ensures.value)
    ∙ ap Ok (sym c.in_ok-program.ensures)
