-- What the next kernel comes to is put behind what those before come to.
use Rattle.std.proofs.Common.{◌∙◌, ◌++◌, ◌∷◌, [], ap, arith}
use Rattle.std.proofs.lemmas.Result.{err_from_is_err_and}
use Rattle.hobbydresser_c.specs.Kernels.{kernel_of}
use Rattle.hobbydresser_c.proofs.Rows.{passes-next, refused-next, rows-next}
use Rattle.hobbydresser_c.proofs.kernels.check_kernels.Goals as goal

pub kernels-preserved : goal.kernels-preserved
kernels-preserved c = (
  passes-next c.args.policy.now.kernels c.kernels.before c.kernels.invariant.0 c.in_ok-kernel.ensures.0,
  c.in_ok-put_kernel.ensures ∙ ap (λ xs. xs ++ c.in_ok-kernel.kernel ∷ []) c.kernels.invariant.1
      ∙ rows-next kernel_of c.args.policy.now.kernels c.kernels.before c.in_ok-kernel.kernel c.in_ok-kernel.ensures.1,
)

pub returns-in_err-kernel-clause-refused : goal.returns-in_err-kernel-clause-refused
returns-in_err-kernel-clause-refused c =
    let p = err_from_is_err_and c.from_residual.result c.from_residual.ensures.1 in
    rw (p.1, p.2) (refused-next c.args.policy.now.kernels c.kernels.before c.in_err-kernel.field-0.0 (omega arith) c.kernels.invariant.0 c.in_err-kernel.ensures)

pub returns-in_err-put_kernel-clause-refused : goal.returns-in_err-put_kernel-clause-refused
returns-in_err-put_kernel-clause-refused c =
    let p = err_from_is_err_and c.from_residual-in_err-put_kernel.result c.from_residual-in_err-put_kernel.ensures.1 in
    rw (p.1, p.2) (c.kernels.before, omega arith, c.kernels.invariant.0)
