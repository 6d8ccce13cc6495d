use Rattle.std.proofs.Common.{◌≡◌, [], ◌∷◌, ◌+◌, ◌++◌, drop, arith, ◌∙◌, ap, sym}
use Rattle.std.proofs.lemmas.Result.{err_from_is_err_and}
use Rattle.kernel_check.specs.Checks.{argument_check, argument_checks}
use Rattle.kernel_check.specs.Faults.{first_fault}
use Rattle.kernel_check.specs.Layout.{placed_at, end_behind, placed_from, end_from, wide_from}
use Rattle.kernel_check.specs.inner.Laid.{laid_out}
use Rattle.kernel_check.proofs.BlockLemmas.{faults_more, names_more, wide_more, end_more}
use Rattle.kernel_check.proofs.CheckLemmas.{stopped}
use Rattle.kernel_check.proofs.Walks.{at_index}
use Rattle.kernel_check.proofs.kernarg.place_arguments.Goals as goal

pub returns-in_err-end-clause-value : goal.returns-in_err-end-clause-value
returns-in_err-end-clause-value c =
    let p = err_from_is_err_and c.from_residual.result c.from_residual.ensures.1 in
    let args = c.args.arguments.now in
    let i = c.arguments.argument-index in
    let a = c.argument-item.result in
    let names = c.arguments.names in
    let e = c.arguments.end in
    let at : drop i args ≡ a ∷ drop (i + 1) args = at_index args i a (omega arith) c.argument-item.is in
    rw (p.1, p.2)
    (stopped c.in_err-end.field-0.0 (argument_check names e a ∷ [])
    (argument_checks (names ++ (a.name, placed_at e a) ∷ []) (end_behind e a) (drop (i + 1) args))
    (first_fault (argument_checks [] 0 args)) (laid_out args) c.in_err-end.ensures.judged
    (ap (λ r. first_fault (argument_checks names e r)) (sym at) ∙ c.arguments.invariant.faults))

pub arguments-preserved : goal.arguments-preserved
arguments-preserved c =
    let args = c.args.arguments.now in
    let i = c.arguments.argument-index in
    let a = c.argument-item.result in
    let e = c.arguments.end in
    let m = c.in_ok-end.end in
    let tail = drop (i + 1) args in
    let at : drop i args ≡ a ∷ tail = at_index args i a (omega arith) c.argument-item.is in
    let old = c.arguments.invariant in
    let now = c.in_ok-end.ensures in
    record {
      faults =
          faults_more (first_fault (argument_checks [] 0 args)) c.arguments.names c.judge_argument.new.names e m a (drop i args) tail
          at now.names now.end now.judged old.faults;
      names = names_more (placed_from 0 args) c.arguments.names c.judge_argument.new.names e m a (drop i args) tail at now.names now.end old.names;
      wide =
          wide_more (wide_from 0 args) c.arguments.offsets.items c.judge_argument.new.offsets.items e m a (drop i args) tail
          at now.wide now.end old.wide;
      end = end_more (end_from 0 args) e m a (drop i args) tail at now.end old.end;
      bound = now.bound;
    }
