use Rattle.std.proofs.Common.{◌≡◌, [], ◌∷◌, ◌+◌, ◌++◌, drop, length, map, arith, ◌∙◌, ap, sym}
use Rattle.std.proofs.lemmas.Result.{err_from_is_err_and}
use Rattle.kernel_check.specs.Checks.{kernel_checks, module_checks, program_of}
use Rattle.std.proofs.lemmas.List.Elements.{All-push}
use Rattle.kernel_check.specs.Faults.{first_fault}
use Rattle.kernel_check.specs.Programs.{IsSound}
use Rattle.kernel_check.proofs.CheckLemmas.{stopped}
use Rattle.kernel_check.proofs.ModuleLemmas.{kernel_faults_more, programs_more, length_push}
use Rattle.kernel_check.proofs.Walks.{at_index}
use Rattle.kernel_check.proofs.checking.check.Goals as goal

pub returns-in_err-judge_kernel : goal.returns-in_err-judge_kernel
returns-in_err-judge_kernel c =
    let p = err_from_is_err_and c.from_residual.result c.from_residual.ensures.1 in
    let kernels = c.as_slice-kernel-items.result.now in
    let i = c.kernels.kernel-index in
    let k = c.kernel-item.result in
    let before = c.kernels.before in
    let at : drop i kernels ≡ k ∷ drop (i + 1) kernels = at_index kernels i k (omega arith) c.kernel-item.is in
    let is = c.as_slice-kernel-items.ensures in
    rw (p.1, p.2)
    (stopped c.in_err-judge_kernel.field-0.0 (kernel_checks before k)
    (module_checks (before ++ (k.name, length before) ∷ []) (drop (i + 1) kernels))
    (first_fault (module_checks [] c.args.source.now.kernels)) (map program_of c.args.source.now.kernels) c.in_err-judge_kernel.ensures.judged
    (ap (λ r. first_fault (module_checks before r)) (sym at) ∙ c.kernels.invariant.faults ∙ ap (λ r. first_fault (module_checks [] r)) is))

pub kernels-preserved : goal.kernels-preserved
kernels-preserved c =
    let kernels = c.as_slice-kernel-items.result.now in
    let i = c.kernels.kernel-index in
    let k = c.kernel-item.result in
    let tail = drop (i + 1) kernels in
    let at : drop i kernels ≡ k ∷ tail = at_index kernels i k (omega arith) c.kernel-item.is in
    let old = c.kernels.invariant in
    let now = c.in_ok-judge_kernel.ensures in
    let more : length c.judge_kernel.new.before ≡ length c.kernels.before + 1 =
    length_push c.kernels.before c.judge_kernel.new.before (k.name, length c.kernels.before) now.names in
    let grown : length c.judge_kernel.new.kernels.items ≡ length c.kernels.programs.items + 1 =
    length_push c.kernels.programs.items c.judge_kernel.new.kernels.items (program_of k) now.kernels in
    record {
      faults = kernel_faults_more (first_fault (module_checks [] kernels)) c.kernels.before c.judge_kernel.new.before k (drop i kernels) tail at now.names now.judged old.faults;
      programs = programs_more (map program_of kernels) c.kernels.programs.items c.judge_kernel.new.kernels.items k (drop i kernels) tail at now.kernels old.programs;
      same = omega (arith, more, grown, old.same);
      room = omega (arith, grown, old.same, now.room);
      sound = rw now.kernels (All-push IsSound c.kernels.programs.items (program_of k) old.sound now.sound);
    }
