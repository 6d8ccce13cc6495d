use Rattle.std.proofs.Common.{[], sym, ◌∙◌, arith}
use Rattle.std.specs.Str.{bytes_eq}
use Rattle.kernel_check.specs.Programs.{Program, program}
use Rattle.kernel_check.proofs.Walks.{place_found, place_none}
use Rattle.kernel_check.proofs.checked.place_named.Goals as goal

pub returns-then-is_named-clause-place : goal.returns-then-is_named-clause-place
returns-then-is_named-clause-place c =
    sym (place_found (λ (kernel : Program). bytes_eq c.args.name.now kernel.name) c.args.kernels.now c.kernels.index c.index-kernels-index.result
    (omega arith) c.index-kernels-index.is (sym c.is_named.ensures ∙ c.if-is_named.true) c.kernels.invariant)

pub returns-clause-place : goal.returns-clause-place
returns-clause-place c =
    sym (place_none (λ (kernel : Program). bytes_eq c.args.name.now kernel.name) c.args.kernels.now (program [] 0 0 [] [])
    (λ k d h. c.kernels.invariant k d (omega arith)))
