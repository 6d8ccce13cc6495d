use Rattle.std.proofs.Common.{◌∙◌, ap, sym}
use Rattle.std.specs.Int.{w64}
use Rattle.executor.specs.Numbers.{unsigned, sum, difference, product}
use Rattle.executor.specs.Registers.{read64}
use Rattle.executor.specs.Values.{value64}
use Rattle.kernel_check.specs.Flat.{calculated64}
use Rattle.executor.proofs.ValueLemmas.{computed_of}
use Rattle.executor.proofs.flat_values.front64.Goals as goal

pub returns-in-Add : goal.returns-in-Add
returns-in-Add c =
    let r = c.args.r.now in
    let p = c.args.pair in
    computed_of sum w64 c.add.result c.read64-left.result c.read64-right.result (read64 r p.left) (read64 r p.right)
    (c.add.ensures unsigned) c.read64-left.ensures c.read64-right.ensures ∙ ap (λ o. value64 r (calculated64 o p)) (sym c.in-Add.is)

pub returns-in-Subtract : goal.returns-in-Subtract
returns-in-Subtract c =
    let r = c.args.r.now in
    let p = c.args.pair in
    computed_of difference w64 c.subtract.result c.read64-left.result c.read64-right.result (read64 r p.left) (read64 r p.right)
    (c.subtract.ensures unsigned) c.read64-left.ensures c.read64-right.ensures ∙ ap (λ o. value64 r (calculated64 o p)) (sym c.in-Subtract.is)

pub returns-in-Multiply : goal.returns-in-Multiply
returns-in-Multiply c =
    let r = c.args.r.now in
    let p = c.args.pair in
    computed_of product w64 c.multiply.result c.read64-left.result c.read64-right.result (read64 r p.left) (read64 r p.right)
    (c.multiply.ensures unsigned) c.read64-left.ensures c.read64-right.ensures ∙ ap (λ o. value64 r (calculated64 o p)) (sym c.in-Multiply.is)
