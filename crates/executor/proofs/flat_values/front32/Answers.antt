use Rattle.std.proofs.Common.{◌∙◌, ap, sym}
use Rattle.std.specs.Int.{w32}
use Rattle.executor.specs.Numbers.{unsigned, sum, difference, product}
use Rattle.executor.specs.Registers.{read32}
use Rattle.executor.specs.Values.{value32}
use Rattle.kernel_check.specs.Flat.{calculated32}
use Rattle.executor.proofs.ValueLemmas.{computed_of}
use Rattle.executor.proofs.flat_values.front32.Goals as goal

pub returns-in-Add : goal.returns-in-Add
returns-in-Add c =
    let r = c.args.r.now in
    let p = c.args.pair in
    computed_of sum w32 c.add.result c.read32-left.result c.read32-right.result (read32 r p.left) (read32 r p.right)
    (c.add.ensures unsigned) c.read32-left.ensures c.read32-right.ensures ∙ ap (λ o. value32 r (calculated32 o p)) (sym c.in-Add.is)

pub returns-in-Subtract : goal.returns-in-Subtract
returns-in-Subtract c =
    let r = c.args.r.now in
    let p = c.args.pair in
    computed_of difference w32 c.subtract.result c.read32-left.result c.read32-right.result (read32 r p.left) (read32 r p.right)
    (c.subtract.ensures unsigned) c.read32-left.ensures c.read32-right.ensures ∙ ap (λ o. value32 r (calculated32 o p)) (sym c.in-Subtract.is)

pub returns-in-Multiply : goal.returns-in-Multiply
returns-in-Multiply c =
    let r = c.args.r.now in
    let p = c.args.pair in
    computed_of product w32 c.multiply.result c.read32-left.result c.read32-right.result (read32 r p.left) (read32 r p.right)
    (c.multiply.ensures unsigned) c.read32-left.ensures c.read32-right.ensures ∙ ap (λ o. value32 r (calculated32 o p)) (sym c.in-Multiply.is)
