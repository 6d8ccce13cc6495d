use Rattle.std.proofs.Common.{◌∙◌, ap, sym}
use Rattle.std.specs.Int.{w32}
use Rattle.executor.specs.Numbers.{unsigned, sum, difference, product}
use Rattle.executor.specs.Registers.{read32}
use Rattle.executor.specs.Values.{value32}
use Rattle.executor.proofs.ValueLemmas.{computed_of, product_of}
use Rattle.executor.proofs.values.value32.Goals as goal

pub returns-in-Add : goal.returns-in-Add
returns-in-Add c =
    let r = c.args.r.now in
    let p = c.in-Add.p in
    computed_of sum w32 c.add.result c.read32-in-Add.result c.read32-in-Add-2.result (read32 r p.left) (read32 r p.right)
    (c.add.ensures unsigned) c.read32-in-Add.ensures c.read32-in-Add-2.ensures ∙ ap (value32 r) (sym c.in-Add.is)

pub returns-in-Subtract : goal.returns-in-Subtract
returns-in-Subtract c =
    let r = c.args.r.now in
    let p = c.in-Subtract.p in
    computed_of difference w32 c.subtract.result c.read32-in-Subtract.result c.read32-in-Subtract-2.result (read32 r p.left) (read32 r p.right)
    (c.subtract.ensures unsigned) c.read32-in-Subtract.ensures c.read32-in-Subtract-2.ensures ∙ ap (value32 r) (sym c.in-Subtract.is)

pub returns-in-Multiply : goal.returns-in-Multiply
returns-in-Multiply c =
    let r = c.args.r.now in
    let p = c.in-Multiply.p in
    computed_of product w32 c.multiply.result c.read32-in-Multiply.result c.read32-in-Multiply-2.result (read32 r p.left) (read32 r p.right)
    (c.multiply.ensures unsigned) c.read32-in-Multiply.ensures c.read32-in-Multiply-2.ensures ∙ ap (value32 r) (sym c.in-Multiply.is)

pub returns-in-MultiplyAdd : goal.returns-in-MultiplyAdd
returns-in-MultiplyAdd c =
    let r = c.args.r.now in
    let t = c.in-MultiplyAdd.t in
    product_of w32 c.multiply_add.result c.read32-in-MultiplyAdd.result c.read32-in-MultiplyAdd-2.result c.read32-in-MultiplyAdd-3.result
    (read32 r t.first) (read32 r t.second) (read32 r t.third)
    (c.multiply_add.ensures unsigned) c.read32-in-MultiplyAdd.ensures c.read32-in-MultiplyAdd-2.ensures c.read32-in-MultiplyAdd-3.ensures
    ∙ ap (value32 r) (sym c.in-MultiplyAdd.is)
