use Rattle.std.proofs.Common.{◌∙◌, ap, sym}
use Rattle.std.specs.Int.{w64}
use Rattle.executor.specs.Numbers.{unsigned, sum, difference, product}
use Rattle.executor.specs.Registers.{read64}
use Rattle.executor.specs.Values.{value64}
use Rattle.executor.proofs.ValueLemmas.{computed_of, product_of}
use Rattle.executor.proofs.values.value64.Goals as goal

pub returns-in-Add : goal.returns-in-Add
returns-in-Add c =
    let r = c.args.r.now in
    let p = c.in-Add.p in
    computed_of sum w64 c.add.result c.read64-in-Add.result c.read64-in-Add-2.result (read64 r p.left) (read64 r p.right)
    (c.add.ensures unsigned) c.read64-in-Add.ensures c.read64-in-Add-2.ensures ∙ ap (value64 r) (sym c.in-Add.is)

pub returns-in-Subtract : goal.returns-in-Subtract
returns-in-Subtract c =
    let r = c.args.r.now in
    let p = c.in-Subtract.p in
    computed_of difference w64 c.subtract.result c.read64-in-Subtract.result c.read64-in-Subtract-2.result (read64 r p.left) (read64 r p.right)
    (c.subtract.ensures unsigned) c.read64-in-Subtract.ensures c.read64-in-Subtract-2.ensures ∙ ap (value64 r) (sym c.in-Subtract.is)

pub returns-in-Multiply : goal.returns-in-Multiply
returns-in-Multiply c =
    let r = c.args.r.now in
    let p = c.in-Multiply.p in
    computed_of product w64 c.multiply.result c.read64-in-Multiply.result c.read64-in-Multiply-2.result (read64 r p.left) (read64 r p.right)
    (c.multiply.ensures unsigned) c.read64-in-Multiply.ensures c.read64-in-Multiply-2.ensures ∙ ap (value64 r) (sym c.in-Multiply.is)

pub returns-in-MultiplyAdd : goal.returns-in-MultiplyAdd
returns-in-MultiplyAdd c =
    let r = c.args.r.now in
    let t = c.in-MultiplyAdd.t in
    product_of w64 c.multiply_add.result c.read64-in-MultiplyAdd.result c.read64-in-MultiplyAdd-2.result c.read64-in-MultiplyAdd-3.result
    (read64 r t.first) (read64 r t.second) (read64 r t.third)
    (c.multiply_add.ensures unsigned) c.read64-in-MultiplyAdd.ensures c.read64-in-MultiplyAdd-2.ensures c.read64-in-MultiplyAdd-3.ensures
    ∙ ap (value64 r) (sym c.in-MultiplyAdd.is)
