use Rattle.std.proofs.Common.{arith}
use Rattle.std.specs.Int.{w32}
use Rattle.executor.proofs.NumberLemmas.{product_sum_is}
use Rattle.executor.proofs.number32.U32Number.multiply_add.Goals as goal

pub returns : goal.returns
returns c = λ sign. product_sum_is w32 sign c.args.a c.args.b c.args.c (omega arith) (omega arith) (omega arith)
