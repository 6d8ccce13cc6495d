use Rattle.std.proofs.Common.{arith}
use Rattle.std.specs.Int.{w64}
use Rattle.executor.proofs.NumberLemmas.{product_sum_is}
use Rattle.executor.proofs.number64.U64Number.multiply_add.Goals as goal

pub returns : goal.returns
returns c = λ sign. product_sum_is w64 sign c.args.a c.args.b c.args.c (omega arith) (omega arith) (omega arith)
