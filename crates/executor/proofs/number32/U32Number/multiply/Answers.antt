use Rattle.std.proofs.Common.{arith}
use Rattle.std.specs.Int.{w32}
use Rattle.executor.proofs.NumberLemmas.{product_is}
use Rattle.executor.proofs.number32.U32Number.multiply.Goals as goal

pub returns : goal.returns
returns c = λ sign. product_is w32 sign c.args.a c.args.b (omega arith) (omega arith)
