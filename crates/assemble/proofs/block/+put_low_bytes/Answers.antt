use Rattle.std.proofs.Common.{rules, append_assoc, arith}
use Rattle.std.proofs.lemmas.Result.{IfOk-equal}
use Rattle.assemble.proofs.Blocks.{low_bytes_none, low_bytes_more}
use Rattle.assemble.proofs.block.+put_low_bytes.Goals as goal

pub returns-then-count-eq0 : goal.returns-then-count-eq0
returns-then-count-eq0 t c = rw (low_bytes_none c.args.count c.args.number (omega arith)) (search rules)

pub returns : goal.returns
returns t c = rw (low_bytes_more c.args.count c.args.number (omega arith)) (search (rules, IfOk-equal, append_assoc))
