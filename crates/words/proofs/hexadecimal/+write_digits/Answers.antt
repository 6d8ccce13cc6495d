use Rattle.std.proofs.Common.{rules, append_assoc, arith}
use Rattle.std.proofs.lemmas.Result.{IfOk-equal}
use Rattle.words.proofs.Writing.{hex_digits_none, hex_digits_more}
use Rattle.words.proofs.hexadecimal.+write_digits.Goals as goal

pub returns-then-count-eq0 : goal.returns-then-count-eq0
returns-then-count-eq0 t c = rw (hex_digits_none c.args.count c.args.number (omega arith)) (search rules)

pub returns : goal.returns
returns t c = rw (hex_digits_more c.args.count c.args.number (omega arith)) (search (rules, IfOk-equal, append_assoc))
