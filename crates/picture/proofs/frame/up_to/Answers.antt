-- A list has no more than all of its items.
use Rattle.std.proofs.Common.{sym, arith}
use Rattle.std.proofs.lemmas.List.{take_all}
use Rattle.picture.proofs.frame.up_to.Goals as goal

pub returns-else-most-entries : goal.returns-else-most-entries
returns-else-most-entries c = sym (take_all c.args.most c.args.entries.now (omega arith))
