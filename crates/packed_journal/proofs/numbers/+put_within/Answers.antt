use Rattle.std.proofs.Common.{arith}
use Rattle.packed_journal.proofs.Written.{wrote_none, wrote_last, wrote_more}
use Rattle.packed_journal.proofs.numbers.+put_within.Goals as goal

pub returns-then-more-eq0-clause-items : goal.returns-then-more-eq0-clause-items
returns-then-more-eq0-clause-items t c = wrote_none c.args.out.now.items c.args.more c.args.number c.if-more-eq0.true

pub returns-then-number-lt128-clause-items : goal.returns-then-number-lt128-clause-items
returns-then-number-lt128-clause-items t c =
    wrote_last c.args.out.now.items c.push_reserved.new.self.items c.args.more c.args.number (omega arith) (omega arith) c.push_reserved.ensures.items

pub returns-clause-items : goal.returns-clause-items
returns-clause-items t c =
    wrote_more c.args.out.now.items c.push_reserved-2.new.self.items c.put_within.new.out.items c.args.more c.args.number (omega arith) (omega arith)
    c.push_reserved-2.ensures.items c.put_within.ensures.items
