use Rattle.std.proofs.Common.{◌∙◌, ap, Err}
use Rattle.packed_journal.proofs.JournalForms.{cut_within, other_byte, same_byte, stood}
use Rattle.packed_journal.proofs.heads.+rest_behind.Goals as goal

pub returns-in-None : goal.returns-in-None
returns-in-None n c = stood c.args.wanted.now c.args.bytes.now c.in-None.ensures.cases

pub returns-in-None-split_first : goal.returns-in-None-split_first
returns-in-None-split_first n c = cut_within c.args.wanted.now c.args.bytes.now c.in-Some.more.now c.in-Some.byte.now c.in-Some.ensures.cases.0 c.in-None-split_first.ensures.cases

pub returns-then-byte-other : goal.returns-then-byte-other
returns-then-byte-other n c =
    same_byte c.args.wanted.now c.args.bytes.now c.in-Some.more.now c.in-Some-split_first.rest.now c.in-Some.byte.now c.in-Some-split_first.other.now _
    c.in-Some.ensures.cases.0 c.in-Some-split_first.ensures.cases.0 c.if-byte-other.true c.rest_behind.ensures

pub returns-else-byte-other : goal.returns-else-byte-other
returns-else-byte-other n c =
    ap Err c.wrong.ensures ∙ other_byte c.args.wanted.now c.args.bytes.now c.in-Some.more.now c.in-Some-split_first.rest.now c.in-Some.byte.now c.in-Some-split_first.other.now
    c.in-Some.ensures.cases.0 c.in-Some-split_first.ensures.cases.0 c.if-byte-other.false
