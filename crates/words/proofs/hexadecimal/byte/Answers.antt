use Rattle.std.proofs.Common.{sym}
use Rattle.words.proofs.Tables.{byte_some, byte_none}
use Rattle.words.proofs.hexadecimal.byte.Goals as goal

pub returns-then-both-lt256 : goal.returns-then-both-lt256
returns-then-both-lt256 c =
    sym (byte_some c.args.high c.args.low c.digit_value.result c.digit_value-2.result c.digit_value.ensures.digit c.digit_value.ensures.other
    c.digit_value-2.ensures.digit c.digit_value-2.ensures.other c.if-both-lt256.true)

pub returns-else-both-lt256 : goal.returns-else-both-lt256
returns-else-both-lt256 c =
    sym (byte_none c.args.high c.args.low c.digit_value.result c.digit_value-2.result c.digit_value.ensures.other c.digit_value-2.ensures.other c.if-both-lt256.false)
