use Rattle.std.proofs.Common.{sym}
use Rattle.words.proofs.digits.digit.Goals as goal

pub returns-then-value-lt16 : goal.returns-then-value-lt16
returns-then-value-lt16 c = sym (c.digit_value-value.ensures.digit c.if-value-lt16.true)

pub returns-else-value-lt16 : goal.returns-else-value-lt16
returns-else-value-lt16 c = sym (c.digit_value-value.ensures.other c.if-value-lt16.false).1
