use Rattle.std.proofs.Common.{refl, arith}
use Rattle.words.specs.declared.digits.TheConstants.{DIGITS}
use Rattle.words.proofs.Tables.{digit_some, digit_none, digit_far, digit_most}
use Rattle.words.proofs.digits.digit_value.Goals as goal

pub returns-clause-digit : goal.returns-clause-digit
returns-clause-digit c = λ small. digit_some DIGITS.now c.args.byte 0 refl refl (omega arith) small

pub returns-clause-other : goal.returns-clause-other
returns-clause-other c = λ large. (digit_far DIGITS.now c.args.byte 0 refl refl (omega arith) large, digit_none DIGITS.now c.args.byte 0 refl refl (omega arith) large)

pub returns-clause-most : goal.returns-clause-most
returns-clause-most c = digit_most DIGITS.now c.args.byte 0 refl refl (omega arith)
