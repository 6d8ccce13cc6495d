use Rattle.std.proofs.Common.{sym, ◌∙◌, arith}
use Rattle.words.proofs.Numbering.{number_no_digit, number_too_large, number_more, number_all}
use Rattle.words.proofs.digits.number.Goals as goal

pub returns-in_err-digit : goal.returns-in_err-digit
returns-in_err-digit c =
    c.from_residual.ensures
    ∙ sym (number_no_digit c.args.base c.loop-byte.number c.loop-byte.byte-index c.args.word.now (omega arith) (sym c.digit.ensures ∙ c.in_err-digit.was))
    ∙ c.loop-byte.invariant

pub returns-in_err-number : goal.returns-in_err-number
returns-in_err-number c =
    c.from_residual-in_err-number.ensures
    ∙ sym (number_too_large c.args.base c.loop-byte.number c.loop-byte.byte-index c.in_ok-digit.field-0 c.args.word.now (omega arith)
    (sym c.digit.ensures ∙ c.in_ok-digit.was) (sym c.with_digit.ensures ∙ c.in_err-number.was))
    ∙ c.loop-byte.invariant

pub loop-byte-preserved : goal.loop-byte-preserved
loop-byte-preserved c =
    sym (number_more c.args.base c.loop-byte.number c.loop-byte.byte-index c.in_ok-digit.field-0 c.in_ok-number.number c.args.word.now (omega arith)
    (sym c.digit.ensures ∙ c.in_ok-digit.was) (sym c.with_digit.ensures ∙ c.in_ok-number.was))
    ∙ c.loop-byte.invariant

pub returns : goal.returns
returns c = sym (number_all c.args.base c.loop-byte.number c.loop-byte.byte-index c.args.word.now (omega arith)) ∙ c.loop-byte.invariant
