use Rattle.std.proofs.Common.{Some, sym, ap, ◌∙◌, refl, rules, arith}
use Rattle.std.specs.Prelude.{option_and_then}
use Rattle.words.specs.Numbers.{first_decimal, with_digit}
use Rattle.words.proofs.Leading.{one_more, decimal_bad, decimal_found, decimal_whole}
use Rattle.words.proofs.Numbering.{number_end}
use Rattle.words.proofs.Splitting.{all_word, no_bytes, words_more}
use Rattle.words.proofs.numbers.split_decimal.Goals as goal

pub returns-then-is_empty : goal.returns-then-is_empty
returns-then-is_empty c =
    sym (ap first_decimal (sym c.skip_blanks-text.ensures.words ∙ no_bytes c.skip_blanks-text.result.now (search rules)))

pub loop-index-init : goal.loop-index-init
loop-index-init c = (refl, number_end 10 0)

pub loop-index-preserved : goal.loop-index-preserved
loop-index-preserved c =
    let text = c.skip_blanks-text.result.now in (
      words_more text c.loop-index.index (omega arith) (search rules) ∙ c.loop-index.invariant.0,
      one_more text c.loop-index.index c.loop-index.number (Some c.in_ok-number.number) (omega arith) c.loop-index.invariant.1
          (ap (option_and_then (with_digit 10 c.loop-index.number)) (sym c.digit.ensures ∙ c.in_ok-digit.was) ∙ sym c.with_digit.ensures ∙ c.in_ok-number.was),
    )

pub returns-in_err-digit : goal.returns-in_err-digit
returns-in_err-digit c =
    rw c.from_residual.ensures
    (sym (decimal_bad c.skip_blanks-text.result.now c.loop-index.index c.loop-index.number (omega arith) (search rules)
    (sym c.skip_blanks-text.ensures.words ∙ sym c.loop-index.invariant.0) c.loop-index.invariant.1
    (ap (option_and_then (with_digit 10 c.loop-index.number)) (sym c.digit.ensures ∙ c.in_err-digit.was))))

pub returns-in_err-number : goal.returns-in_err-number
returns-in_err-number c =
    rw c.from_residual-in_err-number.ensures
    (sym (decimal_bad c.skip_blanks-text.result.now c.loop-index.index c.loop-index.number (omega arith) (search rules)
    (sym c.skip_blanks-text.ensures.words ∙ sym c.loop-index.invariant.0) c.loop-index.invariant.1
    (ap (option_and_then (with_digit 10 c.loop-index.number)) (sym c.digit.ensures ∙ c.in_ok-digit.was) ∙ sym c.with_digit.ensures ∙ c.in_err-number.was)))

pub returns-then-is_blank : goal.returns-then-is_blank
returns-then-is_blank c =
    decimal_found c.skip_blanks-text.result.now c.loop-index.index c.loop-index.number c.split_at.result.1.now (omega arith)
    (sym c.is_blank.ensures ∙ c.if-is_blank.true) (c.skip_blanks-text.ensures.begins (omega arith))
    (sym c.skip_blanks-text.ensures.words ∙ sym c.loop-index.invariant.0) c.loop-index.invariant.1 c.split_at.ensures.back

pub returns : goal.returns
returns c =
    let text = c.skip_blanks-text.result.now in
    decimal_whole text c.loop-index.index c.loop-index.number
    (all_word text c.loop-index.index (sym c.skip_blanks-text.ensures.words ∙ sym c.loop-index.invariant.0) (omega arith) (search rules))
    (omega arith) (search rules) c.loop-index.invariant.1
