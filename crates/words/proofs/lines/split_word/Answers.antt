use Rattle.std.proofs.Common.{sym, ◌∙◌, rules, arith}
use Rattle.words.proofs.Splitting.{no_bytes, words_more, word_found, rest_at, all_word}
use Rattle.words.proofs.lines.split_word.Goals as goal

pub returns-then-is_empty : goal.returns-then-is_empty
returns-then-is_empty c = sym c.skip_blanks-text.ensures.words ∙ no_bytes c.skip_blanks-text.result.now (search rules)

pub loop-index-preserved : goal.loop-index-preserved
loop-index-preserved c = words_more c.skip_blanks-text.result.now c.loop-index.index (omega arith) (search rules) ∙ c.loop-index.invariant

pub returns-then-is_blank : goal.returns-then-is_blank
returns-then-is_blank c =
    let text = c.skip_blanks-text.result.now in
    rest_at text c.loop-index.index c.split_at.result.0.now c.split_at.result.1.now (sym c.skip_blanks-text.ensures.words ∙ sym c.loop-index.invariant)
    (word_found text c.loop-index.index (omega arith) (sym c.is_blank.ensures ∙ c.if-is_blank.true) (c.skip_blanks-text.ensures.begins (omega arith)))
    c.split_at.ensures.front c.split_at.ensures.back

pub returns : goal.returns
returns c =
    all_word c.skip_blanks-text.result.now c.loop-index.index (sym c.skip_blanks-text.ensures.words ∙ sym c.loop-index.invariant) (omega arith) (search rules)
