use Rattle.std.proofs.Common.{sym, ◌∙◌, arith}
use Rattle.journal.proofs.WordSteps.{words_split, words_more, words_all}
use Rattle.journal.proofs.splitting.split_word.Goals as goal

pub returns-then-is_blank : goal.returns-then-is_blank
returns-then-is_blank c =
    words_split c.args.text.now c.loop-index.index c.split_at.result.0.now c.split_at.result.1.now c.split_at-then-is_blank.result.1.now
    (omega arith) (sym c.is_blank.ensures ∙ c.if-is_blank.true) (sym c.loop-index.invariant) c.split_at.ensures.front c.split_at.ensures.back c.split_at-then-is_blank.ensures.back

pub loop-index-preserved : goal.loop-index-preserved
loop-index-preserved c = words_more c.args.text.now c.loop-index.index (omega arith) (sym c.is_blank.ensures ∙ c.if-is_blank.false) ∙ c.loop-index.invariant

pub returns : goal.returns
returns c = sym c.loop-index.invariant ∙ words_all c.args.text.now c.loop-index.index (omega arith)
