use Rattle.std.proofs.Common.{◌∙◌, rules, arith}
use Rattle.words.proofs.Splitting.{words_skipped}
use Rattle.words.proofs.lines.skip_blanks.Goals as goal

pub loop-index-preserved : goal.loop-index-preserved
loop-index-preserved c = words_skipped c.args.line.now c.loop-index.index (omega arith) (search rules) ∙ c.loop-index.invariant
