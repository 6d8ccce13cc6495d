use Rattle.std.proofs.Common.{sym, ap, ◌∙◌}
use Rattle.words.specs.Lines.{no_words}
use Rattle.words.proofs.Splitting.{none_left}
use Rattle.words.proofs.lines.no_words.Goals as goal

pub returns : goal.returns
returns c = c.is_empty.ensures ∙ sym (none_left c.skip_blanks.result.now c.skip_blanks.ensures.begins) ∙ ap no_words c.skip_blanks.ensures.words
