-- Blanks alone were passed.
use Rattle.std.proofs.Common.{◌≡◌, drop}
use Rattle.words.specs.Lines.{words}
use Rattle.words.proofs.lines.skip_blanks.Given as goal

abbrev pub invariant-loop-index : goal.invariant-loop-index
invariant-loop-index l = words (drop l.index l.line) ≡ words l.line
