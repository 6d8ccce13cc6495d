use Rattle.std.proofs.Common.{◌≡◌, ◌+◌, drop}
use Rattle.session.specs.Lines.{before, is_letter}
use Rattle.session.proofs.lines.before_letter.Given as goal

abbrev pub invariant-loop-index : goal.invariant-loop-index
invariant-loop-index l = before is_letter l.bytes ≡ l.index + before is_letter (drop l.index l.bytes)
