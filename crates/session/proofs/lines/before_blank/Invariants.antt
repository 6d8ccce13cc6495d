use Rattle.std.proofs.Common.{◌≡◌, ◌+◌, drop}
use Rattle.session.specs.Lines.{before, is_blank}
use Rattle.session.proofs.lines.before_blank.Given as goal

abbrev pub invariant-loop-index : goal.invariant-loop-index
invariant-loop-index l = before is_blank l.bytes ≡ l.index + before is_blank (drop l.index l.bytes)
