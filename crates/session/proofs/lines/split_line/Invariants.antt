-- The bytes so far belong to the first line.
use Rattle.std.proofs.Common.{◌≡◌, take, drop, []}
use Rattle.session.specs.Lines.{lines_from}
use Rattle.session.proofs.lines.split_line.Given as goal

abbrev pub invariant-loop-index : goal.invariant-loop-index
invariant-loop-index l = lines_from (take l.index l.text) (drop l.index l.text) ≡ lines_from [] l.text
