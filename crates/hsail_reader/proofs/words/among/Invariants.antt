use Rattle.std.proofs.Common.{◌≡◌, length}
use Rattle.hsail_reader.specs.Words.{type_among}
use Rattle.hsail_reader.proofs.words.among.Given as goal

abbrev pub invariant-loop-rest : goal.invariant-loop-rest
invariant-loop-rest l = type_among l.rest l.text ≡ type_among l.kinds l.text

abbrev pub decreases-loop-rest : goal.decreases-loop-rest
decreases-loop-rest l = length l.rest
