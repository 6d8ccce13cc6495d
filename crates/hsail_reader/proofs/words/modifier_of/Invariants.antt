use Rattle.std.proofs.Common.{◌≡◌, length, map}
use Rattle.hsail_reader.specs.Rows.{modifier_view}
use Rattle.hsail_reader.specs.Words.{modifier_among}
use Rattle.hsail_reader.proofs.words.modifier_of.Given as goal

abbrev pub invariant-loop-rest : goal.invariant-loop-rest
invariant-loop-rest l = modifier_among (map modifier_view l.rest) l.bytes ≡ modifier_among (map modifier_view l.rows) l.bytes

abbrev pub decreases-loop-rest : goal.decreases-loop-rest
decreases-loop-rest l = length l.rest
