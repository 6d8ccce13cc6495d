use Rattle.std.proofs.Common.{◌≡◌, length, map}
use Rattle.hsail_reader.specs.Rows.{row_view, rows}
use Rattle.hsail_reader.specs.Words.{opcode_among}
use Rattle.hsail_reader.proofs.words.instruction.Given as goal

abbrev pub invariant-loop-rows : goal.invariant-loop-rows
invariant-loop-rows l = opcode_among (map row_view l.rows) l.text ≡ opcode_among rows l.text

abbrev pub decreases-loop-rows : goal.decreases-loop-rows
decreases-loop-rows l = length l.rows
