use Rattle.journal.proofs.LineLaws.{line_read}
use Rattle.journal.proofs.laws.law_written_lines_are_read.Goals as goal

pub returns : goal.returns
returns c chain entry small f = line_read chain entry small f
