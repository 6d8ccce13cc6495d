use Rattle.hsail_reader.proofs.ModuleRows.{text_rows}
use Rattle.hsail_reader.proofs.grammar.spelled_operations_are_of_rows.Goals as goal

pub returns : goal.returns
returns c = text_rows
