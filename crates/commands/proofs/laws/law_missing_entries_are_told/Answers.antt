use Rattle.commands.proofs.Entries.{opening-fault}
use Rattle.commands.proofs.laws.law_missing_entries_are_told.Goals as goal

pub returns : goal.returns
returns c = λ policy capacity. opening-fault policy capacity
