use Rattle.journal.proofs.LineLaws.{lines_apart}
use Rattle.journal.proofs.laws.law_journals_are_told_apart.Goals as goal

pub returns : goal.returns
returns c chain one other f g small few e = lines_apart chain one other f g small few e
